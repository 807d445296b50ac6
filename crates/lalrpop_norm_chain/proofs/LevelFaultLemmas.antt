-- Resolving names leaves the faults of levels as they are; for the faults that stand in the written grammar.
use Rattle.std.proofs.Common.{◌≡◌, ℕ, List, [], ◌∷◌, ◌++◌, refl, ap, ◌∙◌, cond, Bool}
use Rattle.std.specs.Prelude.{Option, Some, None, map, flat_map, zip, codes}
use Rattle.lalrpop_grammar.specs.WrittenGrammar.{Alternative, Rule, Grammar, rules_of}
use Rattle.lalrpop_grammar_language.specs.Enabled.{EnabledRule, Choice}
use Rattle.lalrpop_grammar_language.specs.Levels.{Rank, ranked_choices, has_levels, tighter, first_attr}
use Rattle.lalrpop_norm_theory.specs.Between.{rule_between}
use Rattle.lalrpop_norm_theory.specs.Resolving.{DefinedNames, defined_names, resolved_alternative, resolved_rule, resolved_grammar}
use Rattle.lalrpop_norm_theory.proofs.RuleChangeLemmas.{RuleChange, changed_pair, levels_kept, ranked_kept, tighter_kept}
use Rattle.lalrpop_norm_theory.proofs.ResolvingLemmas.{rules_resolved}
use Rattle.lalrpop_norm_theory.specs.LeveledGrammar.{ranked_alternatives}
use Rattle.lalrpop_norm_theory.specs.LevelFaults.{LevelFault, faults_of_attr, fault_of_tightest_side, faults_of_tightest}
use Rattle.lalrpop_norm_theory.specs.LevelFaults.{faults_of_first, level_faults_in, level_faults_in_rule, level_faults}
use Rattle.lalrpop_norm_chain.proofs.FlatListLemmas.{flat_of_map, flat_same, flat_of_zip}
use Rattle.lalrpop_norm_chain.proofs.MadeConditionLemmas.{ranks_stay}
use Rattle.lalrpop_norm_theory.proofs.ResolvingLemmas.{rule_changed}
use Rattle.lalrpop_norm_theory.proofs.ResolvingLemmas.{name_change}

seconds : (w : RuleChange) (r : EnabledRule) (ps : List (Choice × Option Rank)) →
    map (λ (p : Choice × Option Rank). p.1) (map (changed_pair w r) ps) ≡ map (λ (p : Choice × Option Rank). p.1) ps
seconds w r [] = refl
seconds w r (p ∷ ps) = ap (λ l. p.1 ∷ l) (seconds w r ps)

firsts : (d : DefinedNames) (r : Rule) (l : List Alternative) →
    faults_of_first (map (resolved_alternative d r.parameters) l) ≡ faults_of_first l
firsts d r [] = refl
firsts d r (a ∷ rest) = refl

module _ (d : DefinedNames) (r : Rule) where
  abbrev made : Rule
  made = resolved_rule d r

  levels_same : has_levels (rule_between made) ≡ has_levels (rule_between r)
  levels_same = ap has_levels (rule_changed d r) ∙ levels_kept (name_change d) (ranks_stay d) (rule_between r)

  tighter_same : (j : ℕ) → tighter (rule_between made) j ≡ tighter (rule_between r) j
  tighter_same j =
      ap (λ (e : EnabledRule). tighter e j) (rule_changed d r) ∙ tighter_kept (name_change d) (ranks_stay d) (rule_between r) j

  ranks_same : map (λ (p : Choice × Option Rank). p.1) (ranked_choices (rule_between made))
      ≡ map (λ (p : Choice × Option Rank). p.1) (ranked_choices (rule_between r))
  ranks_same =
      ap (λ (e : EnabledRule). map (λ (p : Choice × Option Rank). p.1) (ranked_choices e)) (rule_changed d r)
      ∙ ap (map (λ (p : Choice × Option Rank). p.1)) (ranked_kept (name_change d) (ranks_stay d) (rule_between r))
      ∙ seconds (name_change d) (rule_between r) (ranked_choices (rule_between r))

  tightest_same : (a : Alternative) (rank : Option Rank) →
      faults_of_tightest made (resolved_alternative d r.parameters a) rank ≡ faults_of_tightest r a rank
  tightest_same a None = refl
  tightest_same a (Some k) =
      ap (λ (o : Option ℕ). fault_of_tightest_side o (first_attr (codes "assoc") a.attributes)) (tighter_same k.level)

  one_same : (p : Alternative × Option Rank) →
      level_faults_in made (resolved_alternative d r.parameters p.0, p.1) ≡ level_faults_in r p
  one_same p = ap (λ (l : List LevelFault). flat_map faults_of_attr p.0.attributes ++ l) (tightest_same p.0 p.1)

  all_same : flat_map (level_faults_in made) (ranked_alternatives made) ≡ flat_map (level_faults_in r) (ranked_alternatives r)
  all_same =
      ap (λ (l : List (Option Rank)). flat_map (level_faults_in made) (zip (map (resolved_alternative d r.parameters) r.alternatives) l))
      ranks_same
      ∙ flat_of_zip (level_faults_in made) (resolved_alternative d r.parameters) r.alternatives
      (map (λ (p : Choice × Option Rank). p.1) (ranked_choices (rule_between r)))
      ∙ flat_same (λ (p : Alternative × Option Rank). level_faults_in made (resolved_alternative d r.parameters p.0, p.1))
      (level_faults_in r) (ranked_alternatives r) (λ p i. one_same p)

  rule_same : level_faults_in_rule made ≡ level_faults_in_rule r
  rule_same =
      ap (λ (b : Bool). cond b (faults_of_first made.alternatives ++ flat_map (level_faults_in made) (ranked_alternatives made)) [])
      levels_same
      ∙ ap (λ (l : List LevelFault). cond (has_levels (rule_between r)) l [])
      (ap (λ (l : List LevelFault). l ++ flat_map (level_faults_in made) (ranked_alternatives made)) (firsts d r r.alternatives)
      ∙ ap (λ (l : List LevelFault). faults_of_first r.alternatives ++ l) all_same)

-- the faults of levels are those before names were resolved
pub level_faults_stay : (g : Grammar) → level_faults (resolved_grammar g) ≡ level_faults g
level_faults_stay g =
    ap (flat_map level_faults_in_rule) (rules_resolved (defined_names g) g.items)
    ∙ flat_of_map level_faults_in_rule (resolved_rule (defined_names g)) (rules_of g.items)
    ∙ flat_same (λ (r : Rule). level_faults_in_rule (resolved_rule (defined_names g) r)) level_faults_in_rule (rules_of g.items)
    (λ r i. rule_same (defined_names g) r)
