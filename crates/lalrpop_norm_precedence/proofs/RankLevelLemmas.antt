-- The levels of a rule, alternative by alternative; for the walk that collects them.
use Rattle.std.proofs.Common.{◌≡◌, ℕ, Bool, true, false, List, [], ◌∷◌, refl, ap, sym, ◌∙◌, cond}
use Rattle.std.specs.Prelude.{Option, Some, None, map, filter_map, option_map, codes, if◌then◌else◌}
use Rattle.std.specs.List.{list_any, cons_option}
use Rattle.std.specs.Str.{bytes_eq}
use Rattle.std.proofs.lemmas.Bool.{or_parts}
use Rattle.lalrpop_grammar_symbols.specs.Symbols.{Text}
use Rattle.lalrpop_grammar.specs.WrittenGrammar.{Attr, attr_id, Alternative, Rule}
use Rattle.lalrpop_grammar_language.specs.Enabled.{Choice, choice_of, has_attr, EnabledRule}
use Rattle.lalrpop_grammar_language.specs.Levels.{Rank, rank_after, has_levels, levels, with_ranks, first_attr, level_in}
use Rattle.lalrpop_grammar_rules.specs.Ranks.{said_level, said_assoc}
use Rattle.lalrpop_norm_theory.specs.Between.{rule_between, with_origins}
use Rattle.lalrpop_norm_theory.specs.LeveledGrammar.{falling_levels, levels_in_order}

-- the rank of an alternative, after that of the one before it
abbrev pub rank_behind : Option Rank → Alternative → Option Rank
rank_behind last a = rank_after last (said_level a.attributes) (said_assoc a.attributes)

abbrev pub level_at : Option Rank → Option ℕ
level_at r = option_map (λ k. k.level) r

-- the levels of alternatives, after one of that rank
abbrev pub levels_from : Option Rank → List Alternative → List ℕ
levels_from last [] = []
levels_from last (a ∷ more) = cons_option (level_at (rank_behind last a)) (levels_from (rank_behind last a) more)

-- without levels

abbrev without_rank : Choice → Choice × Option Rank
without_rank c = (c, None)

abbrev level_of_pair : Choice × Option Rank → Option ℕ
level_of_pair p = level_at p.1

no_levels : (cs : List Choice) → filter_map level_of_pair (map without_rank cs) ≡ []
no_levels [] = refl
no_levels (c ∷ cs) = no_levels cs

-- a rule that says no level has none
pub flat_levels : (r : EnabledRule) → has_levels r ≡ false → levels r ≡ []
flat_levels r e =
    ap (λ b. filter_map (λ p. option_map (λ k. k.level) p.1) (if b then with_ranks None r.choices else map (λ c.
    (c, None)) r.choices)) e
    ∙ no_levels r.choices

-- a rule without levels has no levels to put in order
pub flat_order : (r : EnabledRule) → has_levels r ≡ false → levels_in_order r ≡ []
flat_order r e = ap falling_levels (flat_levels r e)

no_attr : (id : Text) (attributes : List Attr) → has_attr id attributes ≡ false → first_attr id attributes ≡ None
no_attr id [] e = refl
no_attr id (a ∷ more) e = go (bytes_eq (attr_id a) id) (or_parts (bytes_eq (attr_id a) id) (has_attr id more) e).0 (no_attr id more w)
  where
    w : has_attr id more ≡ false
    w = (or_parts (bytes_eq (attr_id a) id) (has_attr id more) e).1

    go : (b : Bool) → b ≡ false → first_attr id more ≡ None → cond b (Some a) (first_attr id more) ≡ None
    go true n ih = cc
    go false n ih = ih

unsaid : (alts : List Alternative) →
    list_any (λ c. has_attr (codes "precedence") c.attributes) (map choice_of (with_origins alts)) ≡ false →
    levels_from None alts ≡ []
unsaid [] e = refl
unsaid (a ∷ alts) e =
    let parts = or_parts (has_attr (codes "precedence") a.attributes)
    (list_any (λ c. has_attr (codes "precedence") c.attributes) (map choice_of (with_origins alts))) e in
    let none : rank_behind None a ≡ None =
    ap (λ s. rank_after None (option_map level_in s) (said_assoc a.attributes)) (no_attr (codes "precedence") a.attributes parts.0) in
    ap (λ r. cons_option (level_at r) (levels_from r alts)) none ∙ unsaid alts parts.1

-- with levels

ranked : (last : Option Rank) (alts : List Alternative) →
    filter_map (λ p. option_map (λ k. k.level) p.1) (with_ranks last (map choice_of (with_origins alts))) ≡ levels_from last alts
ranked last [] = refl
ranked last (a ∷ alts) = ap (λ l. cons_option (level_at (rank_behind last a)) l) (ranked (rank_behind last a) alts)

-- the levels of a rule are those of its alternatives in order
pub levels_written : (r : Rule) → levels (rule_between r) ≡ levels_from None r.alternatives
levels_written r = go (has_levels (rule_between r)) refl
  where
    go : (b : Bool) → has_levels (rule_between r) ≡ b →
        filter_map (λ p. option_map (λ k. k.level) p.1)
        (if b then with_ranks None (rule_between r).choices else map (λ c. (c, None)) (rule_between r).choices)
        ≡ levels_from None r.alternatives
    go true e = ranked None r.alternatives
    go false e = no_levels (rule_between r).choices ∙ sym (unsaid r.alternatives e)
