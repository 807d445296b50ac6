-- Rules under the names of levels are those of the leveled grammar; for the expansion of a rule.
use Rattle.std.proofs.Common.{◌≡◌, ℕ, Bool, true, false, List, [], ◌∷◌, ◌++◌, refl, ap, ap₂, sym, ◌∙◌, cond, map}
use Rattle.std.proofs.lemmas.Bool.{eqb-true}
use Rattle.std.specs.Prelude.{◌==◌, ◌&&◌, Option, Some, None, zip}
use Rattle.lalrpop_grammar_symbols.specs.Symbols.{Text, Closed, syms, WrittenSymbol}
use Rattle.lalrpop_grammar_symbols.specs.declared.names.NonterminalString.{NonterminalString}
use Rattle.lalrpop_grammar.specs.WrittenGrammar.{Alternative, Rule}
use Rattle.lalrpop_grammar_language.specs.Closing.{occurrences_in}
use Rattle.lalrpop_grammar_language.specs.Levels.{Rank, has_levels, loosest, tighter, reaches, allowed_level, allowed_level_above}
use Rattle.lalrpop_grammar_rules.specs.Views.{binding_of, closed_view}
use Rattle.lalrpop_grammar_rules.specs.declared.closed.closed_symbol.ClosedSymbol.{ClosedSymbol}
use Rattle.lalrpop_norm_theory.specs.Between.{rule_between}
use Rattle.lalrpop_norm_theory.specs.LevelRules.{level_name}
use Rattle.lalrpop_norm_theory.specs.LeveledGrammar.{has_rank_level, is_the_level, leveled_alternative, leveled_rules, levels_in_order}
use Rattle.lalrpop_norm_theory.specs.LeveledGrammar.{no_rules, parameters_alone, pass_downs, ranked_alternatives, rule_at_level}
use Rattle.lalrpop_norm_theory.specs.LeveledGrammar.{without_ranks}
use Rattle.lalrpop_norm_precedence.specs.LevelTables.{named_levels}
use Rattle.lalrpop_norm_precedence.specs.Occurrences.{name_by_side}
use Rattle.lalrpop_norm_precedence.specs.NamedAlternatives.{OccurrenceNaming, alternative_by_naming}
use Rattle.lalrpop_norm_precedence.specs.LevelBuckets.{of_level}
use Rattle.lalrpop_norm_precedence.specs.RulesByNames.{LevelAndName, naming_at, pass_downs_by_name, reached_name, rule_by_names}
use Rattle.lalrpop_norm_precedence.specs.RulesByNames.{all_rules_by_names, rules_by_names, unreached_name}
use Rattle.lalrpop_norm_precedence.proofs.FallingLemmas.{Follow, levels-follow, loosest-first, tighter-first}
use Rattle.lalrpop_norm_theory.proofs.LevelOrderLemmas.{front}
use Rattle.lalrpop_norm_precedence.proofs.RenameByNumberLemmas.{rename_listed_same}

-- parameters

alone : (ps : List NonterminalString)
    → zip (map (λ p. p.0) ps) (map (λ p. Closed.faulty) ps) ≡ parameters_alone (map (λ p. p.0) ps)
alone [] = refl
alone (p ∷ ps) = ap (λ l. (p.0, Closed.faulty) ∷ l) (alone ps)

-- bound to what stands for nothing, parameters are left alone
pub bound_to_nothing : (ps qs : List NonterminalString) (args : List ClosedSymbol) → qs ≡ ps
    → map closed_view args ≡ map (λ p. Closed.faulty) ps → binding_of qs args ≡ parameters_alone (map (λ p. p.0) ps)
bound_to_nothing ps qs args same nothing =
    ap (λ l. zip (map (λ (p : NonterminalString). p.0) l) (map closed_view args)) same
    ∙ ap (zip (map (λ (p : NonterminalString). p.0) ps)) nothing ∙ alone ps

-- names

either_same : (f : Text → ℕ → Text) (o : Text) (b : Bool) (j t : ℕ)
    → level_name f o (cond b (Some j) (Some t)) ≡ cond b (f o j) (f o t)
either_same f o true j t = refl
either_same f o false j t = refl

both_same : {A : Type 0} (b : Bool) (x : A) → x ≡ cond b x x
both_same true x = refl
both_same false x = refl

module _ (r : Rule) (f : Text → ℕ → Text) (most : ℕ) (loose : loosest (rule_between r) ≡ Some most) where
  abbrev pair : ℕ → LevelAndName
  pair j = (j, f r.name j)

  abbrev naming : ℕ → List ℕ → OccurrenceNaming
  naming j ns = naming_at r (parameters_alone r.parameters) (pair most) (pair j) (map pair ns)

  abbrev count_in : Alternative → ℕ
  count_in a = occurrences_in (parameters_alone r.parameters) r.name (syms a.expr)

  -- the name of an occurrence is that of the greatest level that it may have
  names_are : (j : ℕ) (ns : List ℕ) → tighter (rule_between r) j ≡ front ns → (k : Rank) → k.level ≡ j → (n i : ℕ)
      → level_name f r.name (allowed_level (rule_between r) (Some k) n i)
      ≡ name_by_side k.side n (reached_name (pair most) (pair j) (map pair ns)) (unreached_name (pair most) (map pair ns)) i
  names_are j [] next k same n i =
      ap (λ t. level_name f r.name (allowed_level_above (rule_between r) k (reaches k.side n i) t))
      (ap (tighter (rule_between r)) same ∙ next)
      ∙ ap (level_name f r.name) loose ∙ both_same (reaches k.side n i) (f r.name most)
  names_are j (t ∷ ts) next k same n i =
      ap (λ u. level_name f r.name (allowed_level_above (rule_between r) k (reaches k.side n i) u))
      (ap (tighter (rule_between r)) same ∙ next)
      ∙ either_same f r.name (reaches k.side n i) k.level t
      ∙ ap (λ l. cond (reaches k.side n i) (f r.name l) (f r.name t)) same

  module _ (j : ℕ) (ns : List ℕ) (next : tighter (rule_between r) j ≡ front ns) where
    alternative_is : (a : Alternative) (k : Rank) → k.level ≡ j
        → alternative_by_naming (naming j ns) (a, Some k) ≡ leveled_alternative f r (a, Some k)
    alternative_is a k same =
        ap (λ (xs : List WrittenSymbol). record a { expr = xs; attributes = without_ranks a.attributes })
        (rename_listed_same no_rules (parameters_alone r.parameters) r.name
        (λ n i. name_by_side k.side (count_in a) (naming j ns).reached (naming j ns).others i) f (λ i. Some i)
        (allowed_level (rule_between r) (Some k) (count_in a)) (λ i. sym (names_are j ns next k same (count_in a) i)) 0 a.expr)

    alternatives_are : (ps : List (Alternative × Option Rank))
        → map (alternative_by_naming (naming j ns)) (of_level j ps) ≡ map (leveled_alternative f r) (of_level j ps)
    alternatives_are [] = refl
    alternatives_are (p ∷ ps) = go p.1 (alternatives_are ps)
      where
        pick : (k : Rank) (b : Bool) → (k.level == j) ≡ b
            → map (alternative_by_naming (naming j ns)) (of_level j ps) ≡ map (leveled_alternative f r) (of_level j ps)
            → map (alternative_by_naming (naming j ns)) (cond b ((p.0, Some k) ∷ of_level j ps) (of_level j ps))
            ≡ map (leveled_alternative f r) (cond b ((p.0, Some k) ∷ of_level j ps) (of_level j ps))
        pick k true e more = ap₂ (λ (x : Alternative) (xs : List Alternative). x ∷ xs)
            (alternative_is p.0 k (eqb-true k.level j e)) more
        pick k false e more = more

        go : (rank : Option Rank)
            → map (alternative_by_naming (naming j ns)) (of_level j ps) ≡ map (leveled_alternative f r) (of_level j ps)
            → map (alternative_by_naming (naming j ns)) (cond (has_rank_level j rank) ((p.0, rank) ∷ of_level j ps) (of_level j ps))
            ≡ map (leveled_alternative f r) (cond (has_rank_level j rank) ((p.0, rank) ∷ of_level j ps) (of_level j ps))
        go None more = more
        go (Some k) more = pick k (k.level == j) refl more

    passes : (ms : List ℕ) → pass_downs_by_name r (map pair ms) ≡ pass_downs f r (front ms)
    passes [] = refl
    passes (m ∷ ms) = refl

    level_rule_is : (ranked : List (Alternative × Option Rank)) → ranked ≡ of_level j (ranked_alternatives r)
        → rule_by_names r (parameters_alone r.parameters) (pair most) (pair j) (map pair ns) ranked ≡ rule_at_level f r j
    level_rule_is ranked same =
        ap (λ (v : Option ℕ). record r {
          public = r.public && is_the_level j v;
          name = f r.name j;
          alternatives = map (alternative_by_naming (naming j ns)) ranked ++ pass_downs_by_name r (map pair ns);
        }) (sym loose)
        ∙ ap (λ (alts : List Alternative). record r {
          public = r.public && is_the_level j (loosest (rule_between r));
          name = f r.name j;
          alternatives = alts;
        })
        (ap (λ l. map (alternative_by_naming (naming j ns)) l ++ pass_downs_by_name r (map pair ns)) same
        ∙ ap₂ (λ (xs ys : List Alternative). xs ++ ys) (alternatives_are (ranked_alternatives r))
        (passes ns ∙ ap (pass_downs f r) (sym next)))

  rules_are : (ranked : ℕ → List (Alternative × Option Rank)) → ((i : ℕ) → ranked i ≡ of_level i (ranked_alternatives r))
      → (ns : List ℕ) → Follow (levels_in_order (rule_between r)) ns
      → rules_by_names r (parameters_alone r.parameters) (pair most) ranked (map pair ns) ≡ map (rule_at_level f r) ns
  rules_are ranked same [] h = refl
  rules_are ranked same (j ∷ ns) h =
      ap₂ (λ (x : Rule) (xs : List Rule). x ∷ xs) (level_rule_is j ns (tighter-first (rule_between r) j ns h.0) (ranked j) (same j))
      (rules_are ranked same ns h.1)

-- lists that are equal begin and go on alike
pub no_cons : {A B : Type 0} (x : A) (xs : List A) → [] ≡ x ∷ xs → B
no_cons x xs e = cc

-- two lists that are equal begin with the same member
pub same_first : {A : Type 0} (x y : A) (xs ys : List A) → x ∷ xs ≡ y ∷ ys → x ≡ y
same_first x y xs ys e = cc

-- the levels of a rule under their names, where it has levels
named_is : (r : Rule) (f : Text → ℕ → Text) → has_levels (rule_between r) ≡ true
    → named_levels f r ≡ map (λ j. (j, f r.name j)) (levels_in_order (rule_between r))
named_is r f has = ap (λ b. cond b (map (λ j. (j, f r.name j)) (levels_in_order (rule_between r))) []) has

leveled_is : (r : Rule) (f : Text → ℕ → Text) → has_levels (rule_between r) ≡ true
    → leveled_rules f r ≡ map (rule_at_level f r) (levels_in_order (rule_between r))
leveled_is r f has = ap (λ b. cond b (map (rule_at_level f r) (levels_in_order (rule_between r))) (r ∷ [])) has

-- a rule without a level that can be read is parted into none
parted_in_none : (r : Rule) (f : Text → ℕ → Text) (named : List LevelAndName) → has_levels (rule_between r) ≡ true
    → named ≡ named_levels f r → named ≡ [] → [] ≡ leveled_rules f r
parted_in_none r f named has are none = go (levels_in_order (rule_between r)) refl
  where
    go : (ns : List ℕ) → levels_in_order (rule_between r) ≡ ns → [] ≡ leveled_rules f r
    go [] e = sym (leveled_is r f has ∙ ap (map (rule_at_level f r)) e)
    go (n ∷ ns) e =
        no_cons (n, f r.name n) (map (λ j. (j, f r.name j)) ns)
        (sym none ∙ are ∙ named_is r f has ∙ ap (map (λ j. (j, f r.name j))) e)

parted_by_names : (r : Rule) (f : Text → ℕ → Text) (ranked : ℕ → List (Alternative × Option Rank))
    → ((i : ℕ) → ranked i ≡ of_level i (ranked_alternatives r)) → (named : List LevelAndName) (first : LevelAndName)
    (more : List LevelAndName) → has_levels (rule_between r) ≡ true → named ≡ named_levels f r → named ≡ first ∷ more
    → rules_by_names r (parameters_alone r.parameters) first ranked named ≡ leveled_rules f r
parted_by_names r f ranked same named first more has are split = go (levels_in_order (rule_between r)) refl
  where
    go : (ns : List ℕ) → levels_in_order (rule_between r) ≡ ns
        → rules_by_names r (parameters_alone r.parameters) first ranked named ≡ leveled_rules f r
    go [] e =
        no_cons first more (sym (sym split ∙ are ∙ named_is r f has ∙ ap (map (λ j. (j, f r.name j))) e))
    go (n ∷ ns) e =
        let loose : loosest (rule_between r) ≡ Some n = loosest-first (rule_between r) ∙ ap front e in
        let head : first ≡ (n, f r.name n) =
        same_first first (n, f r.name n) more (map (λ j. (j, f r.name j)) ns)
        (sym split ∙ are ∙ named_is r f has ∙ ap (map (λ j. (j, f r.name j))) e) in
        ap (λ l. rules_by_names r (parameters_alone r.parameters) l ranked named) head
        ∙ ap (rules_by_names r (parameters_alone r.parameters) (n, f r.name n) ranked) (are ∙ named_is r f has)
        ∙ rules_are r f n loose ranked same (levels_in_order (rule_between r)) (levels-follow (rule_between r))
        ∙ sym (leveled_is r f has)

-- a rule is parted into the rules under the names of its levels
pub parted_as_named : (r : Rule) (f : Text → ℕ → Text) (ranked : ℕ → List (Alternative × Option Rank))
    → ((i : ℕ) → ranked i ≡ of_level i (ranked_alternatives r)) → has_levels (rule_between r) ≡ true
    → (named : List LevelAndName) → named ≡ named_levels f r
    → all_rules_by_names r (parameters_alone r.parameters) ranked named ≡ leveled_rules f r
parted_as_named r f ranked same has [] are = parted_in_none r f [] has are refl
parted_as_named r f ranked same has (first ∷ more) are = parted_by_names r f ranked same (first ∷ more) first more has are refl
