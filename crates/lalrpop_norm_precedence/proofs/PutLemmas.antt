-- Items put behind others one by one, and the tables of the rules that are left; for the expansion of a grammar.
use Rattle.std.proofs.Common.{◌≡◌, ℕ, List, [], ◌∷◌, ◌++◌, refl, ap, sym, ◌∙◌, subst}
use Rattle.std.proofs.lemmas.List.{append_assoc}
use Rattle.std.specs.Prelude.{Result, Ok, Err, OnOk, flat_map}
use Rattle.lalrpop_grammar_symbols.specs.Symbols.{Text}
use Rattle.lalrpop_grammar.specs.WrittenGrammar.{Rule, WrittenItem, rules_of}
use Rattle.lalrpop_norm_theory.specs.LeveledGrammar.{leveled_item}
use Rattle.lalrpop_norm_precedence.specs.LevelTables.{AreNamedLevels, named_levels, rule_levels_view}
use Rattle.lalrpop_norm_precedence.specs.declared.level_names.levels.RuleLevels.{RuleLevels}
use Rattle.lalrpop_norm_precedence.specs.PutItems.{PutsLeveled}

-- a part more is put behind what was put before, and is gone from what is to come
pub put_behind : {A : Type 0} (old new part rest before whole : List A) → new ≡ old ++ part → before ≡ part ++ rest
    → old ++ before ≡ whole → new ++ rest ≡ whole
put_behind old new part rest before whole more here is =
    ap (λ l. l ++ rest) more ∙ append_assoc old part rest ∙ ap (λ l. old ++ l) (sym here) ∙ is

-- what follows from a thing that holds where an answer is no fault holds there too
pub on_ok_from : {T E : Type 0} (P Q : Type 0) (r : Result T E) → (P → Q) → OnOk r P → OnOk r Q
on_ok_from P Q (Ok x) to h = to h
on_ok_from P Q (Err e) to h = h

-- a rule is put by the first table
pub puts_rule : (rule : Rule) (levels : RuleLevels) (tables left : List RuleLevels) (old new : List WrittenItem)
    → tables ≡ levels ∷ left
    → ((f : Text → ℕ → Text) → rule_levels_view levels ≡ named_levels f rule
    → new ≡ old ++ leveled_item f (WrittenItem.nonterminal rule))
    → PutsLeveled (WrittenItem.nonterminal rule) tables left old new
puts_rule rule levels tables left old new split put = λ f more named.
    let tabled : AreNamedLevels f (rule ∷ more) (levels ∷ left) = subst (λ ts. AreNamedLevels f (rule ∷ more) ts) split named in
    (put f tabled.0, tabled.1)

rules_split : (item : WrittenItem) (rest : List WrittenItem) → rules_of (item ∷ rest) ≡ rules_of (item ∷ []) ++ rules_of rest
rules_split (WrittenItem.nonterminal r) rest = refl
rules_split (WrittenItem.match_token entries place) rest = refl
rules_split (WrittenItem.extern_token block) rest = refl
rules_split (WrittenItem.intern_token entries) rest = refl
rules_split (WrittenItem.import text) rest = refl

-- one item more is put behind the others, and the tables of the others are left
pub puts_on : (f : Text → ℕ → Text) (item : WrittenItem) (rest before whole : List WrittenItem) (tables left : List RuleLevels)
    (old new : List WrittenItem) → before ≡ item ∷ rest → PutsLeveled item tables left old new
    → (old ++ flat_map (leveled_item f) before ≡ whole) × AreNamedLevels f (rules_of before) tables
    → (new ++ flat_map (leveled_item f) rest ≡ whole) × AreNamedLevels f (rules_of rest) left
puts_on f item rest before whole tables left old new here put h =
    let named : AreNamedLevels f (rules_of (item ∷ []) ++ rules_of rest) tables =
    subst (λ rs. AreNamedLevels f rs tables) (ap rules_of here ∙ rules_split item rest) h.1 in
    let p = put f (rules_of rest) named in (
      put_behind old new (leveled_item f item) (flat_map (leveled_item f) rest) (flat_map (leveled_item f) before) whole p.0
          (ap (flat_map (leveled_item f)) here) h.0,
      p.1,
    )
