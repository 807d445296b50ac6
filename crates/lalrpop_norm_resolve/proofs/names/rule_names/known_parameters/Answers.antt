use Rattle.std.proofs.Common.{◌≡◌, ◌∷◌, ◌+◌, ◌∙◌, ◌||◌, ap, sym, arith, false, map, drop, subst, [], Some}
use Rattle.std.proofs.lemmas.List.{drop_all, drop_more}
use Rattle.lalrpop_grammar_symbols.specs.declared.names.NonterminalString.{NonterminalString}
use Rattle.lalrpop_grammar_symbols.specs.Symbols.{Text}
use Rattle.lalrpop_grammar.specs.Views.{nonterminal_view}
use Rattle.lalrpop_grammar_language.specs.Enabled.{has_text}
use Rattle.lalrpop_grammar_rules.specs.RuleTable.{knows}
use Rattle.std.specs.Prelude.{Bool, List}
use Rattle.lalrpop_norm_resolve.specs.Searches.{first_known}
use Rattle.lalrpop_norm_resolve.proofs.KnownLemmas.{found_twice, known-same, known_here, known_step, none_twice}
use Rattle.lalrpop_norm_resolve.proofs.DuplicateLemmas.{twice_told}
use Rattle.lalrpop_norm_resolve.proofs.RuleNameLemmas.{name_on}
use Rattle.lalrpop_norm_resolve.proofs.names.rule_names.known_parameters.Goals as goal

abbrev names_in : List NonterminalString → List Text
names_in xs = map (λ m. m.0) xs

pub loop-parameter-init : goal.loop-parameter-init
loop-parameter-init c = record {
  known = λ n.
      let none : knows c.new-names.result n ≡ false = grind (arith, c.new-names.ensures.empty) in
      sym (ap (λ (b : Bool). b || has_text n (names_in c.args.rule.now.args)) none);
  once =
      known-same (λ m. m) (knows c.new-names.result) (λ m. false)
      (λ n. grind (arith, c.new-names.ensures.empty)) (names_in c.args.rule.now.args);
}

pub loop-parameter-preserved : goal.loop-parameter-preserved
loop-parameter-preserved c =
    let xs = c.args.rule.now.args in
    let i = c.loop-parameter.parameter-index in
    let x = c.parameter-item.result in
    let ys = c.as_slice-parameter-items.result.now in
    let there : drop i ys ≡ x ∷ drop (i + 1) ys =
    drop_more ys i x c.loop-parameter-test.true ∙ ap (λ y. y ∷ drop (i + 1) ys) (sym c.parameter-item.is) in
    let here : drop i xs ≡ x ∷ drop (i + 1) xs =
    subst (λ l. drop i l ≡ x ∷ drop (i + 1) l) c.as_slice-parameter-items.ensures there in
    record {
      known = λ n.
          name_on n (has_text n (names_in xs)) (knows c.loop-parameter.names n) (knows c.add_name.new.names n) x.0
          (names_in (drop (i + 1) xs)) (names_in (drop i xs)) (ap names_in here) (c.loop-parameter.invariant.known n)
          (c.in_ok-add_name.ensures n);
      once =
          known_step (λ m. m) (knows c.loop-parameter.names) (knows c.add_name.new.names) x.0 (names_in (drop (i + 1) xs))
          (sym c.has_name.ensures ∙ c.if-has_name.false) c.in_ok-add_name.ensures
          ∙ ap (λ l. first_known (λ m. m) (knows c.loop-parameter.names) (names_in l)) (sym here)
          ∙ c.loop-parameter.invariant.once;
    }

pub returns-then-has_name-clause-fault : goal.returns-then-has_name-clause-fault
returns-then-has_name-clause-fault c =
    let xs = c.args.rule.now.args in
    let i = c.loop-parameter.parameter-index in
    let x = c.parameter-item.result in
    let ys = c.as_slice-parameter-items.result.now in
    let there : drop i ys ≡ x ∷ drop (i + 1) ys =
    drop_more ys i x c.loop-parameter-test.true ∙ ap (λ y. y ∷ drop (i + 1) ys) (sym c.parameter-item.is) in
    let here : drop i xs ≡ x ∷ drop (i + 1) xs =
    subst (λ l. drop i l ≡ x ∷ drop (i + 1) l) c.as_slice-parameter-items.ensures there in
    let found : first_known (λ m. m) (λ m. false) (names_in xs) ≡ Some x.0 =
    sym c.loop-parameter.invariant.once
    ∙ ap (λ l. first_known (λ m. m) (knows c.loop-parameter.names) (names_in l)) here
    ∙ known_here (λ m. m) (knows c.loop-parameter.names) x.0 (names_in (drop (i + 1) xs))
    (sym c.has_name.ensures ∙ c.if-has_name.true) in
    twice_told (nonterminal_view c.args.rule.now) x.0 _ (found_twice (names_in xs) x.0 found) c.duplicate_name.ensures

pub returns-clause-once : goal.returns-clause-once
returns-clause-once c =
    let xs = c.args.rule.now.args in
    let i = c.loop-parameter.parameter-index in
    let ys = c.as_slice-parameter-items.result.now in
    let behind : drop i xs ≡ [] =
    subst (λ l. drop i l ≡ []) c.as_slice-parameter-items.ensures (drop_all i ys (omega (arith, c.loop-parameter-test.false))) in
    none_twice (names_in xs) (sym c.loop-parameter.invariant.once
    ∙ ap (λ l. first_known (λ m. m) (knows c.loop-parameter.names) (names_in l)) behind)
