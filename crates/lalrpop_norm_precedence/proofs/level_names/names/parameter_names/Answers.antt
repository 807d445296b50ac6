use Rattle.std.proofs.Common.{◌≡◌, ◌∷◌, ◌+◌, ◌∙◌, ap, sym, map, drop, subst}
use Rattle.std.proofs.lemmas.List.{drop_more}
use Rattle.std.proofs.lemmas.Map.Text.{hash_map_updates_str}
use Rattle.std.specs.Prelude.{List}
use Rattle.lalrpop_grammar_symbols.specs.declared.names.NonterminalString.{NonterminalString}
use Rattle.lalrpop_grammar_symbols.specs.Symbols.{Text}
use Rattle.lalrpop_norm_precedence.proofs.StepLemmas.{parameter_known}
use Rattle.lalrpop_norm_precedence.proofs.level_names.names.parameter_names.Goals as goal

abbrev names_in : List NonterminalString → List Text
names_in xs = map (λ m. m.0) xs

pub loop-parameter-preserved : goal.loop-parameter-preserved
loop-parameter-preserved c =
    let xs = c.args.rule.now.args in
    let i = c.loop-parameter.parameter-index in
    let x = c.parameter-item.result in
    let ys = c.as_slice-parameter-items.result.now in
    let there : drop i ys ≡ x ∷ drop (i + 1) ys =
    drop_more ys i x c.loop-parameter-test.true ∙ ap (λ y. y ∷ drop (i + 1) ys) (sym c.parameter-item.is) in
    let here : drop i xs ≡ x ∷ drop (i + 1) xs =
    subst (λ l. drop i l ≡ x ∷ drop (i + 1) l) c.as_slice-parameter-items.ensures there in
    parameter_known c.loop-parameter.names c.insert.new.self x.0 (names_in (drop (i + 1) xs)) (names_in (drop i xs)) (names_in xs)
    (ap names_in here)
    (rw c.as_str.ensures at (hash_map_updates_str c.as_str.result.now c.loop-parameter.names c.insert.new.self _
    c.in_ok-insert.ensures.updates))
    c.loop-parameter.invariant
