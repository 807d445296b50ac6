use Rattle.std.proofs.Common.{◌≡◌, ◌∷◌, ◌+◌, ap, sym, ◌∙◌, drop}
use Rattle.std.proofs.lemmas.List.{drop_more}
use Rattle.lalrpop_grammar.specs.Views.{item_view}
use Rattle.lalrpop_grammar_language.specs.Enabled.{has_text}
use Rattle.lalrpop_grammar_rules.specs.RuleTable.{bares_of_item, bares_of_items, knows}
use Rattle.lalrpop_grammar_rules.proofs.BareNameLemmas.{items_split, names_on}
use Rattle.lalrpop_grammar_rules.proofs.bares.bare_names.Goals as goal

pub loop-item-preserved : goal.loop-item-preserved
loop-item-preserved c = λ n.
    let xs = c.args.items.now in
    let i = c.loop-item.item-index in
    let x = c.item-item.result in
    let here : drop i xs ≡ x ∷ drop (i + 1) xs =
    drop_more xs i x c.loop-item-test.true ∙ ap (λ y. y ∷ drop (i + 1) xs) (sym c.item-item.is) in
    names_on n (has_text n (bares_of_items xs)) (knows c.loop-item.bares n) (knows c.add_bares.new.bares n)
    (bares_of_item (item_view x)) (bares_of_items (drop (i + 1) xs)) (bares_of_items (drop i xs))
    (ap bares_of_items here ∙ items_split x (drop (i + 1) xs)) (c.loop-item.invariant n)
    (c.in_ok-add_bares.ensures n)
