use Rattle.std.proofs.Common.{◌≡◌, ◌∷◌, ◌+◌, ap, sym, ◌∙◌, drop, map}
use Rattle.std.proofs.lemmas.List.{drop_more}
use Rattle.std.specs.Prelude.{flat_map, option_map}
use Rattle.lalrpop_grammar_symbols.specs.Views.{span_view}
use Rattle.lalrpop_grammar.specs.Views.{item_view}
use Rattle.lalrpop_norm_prevalidate.specs.Names.{first_reserved, names_in_item}
use Rattle.lalrpop_norm_prevalidate.proofs.NameLemmas.{found_here, none_here}
use Rattle.lalrpop_norm_prevalidate.proofs.names.reserved_in_items.Goals as goal

pub returns-in-Some : goal.returns-in-Some
returns-in-Some c =
    let xs = c.args.items.now in
    let i = c.loop-item.item-index in
    let x = c.item-item.result in
    let here : drop i xs ≡ x ∷ drop (i + 1) xs =
    drop_more xs i x c.loop-item-test.true ∙ ap (λ y. y ∷ drop (i + 1) xs) (sym c.item-item.is) in
    found_here c.args.prefix.now (names_in_item (item_view x)) (flat_map names_in_item (map item_view (drop (i + 1) xs)))
    (flat_map names_in_item (map item_view (drop i xs)))
    (option_map span_view c.in_ok-found.field-0) (span_view c.in-Some.found) (first_reserved c.args.prefix.now (flat_map names_in_item
    (map item_view xs)))
    (ap (λ ds. flat_map names_in_item (map item_view ds)) here) c.in_ok-found.ensures (ap
    (option_map span_view) c.in-Some.is) c.loop-item.invariant

pub loop-item-preserved : goal.loop-item-preserved
loop-item-preserved c =
    let xs = c.args.items.now in
    let i = c.loop-item.item-index in
    let x = c.item-item.result in
    let here : drop i xs ≡ x ∷ drop (i + 1) xs =
    drop_more xs i x c.loop-item-test.true ∙ ap (λ y. y ∷ drop (i + 1) xs) (sym c.item-item.is) in
    none_here c.args.prefix.now (names_in_item (item_view x)) (flat_map names_in_item (map item_view (drop (i + 1) xs)))
    (flat_map names_in_item (map item_view (drop i xs)))
    (option_map span_view c.in_ok-found.field-0) (first_reserved c.args.prefix.now (flat_map names_in_item (map item_view xs)))
    (ap (λ ds. flat_map names_in_item (map item_view ds)) here) c.in_ok-found.ensures (ap
    (option_map span_view) c.in_default.is) c.loop-item.invariant
