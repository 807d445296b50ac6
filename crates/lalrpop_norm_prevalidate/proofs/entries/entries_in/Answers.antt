use Rattle.std.proofs.Common.{◌≡◌, ◌∷◌, ◌+◌, ap, sym, ◌∙◌, drop, map, List}
use Rattle.std.proofs.lemmas.List.{drop_more}
use Rattle.std.specs.Borrow.{Bor}
use Rattle.lalrpop_grammar.specs.Views.{match_item_view, item_view}
use Rattle.lalrpop_grammar.specs.WrittenGrammar.{WrittenEntry}
use Rattle.lalrpop_grammar.specs.declared.grammar.GrammarItem.{GrammarItem}
use Rattle.lalrpop_grammar.specs.declared.match_token.MatchItem.{MatchItem}
use Rattle.lalrpop_norm_prevalidate.specs.Entries.{entries_in_item, entries_in_items}
use Rattle.lalrpop_norm_prevalidate.proofs.EntryLemmas.{moved}
use Rattle.lalrpop_norm_prevalidate.proofs.entries.entries_in.Goals as goal

abbrev entry_of : Bor MatchItem → WrittenEntry
entry_of e = match_item_view e.now

abbrev entries_of : List GrammarItem → List WrittenEntry
entries_of items = entries_in_items (map item_view items)

pub loop-item-preserved : goal.loop-item-preserved
loop-item-preserved c =
    let xs = c.args.items.now in
    let i = c.loop-item.item-index in
    let x = c.item-item.result in
    let here : drop i xs ≡ x ∷ drop (i + 1) xs =
    drop_more xs i x c.loop-item-test.true ∙ ap (λ y. y ∷ drop (i + 1) xs) (sym c.item-item.is) in
    moved (entries_of xs) (map entry_of c.loop-item.entries.items) (entries_of (drop i xs))
    (entries_in_item (item_view x)) (entries_of (drop (i + 1) xs)) (map entry_of c.push_item.new.entries.items)
    (ap entries_of here) c.loop-item.invariant c.in_ok-push_item.ensures
