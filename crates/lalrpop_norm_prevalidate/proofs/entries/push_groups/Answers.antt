use Rattle.std.proofs.Common.{◌≡◌, ◌∷◌, ◌++◌, ◌+◌, ap, sym, ◌∙◌, drop, map, List}
use Rattle.std.proofs.lemmas.List.{drop_more}
use Rattle.std.specs.Borrow.{Bor}
use Rattle.std.specs.Prelude.{flat_map}
use Rattle.lalrpop_grammar.specs.Views.{match_item_view}
use Rattle.lalrpop_grammar.specs.WrittenGrammar.{WrittenEntry}
use Rattle.lalrpop_grammar.specs.declared.match_token.MatchContents.{MatchContents}
use Rattle.lalrpop_grammar.specs.declared.match_token.MatchItem.{MatchItem}
use Rattle.lalrpop_norm_prevalidate.proofs.EntryLemmas.{moved}
use Rattle.lalrpop_norm_prevalidate.proofs.entries.push_groups.Goals as goal

abbrev entry_of : Bor MatchItem → WrittenEntry
entry_of e = match_item_view e.now

abbrev entries_of : List MatchContents → List WrittenEntry
entries_of groups = flat_map (λ es. es) (map (λ c. map match_item_view c.items) groups)

pub loop-group-preserved : goal.loop-group-preserved
loop-group-preserved c =
    let xs = c.args.groups.now in
    let i = c.loop-group.group-index in
    let x = c.group-item.result in
    let here : drop i xs ≡ x ∷ drop (i + 1) xs =
    drop_more xs i x c.loop-group-test.true ∙ ap (λ y. y ∷ drop (i + 1) xs) (sym c.group-item.is) in
    moved (map entry_of c.args.entries.now.items ++ entries_of xs) (map entry_of c.loop-group.entries.items) (entries_of (drop i xs))
    (map match_item_view x.items) (entries_of (drop (i + 1) xs)) (map entry_of c.push_entries.new.entries.items)
    (ap entries_of here) c.loop-group.invariant (rw c.as_slice.ensures at c.in_ok-push_entries.ensures)
