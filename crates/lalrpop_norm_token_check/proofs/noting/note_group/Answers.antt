use Rattle.std.proofs.Common.{◌≡◌, [], ◌∷◌, ◌++◌, ◌+◌, ap, sym, subst, ◌∙◌, map, take}
use Rattle.std.proofs.lemmas.List.{map_more, take_all}
use Rattle.lalrpop_grammar.specs.Views.{match_item_view}
use Rattle.lalrpop_norm_token_check.specs.Noting.{NotesEntries}
use Rattle.lalrpop_norm_token_check.proofs.NotingLemmas.{notes_nothing, notes_more}
use Rattle.lalrpop_norm_token_check.proofs.noting.note_group.Goals as goal

pub loop-entry-init : goal.loop-entry-init
loop-entry-init c = notes_nothing c.args.noted.now

pub loop-entry-preserved : goal.loop-entry-preserved
loop-entry-preserved c =
    let xs = c.args.group.now in
    let i = c.loop-entry.entry-index in
    let x = c.entry-item.result in
    let next : map match_item_view (take (i + 1) xs) ≡ map match_item_view (take i xs) ++ match_item_view x ∷ [] =
    map_more match_item_view xs i x c.loop-entry-test.true
    ∙ ap (λ y. map match_item_view (take i xs) ++ match_item_view y ∷ []) (sym c.entry-item.is) in
    subst (NotesEntries c.args.noted.now c.note_entry.new.noted) (sym next)
    (notes_more c.args.noted.now c.loop-entry.noted c.note_entry.new.noted (map match_item_view (take i xs)) (match_item_view x ∷ [])
    c.loop-entry.invariant c.in_ok-note_entry.ensures)

pub returns : goal.returns
returns c =
    subst (λ xs. NotesEntries c.args.noted.now c.loop-entry.noted (map match_item_view xs))
    (take_all c.loop-entry.entry-index c.args.group.now c.loop-entry-test.false) c.loop-entry.invariant
