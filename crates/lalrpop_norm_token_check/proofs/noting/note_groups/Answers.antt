use Rattle.std.proofs.Common.{◌≡◌, [], ◌∷◌, ◌++◌, ◌+◌, ap, sym, subst, ◌∙◌, map, take, List}
use Rattle.std.proofs.lemmas.List.{map_more, take_all}
use Rattle.lalrpop_grammar.specs.Views.{match_item_view}
use Rattle.lalrpop_grammar.specs.WrittenGrammar.{WrittenEntry}
use Rattle.lalrpop_grammar.specs.declared.match_token.MatchContents.{MatchContents}
use Rattle.lalrpop_norm_token_check.specs.Blocks.{entries_in_groups}
use Rattle.lalrpop_norm_token_check.specs.Noting.{NotesEntries}
use Rattle.lalrpop_norm_token_check.proofs.NotingLemmas.{notes_nothing, notes_more, groups_more}
use Rattle.lalrpop_norm_token_check.proofs.noting.note_groups.Goals as goal

abbrev group_view : MatchContents → List WrittenEntry
group_view g = map match_item_view g.items

pub loop-group-init : goal.loop-group-init
loop-group-init c = notes_nothing c.args.noted.now

pub loop-group-preserved : goal.loop-group-preserved
loop-group-preserved c =
    let xs = c.args.groups.now in
    let i = c.loop-group.group-index in
    let x = c.group-item.result in
    let next : map group_view (take (i + 1) xs) ≡ map group_view (take i xs) ++ group_view x ∷ [] =
    map_more group_view xs i x c.loop-group-test.true
    ∙ ap (λ y. map group_view (take i xs) ++ group_view y ∷ []) (sym c.group-item.is) in
    subst (NotesEntries c.args.noted.now c.note_group.new.noted)
    (sym (ap entries_in_groups next ∙ groups_more (map group_view (take i xs)) (group_view x)))
    (notes_more c.args.noted.now c.loop-group.noted c.note_group.new.noted (entries_in_groups (map group_view (take i xs))) (group_view x)
    c.loop-group.invariant (rw c.as_slice.ensures at c.in_ok-note_group.ensures))

pub returns : goal.returns
returns c =
    subst (λ xs. NotesEntries c.args.noted.now c.loop-group.noted (entries_in_groups (map group_view xs)))
    (take_all c.loop-group.group-index c.args.groups.now c.loop-group-test.false) c.loop-group.invariant
