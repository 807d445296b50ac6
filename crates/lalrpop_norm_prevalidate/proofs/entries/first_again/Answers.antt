use Rattle.std.proofs.Common.{◌≡◌, [], ◌∷◌, ◌++◌, ◌+◌, ap, sym, subst, ◌∙◌, drop, map, take}
use Rattle.std.specs.Borrow.{Bor}
use Rattle.std.proofs.lemmas.List.{drop_more, map_more, take_all}
use Rattle.lalrpop_grammar_symbols.specs.Views.{span_view}
use Rattle.lalrpop_grammar.specs.Views.{match_item_view}
use Rattle.lalrpop_grammar.specs.WrittenGrammar.{WrittenEntry}
use Rattle.lalrpop_grammar.specs.declared.match_token.MatchItem.{MatchItem}
use Rattle.lalrpop_norm_prevalidate.specs.Entries.{AreListedOnce}
use Rattle.lalrpop_norm_prevalidate.proofs.AgainLemmas.{no_entries, again_here, cut_at}
use Rattle.lalrpop_norm_prevalidate.proofs.SetLemmas.{holds_nothing, seen_more, seen_before, there_already, not_there}
use Rattle.lalrpop_norm_prevalidate.proofs.entries.first_again.Goals as goal

abbrev entry_of : Bor MatchItem → WrittenEntry
entry_of e = match_item_view e.now

pub loop-entry-init : goal.loop-entry-init
loop-entry-init c = (holds_nothing c.new-literals.result c.new-literals.ensures.empty, no_entries)

pub returns-then-not-is_first : goal.returns-then-not-is_first
returns-then-not-is_first c =
    let xs = c.args.entries.now in
    let i = c.loop-entry.entry-index in
    let x = c.entry-item.result in
    let here : drop i xs ≡ x ∷ drop (i + 1) xs =
    drop_more xs i x c.loop-entry-test.true ∙ ap (λ y. y ∷ drop (i + 1) xs) (sym c.entry-item.is) in
    let there = there_already c.in_ok-is_first.is_first _ c.in_ok-is_first.ensures.added c.if-not-is_first.true in
    again_here (map entry_of xs) (map entry_of (take i xs)) (entry_of x) (map entry_of (drop (i + 1) xs)) (span_view c.span_of.result)
    (cut_at entry_of xs i x here) c.loop-entry.invariant.1
    (seen_before c.loop-entry.literals c.literal_in.result (map entry_of (take i xs)) (entry_of x) c.literal_in.ensures
    c.loop-entry.invariant there)
    (sym c.span_of.ensures)

pub loop-entry-preserved : goal.loop-entry-preserved
loop-entry-preserved c =
    let xs = c.args.entries.now in
    let i = c.loop-entry.entry-index in
    let x = c.entry-item.result in
    let next : map entry_of (take (i + 1) xs) ≡ map entry_of (take i xs) ++ entry_of x ∷ [] =
    map_more entry_of xs i x c.loop-entry-test.true ∙ ap (λ y. map entry_of (take i xs) ++ entry_of y ∷ []) (sym c.entry-item.is) in
    let absent = not_there c.in_ok-is_first.is_first _ c.in_ok-is_first.ensures.added c.if-not-is_first.false in
    seen_more c.loop-entry.literals c.insert.new.self c.literal_in.result (map entry_of (take i xs)) (map entry_of (take (i + 1) xs))
    (entry_of x) c.literal_in.ensures next c.loop-entry.invariant absent c.in_ok-is_first.ensures.updates.0

pub returns : goal.returns
returns c =
    subst AreListedOnce (ap (map entry_of) (take_all c.loop-entry.entry-index c.args.entries.now c.loop-entry-test.false))
    c.loop-entry.invariant.1
