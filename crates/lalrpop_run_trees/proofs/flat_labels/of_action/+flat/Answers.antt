use Rattle.std.proofs.Common.{◌≡◌, ◌+◌, ◌++◌, ◌∷◌, [], ◌∙◌, List, ap, subst, sym, arith, drop, length}
use Rattle.std.specs.Prelude.{IfOk, None, Some, Vec, option_map}
use Rattle.std.specs.Option.{option_and_then}
use Rattle.std.specs.Borrow.{Bor}
use Rattle.lalrpop_grammar_repr.specs.declared.action.InlineActionFnDefn.{InlineActionFnDefn}
use Rattle.lalrpop_grammar_repr.specs.declared.action.InlinedSymbol.{InlinedSymbol}
use Rattle.std.specs.declared.alloc.Global.{Global}
use Rattle.lalrpop_run_trees.specs.declared.flat_labels.mark.LabelMark.{LabelMark}
use Rattle.std.proofs.lemmas.List.{drop_all, drop_more}
use Rattle.lalrpop_run_trees.specs.FlatLabels.{flat_of, marks_in, put_marks, record_at}
use Rattle.lalrpop_run_trees.specs.declared.flat_labels.mark.LabelMark.TheVariants as marks
use Rattle.lalrpop_run_trees.proofs.FlatLabelLemmas.{all_made, drop_some, flat_by_record, option_map_same, made_given, made_kept, symbols_left}
use Rattle.lalrpop_run_trees.proofs.flat_labels.of_action.+flat.Goals as goal
use Rattle.lalrpop_run_trees.proofs.flat_labels.of_action.+flat.Goals.{marks_of_record-in-Given+in_ok-push-in-Given}
use Rattle.lalrpop_run_trees.proofs.flat_labels.of_action.+flat.Goals.{marks_of_record-in-Kept+in-Some+in_ok-more-in-Kept+in-Some-2+in_ok-append-in-Kept}

pub flat_label-returns-in-Some-2 : goal.flat_label-returns-in-Some-2
flat_label-returns-in-Some-2 t c =
    let actions = c.args.actions.now in
    let flat = flat_of actions c.args.given in
    let k = c.args.action.0 in
    let i = c.in-Some.record.now in
    let symbols = c.as_slice-symbols.result.now in
    let outer = c.as_slice.result.now in
    let record_is : record_at actions k ≡ Some i =
    sym c.record_of.ensures.at
    ∙ ap (option_map (λ (r : Bor InlineActionFnDefn). r.now)) c.in-Some.is in
    let same : put_marks flat c.index-number.result symbols outer ≡ flat_of actions c.args.given k c.args.count =
    ap (λ n. put_marks flat n symbols outer) c.index-number.ensures
    ∙ ap (λ ss. put_marks flat k ss outer) c.as_slice-symbols.ensures
    ∙ ap (put_marks flat k i.symbols) c.as_slice.ensures.value
    ∙ ap (option_and_then (put_marks flat k i.symbols)) (sym (ap marks_in c.in-Some-2.is) ∙ c.in_ok-outer-in-Some.ensures)
    ∙ ap (λ (ss : List InlinedSymbol). option_and_then (put_marks flat k i.symbols) (flat i.action.0 (length ss))) c.as_slice-symbols.ensures
    ∙ sym (flat_by_record actions c.args.given k c.args.count i (omega (arith, c.if-number-given.false, c.index-number.ensures)) record_is
    (omega (arith, c.if-index-number.true, c.index.ensures, c.index-number.ensures))) in
    subst (λ x. IfOk c.marks_of_record.result (λ made. marks_in made ≡ x)) same c.marks_of_record.ensures

pub flat_label-returns-in-None : goal.flat_label-returns-in-None
flat_label-returns-in-None t c =
    let actions = c.args.actions.now in
    let flat = flat_of actions c.args.given in
    let k = c.args.action.0 in
    let i = c.in-Some.record.now in
    let record_is : record_at actions k ≡ Some i =
    sym c.record_of.ensures.at
    ∙ ap (option_map (λ (r : Bor InlineActionFnDefn). r.now)) c.in-Some.is in
    let none : flat i.action.0 (length i.symbols) ≡ None =
    ap (λ (ss : List InlinedSymbol). flat i.action.0 (length ss)) (sym c.as_slice-symbols.ensures)
    ∙ sym c.in_ok-outer-in-Some.ensures ∙ ap marks_in c.in-None.is in
    sym (flat_by_record actions c.args.given k c.args.count i (omega (arith, c.if-number-given.false, c.index-number.ensures)) record_is
    (omega (arith, c.if-index-number.true, c.index.ensures, c.index-number.ensures))
    ∙ ap (option_and_then (put_marks flat k i.symbols)) none)

pub marks_of_record-loop-mark-init : goal.marks_of_record-loop-mark-init
marks_of_record-loop-mark-init t c = rw c.new-made.ensures.items (sym (option_map_same (put_marks (flat_of c.args.actions.now c.args.given) c.args.below c.args.symbols.now c.args.outer.now)))

pub marks_of_record-loop-mark-preserved : goal.marks_of_record-loop-mark-preserved
marks_of_record-loop-mark-preserved t c = elim c.match-mark.branch [
  | marks_of_record-in-Given+in_ok-push-in-Given w ↦
      let flat = flat_of c.args.actions.now c.args.given in
      let outer = c.args.outer.now in
      let entries = drop c.loop-mark.next c.args.symbols.now in
      let i = c.loop-mark.mark-index in
      let here : drop i outer ≡ marks.Given w.in-Given.number ∷ drop (i + 1) outer =
      drop_more outer i (marks.Given 0) c.loop-mark-test.true ∙ ap (λ m. m ∷ drop (i + 1) outer) w.in-Given.is in
      rw (ap (λ (v : Vec LabelMark Global). v.items) w.made-is ∙ w.in_ok-push-in-Given.ensures.items, w.next-is)
      (made_given flat c.args.below (put_marks flat c.args.below c.args.symbols.now outer) c.loop-mark.made.items entries w.in-Given.number
      (drop (i + 1) outer)
      (c.loop-mark.invariant ∙ ap (λ ms. option_map (λ x. c.loop-mark.made.items ++ x) (put_marks flat c.args.below entries ms)) here))
  | marks_of_record-in-Kept+in-Some+in_ok-more-in-Kept+in-Some-2+in_ok-append-in-Kept w ↦
      let flat = flat_of c.args.actions.now c.args.given in
      let outer = c.args.outer.now in
      let symbols = c.args.symbols.now in
      let s = w.in-Some.symbol.now in
      let next = c.loop-mark.next in
      let i = c.loop-mark.mark-index in
      let made = c.loop-mark.made.items in
      let whole = put_marks flat c.args.below symbols outer in
      let here : drop i outer ≡ marks.Kept ∷ drop (i + 1) outer =
      drop_more outer i (marks.Given 0) c.loop-mark-test.true ∙ ap (λ m. m ∷ drop (i + 1) outer) w.in-Kept.is in
      let there : drop next symbols ≡ s ∷ drop (next + 1) symbols =
      drop_more symbols next s w.in-Some.ensures.lookup.3.0 ∙ ap (λ x. x ∷ drop (next + 1) symbols) (sym w.in-Some.ensures.lookup.1) in
      rw (ap (λ (v : Vec LabelMark Global). v.items) w.made-is ∙ w.in_ok-append-in-Kept.ensures.items, w.next-is)
      (made_kept flat c.args.below whole made s (drop (next + 1) symbols) (drop (i + 1) outer) w.in-Some-2.more.items
      (sym w.in_ok-more-in-Kept.ensures ∙ ap marks_in w.in-Some-2.is)
      (c.loop-mark.invariant
      ∙ ap (λ ms. option_map (λ x. made ++ x) (put_marks flat c.args.below (drop next symbols) ms)) here
      ∙ ap (λ ss. option_map (λ x. made ++ x) (put_marks flat c.args.below ss (marks.Kept ∷ drop (i + 1) outer))) there))
]

pub marks_of_record-returns-then-next-symbols : goal.marks_of_record-returns-then-next-symbols
marks_of_record-returns-then-next-symbols t c =
    let flat = flat_of c.args.actions.now c.args.given in
    let symbols = c.args.symbols.now in
    let next = c.loop-mark.next in
    let made = c.loop-mark.made.items in
    let whole = put_marks flat c.args.below symbols c.args.outer.now in
    let more = drop_some symbols next (omega (arith, c.if-next-symbols.true)) in
    sym (symbols_left flat c.args.below whole made more.0 (drop (next + 1) symbols)
    (c.loop-mark.invariant
    ∙ ap (λ ms. option_map (λ x. made ++ x) (put_marks flat c.args.below (drop next symbols) ms))
    (drop_all c.loop-mark.mark-index c.args.outer.now (omega (arith, c.loop-mark-test.false)))
    ∙ ap (λ ss. option_map (λ x. made ++ x) (put_marks flat c.args.below ss [])) more.1))

pub marks_of_record-returns-else-next-symbols : goal.marks_of_record-returns-else-next-symbols
marks_of_record-returns-else-next-symbols t c =
    let flat = flat_of c.args.actions.now c.args.given in
    let symbols = c.args.symbols.now in
    let next = c.loop-mark.next in
    let made = c.loop-mark.made.items in
    let whole = put_marks flat c.args.below symbols c.args.outer.now in
    sym (all_made flat c.args.below whole made
    (c.loop-mark.invariant
    ∙ ap (λ ms. option_map (λ x. made ++ x) (put_marks flat c.args.below (drop next symbols) ms))
    (drop_all c.loop-mark.mark-index c.args.outer.now (omega (arith, c.loop-mark-test.false)))
    ∙ ap (λ ss. option_map (λ x. made ++ x) (put_marks flat c.args.below ss []))
    (drop_all next symbols (omega (arith, c.if-next-symbols.false)))))
