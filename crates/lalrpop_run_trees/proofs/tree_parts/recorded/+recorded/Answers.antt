use Rattle.std.proofs.Common.{◌∙◌, ◌+◌, ◌∷◌, [], ℕ, ap, arith, drop, length, map, refl, subst, sym}
use Rattle.std.specs.Prelude.{slice_get}
use Rattle.std.proofs.lemmas.List.{drop_more, length-map}
use Rattle.std.proofs.lemmas.Option.{slice_get_past, slice_get_read}
use Rattle.lalrpop_grammar_repr.specs.declared.action.InlinedSymbol.{InlinedSymbol}
use Rattle.lalrpop_run_trees.specs.ActionLabels.{TellEntries, TellsLabel}
use Rattle.lalrpop_run_trees.specs.PartViews.{AllWithin, LieWithin, TellsAllKept, TellsKept, shown_part}
use Rattle.lalrpop_run_trees.proofs.RecordedLemmas.{given_kept, has_record, inlined_kept, keep_end, keep_stop, keep_turn, kept_symbols}
use Rattle.lalrpop_run_trees.proofs.RecordedLemmas.{made_kept, made_none, record_below}
use Rattle.lalrpop_run_trees.proofs.ShownPartLemmas.{within_joined, within_there, within_within}
use Rattle.lalrpop_run_trees.proofs.tree_parts.recorded.+recorded.Goals as goal
use Rattle.lalrpop_run_trees.proofs.tree_parts.recorded.+recorded.Goals.{
  parts_by_action-in_default-record_of-via-in-Some-record_of+else-index,
  parts_by_action-in_default-record_of-via-in_default-record_of,
}

pub parts_by_action-returns-in-Some-clause-kept : goal.parts_by_action-returns-in-Some-clause-kept
parts_by_action-returns-in-Some-clause-kept t c = λ label told.
    let origins = c.args.origins.now in
    let at = ap (slice_get origins) (sym c.index.ensures)
    ∙ slice_get_read origins (length origins) c.index.result c.in-Some.origin.now refl c.in-Some.ensures.lookup.3.0
    c.in-Some.ensures.lookup.1 in
    given_kept c.args.actions.now origins c.args.action.0 c.args.count label c.args.part told c.in-Some.origin.now at
    c.parts_by_count.result c.parts_by_count.ensures.kept

pub parts_by_action-returns-in-Some-2-clause-kept : goal.parts_by_action-returns-in-Some-2-clause-kept
parts_by_action-returns-in-Some-2-clause-kept t c = λ label told.
    let origins = c.args.origins.now in
    let none = ap (slice_get origins) (sym c.index.ensures) ∙ slice_get_past origins c.index.result c.in_default.ensures.lookup.3 in
    made_kept c.args.actions.now origins c.args.action.0 c.args.count label c.args.part told none c.in-Some-record_of.record.now
    c.in-Some-record_of.ensures.found c.in-Some-2.parts c.as_slice-symbols.result.now c.as_slice-symbols.ensures c.as_slice.result.now
    c.as_slice.ensures.value (λ outer h.
    subst (TellsKept outer c.args.part) c.in-Some-2.is (c.in_ok-parts-in-Some-record_of.ensures.kept outer h)) c.parts_of_record.result
    (λ n entries h.
    c.parts_of_record.ensures.kept n entries
    (subst (λ (below : ℕ). TellEntries c.args.actions.now origins below c.as_slice-symbols.result.now n entries)
    (sym c.index-in-Some-2.ensures) h))

pub parts_by_action-returns-in-Some-2-clause-within : goal.parts_by_action-returns-in-Some-2-clause-within
parts_by_action-returns-in-Some-2-clause-within t c =
    c.parts_of_record.ensures.within c.args.part
    (subst (AllWithin c.args.part) (sym c.as_slice.ensures.value)
    (subst (LieWithin c.args.part) c.in-Some-2.is c.in_ok-parts-in-Some-record_of.ensures.within))

pub parts_by_action-returns-in-None-clause-kept : goal.parts_by_action-returns-in-None-clause-kept
parts_by_action-returns-in-None-clause-kept t c = λ label told.
    let origins = c.args.origins.now in
    let none = ap (slice_get origins) (sym c.index.ensures) ∙ slice_get_past origins c.index.result c.in_default.ensures.lookup.3 in
    made_none c.args.actions.now origins c.args.action.0 c.args.count label c.args.part told none c.in-Some-record_of.record.now
    c.in-Some-record_of.ensures.found c.as_slice-symbols.result.now c.as_slice-symbols.ensures
    (λ outer h. subst (TellsKept outer c.args.part) c.in-None.is (c.in_ok-parts-in-Some-record_of.ensures.kept outer h))

pub parts_by_action-returns-in_default-record_of-clause-kept : goal.parts_by_action-returns-in_default-record_of-clause-kept
parts_by_action-returns-in_default-record_of-clause-kept t c = λ label told us h.
    let origins = c.args.origins.now in
    let none = ap (slice_get origins) (sym c.index.ensures) ∙ slice_get_past origins c.index.result c.in_default.ensures.lookup.3 in
    elim c.in_default-record_of.branch [
      | parts_by_action-in_default-record_of-via-in-Some-record_of+else-index w ↦
          absurd (omega (
            arith,
            record_below c.args.actions.now origins c.args.action.0 c.args.count label c.args.part told none
                w.in-Some-record_of.record.now w.in-Some-record_of.ensures.found,
            w.if-index.false,
          ))
      | parts_by_action-in_default-record_of-via-in_default-record_of w ↦
          absurd (has_record c.args.actions.now origins c.args.action.0 c.args.count label c.args.part told none
          w.in_default-record_of.ensures.none)
    ]

pub parts_of_record-returns-then-parts-symbols-clause-kept : goal.parts_of_record-returns-then-parts-symbols-clause-kept
parts_of_record-returns-then-parts-symbols-clause-kept t c = λ count entries told us h.
    c.if-parts-symbols.true
    (sym (length-map c.args.parts.now shown_part)
    ∙ kept_symbols c.args.actions.now c.args.origins.now c.args.below c.args.symbols.now count entries told
    (map shown_part c.args.parts.now) us h)

pub parts_of_record-returns-in-None-clause-kept : goal.parts_of_record-returns-in-None-clause-kept
parts_of_record-returns-in-None-clause-kept t c = λ count entries told us h.
    let all = c.args.symbols.now in
    let parts = c.args.parts.now in
    let i = c.loop-place.place in
    keep_stop c.args.actions.now c.args.origins.now c.args.below all parts i c.index-symbols-place.result c.index-parts-place.result
    (drop_more all i c.index-symbols-place.result c.loop-place-test.true
    ∙ ap (λ x. x ∷ drop (i + 1) all) (sym c.index-symbols-place.is))
    (drop_more parts i c.index-parts-place.result (omega (arith, c.loop-place-test.true, c.if-parts-symbols.false))
    ∙ ap (λ x. x ∷ drop (i + 1) parts) (sym c.index-parts-place.is))
    c.loop-place.kept.items entries (c.loop-place.invariant.kept count entries told)
    (λ n first h2. subst (TellsAllKept first (c.index-parts-place.result ∷ [])) c.in-None.is (c.in_ok-more.ensures.kept n first h2)) us h

pub parts_of_record-loop-place-preserved : goal.parts_of_record-loop-place-preserved
parts_of_record-loop-place-preserved t c =
    let all = c.args.symbols.now in
    let parts = c.args.parts.now in
    let i = c.loop-place.place in
    record {
      kept = λ count entries told.
          keep_turn c.args.actions.now c.args.origins.now c.args.below all parts i c.index-symbols-place.result
          c.index-parts-place.result
          (drop_more all i c.index-symbols-place.result c.loop-place-test.true
          ∙ ap (λ x. x ∷ drop (i + 1) all) (sym c.index-symbols-place.is))
          (drop_more parts i c.index-parts-place.result (omega (arith, c.loop-place-test.true, c.if-parts-symbols.false))
          ∙ ap (λ x. x ∷ drop (i + 1) parts) (sym c.index-parts-place.is))
          c.loop-place.kept.items c.in-Some.more.items _ entries (c.loop-place.invariant.kept count entries told)
          (λ n first h. subst (TellsAllKept first (c.index-parts-place.result ∷ [])) c.in-Some.is (c.in_ok-more.ensures.kept n first h))
          c.in_ok-append-in-Some.ensures.items;
      within = λ whole h.
          let there = drop_more parts i c.index-parts-place.result (omega (arith, c.loop-place-test.true, c.if-parts-symbols.false))
          ∙ ap (λ x. x ∷ drop (i + 1) parts) (sym c.index-parts-place.is) in
          subst (AllWithin whole) (sym c.in_ok-append-in-Some.ensures.items)
          (within_joined whole c.loop-place.kept.items c.in-Some.more.items (c.loop-place.invariant.within whole h)
          (within_within whole c.index-parts-place.result c.in-Some.more.items
          (within_there whole c.index-parts-place.result parts (drop (i + 1) parts) i there h)
          (subst (LieWithin c.index-parts-place.result) c.in-Some.is c.in_ok-more.ensures.within)));
    }

pub parts_of_record-returns-clause-kept : goal.parts_of_record-returns-clause-kept
parts_of_record-returns-clause-kept t c = λ count entries told.
    keep_end c.args.actions.now c.args.origins.now c.args.below c.args.symbols.now c.args.parts.now c.loop-place.place
    (omega (arith, c.loop-place-test.false)) (omega (arith, c.loop-place-test.false, c.if-parts-symbols.false))
    c.loop-place.kept.items entries (c.loop-place.invariant.kept count entries told)

pub parts_of_symbol-returns-then-index-below-clause-kept : goal.parts_of_symbol-returns-then-index-below-clause-kept
parts_of_symbol-returns-then-index-below-clause-kept t c = λ count entries told.
    inlined_kept c.args.actions.now c.args.origins.now c.args.below c.in-Inlined.action c.in-Inlined.side count entries c.args.part
    c.parts_by_action.result
    (subst (λ (s : InlinedSymbol). TellEntries c.args.actions.now c.args.origins.now c.args.below (s ∷ []) count entries)
    c.in-Inlined.is told)
    (λ label h. c.parts_by_action.ensures.kept label
    (subst (λ (n : ℕ). TellsLabel c.args.actions.now c.args.origins.now c.in-Inlined.action.0 n label) (sym c.len.ensures) h))
