use Rattle.std.proofs.Common.{◌≡◌, ◌+◌, ◌<◌, ◌∙◌, true, false, drop, length, suc, slice_set, sym, ap, arith}
use Rattle.lalrpop_sets.specs.Ranges.{range_of}
use Rattle.lalrpop_sets.specs.RangeEdits.{begins_behind, widened_to}
use Rattle.lalrpop_sets.proofs.PlaceLemmas.{at_place, joined, replaced}
use Rattle.lalrpop_sets.proofs.RangeEditLemmas.{joins_next, joins_none, behind_within}
use Rattle.lalrpop_sets.proofs.ranges.widen_up_to.Goals as goal

pub remove-next-requires : goal.remove-next-requires
remove-next-requires c =
    let e = behind_within c.args.number (c.args.place + 1) c.args.ranges.now.items
    (ap (λ l. begins_behind c.args.number (drop (c.args.place + 1) l)) (sym c.as_slice.ensures.value) ∙ sym c.is_next.ensures ∙ c.if-is_next.true) in
    omega (arith, e, c.args.ranges.now.ok.0)

pub returns-then-is_next-clause-items : goal.returns-then-is_next-clause-items
returns-then-is_next-clause-items c =
    let rs = c.args.ranges.now.items in
    let p = c.args.place in
    let z = c.index-range.result.now in
    let y = c.remove-next.result in
    let b : begins_behind c.args.number (drop (p + 1) rs) ≡ true =
    ap (λ l. begins_behind c.args.number (drop (p + 1) l)) (sym c.as_slice.ensures.value) ∙ sym c.is_next.ensures ∙ c.if-is_next.true in
    let l : p + 1 < length rs = behind_within c.args.number (p + 1) rs b in
    ap (λ s. slice_set s p (range_of z.first y.last)) c.remove-next.ensures.items
    ∙ joined (widened_to c.args.number) rs p z y _ l c.index-range.ensures c.remove-next.ensures.value
    (joins_next z.first c.args.number y (drop (suc (suc p)) rs)
    (ap (begins_behind c.args.number) (sym (at_place rs (p + 1) y l c.remove-next.ensures.value)) ∙ b))

pub returns-else-is_next-clause-items : goal.returns-else-is_next-clause-items
returns-else-is_next-clause-items c =
    let rs = c.args.ranges.now.items in
    let p = c.args.place in
    let z = c.index-range.result.now in
    let q : p + 1 ≡ suc p = omega arith in
    let b : begins_behind c.args.number (drop (suc p) rs) ≡ false =
    ap (λ n. begins_behind c.args.number (drop n rs)) (sym q)
    ∙ ap (λ l. begins_behind c.args.number (drop (p + 1) l)) (sym c.as_slice.ensures.value) ∙ sym c.is_next.ensures ∙ c.if-is_next.false in
    replaced (widened_to c.args.number) rs p z _ c.requires.place c.index-range.ensures
    (joins_none z.first c.args.number (drop (suc p) rs) b)
