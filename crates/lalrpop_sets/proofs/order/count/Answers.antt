use Rattle.std.proofs.Common.{◌+◌, length, sym, subst, arith}
use Rattle.lalrpop_sets.specs.RangeWalks.{numbers_to_come, ranges_to_come}
use Rattle.lalrpop_sets.proofs.OrderLemmas.{CountedTo, counted_end, counted_more, counted_ordered, counted_start}
use Rattle.lalrpop_sets.proofs.order.count.Goals as goal

pub loop-range-init : goal.loop-range-init
loop-range-init c = counted_start (ranges_to_come c.args.walk) c.requires

pub numbers_in-counted-requires : goal.numbers_in-counted-requires
numbers_in-counted-requires c =
    counted_ordered _ c.loop-range.counted (ranges_to_come c.loop-range.walk) c.in-Some.range (ranges_to_come c.next_range.new.self)
    c.loop-range.invariant c.in-Some.ensures

pub overflow_add-counted : goal.overflow_add-counted
overflow_add-counted c =
    let k = c.loop-range.invariant in
    omega (arith, k.few, k.small, c.numbers_in-counted.ensures.count, c.numbers_in-counted.ensures.small)

pub loop-range-preserved : goal.loop-range-preserved
loop-range-preserved c =
    subst (λ n. CountedTo (length (numbers_to_come c.args.walk)) (ranges_to_come c.next_range.new.self) (c.loop-range.counted + n)) (sym c.numbers_in-counted.ensures.count)
    (counted_more _ c.loop-range.counted (ranges_to_come c.loop-range.walk) c.in-Some.range (ranges_to_come c.next_range.new.self)
    c.loop-range.invariant c.in-Some.ensures c.numbers_in-counted.ensures.small)

pub returns : goal.returns
returns c = counted_end _ c.loop-range.counted (ranges_to_come c.loop-range.walk) c.loop-range.invariant c.in_default.ensures.0
