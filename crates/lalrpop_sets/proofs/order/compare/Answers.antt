use Rattle.std.proofs.Common.{◌∙◌, refl}
use Rattle.lalrpop_sets.specs.RangeWalks.{ranges_behind, ranges_to_come}
use Rattle.lalrpop_sets.proofs.OrderLemmas.{compared_first, compared_step, heads_none, heads_some, order_ended}
use Rattle.lalrpop_sets.proofs.order.compare.Goals as goal

pub loop-range-init : goal.loop-range-init
loop-range-init c = record { one = c.requires.one; other = c.requires.other; same = refl }

pub returns-then-range-next : goal.returns-then-range-next
returns-then-range-next c =
    c.cmp.ensures
    ∙ compared_first _ (ranges_to_come c.loop-range.one) (ranges_to_come c.loop-range.other) c.in-Some.range c.in-Some.next _ _
    c.loop-range.invariant (heads_some c.loop-range.one.head c.loop-range.other.head (ranges_behind c.loop-range.one) (ranges_behind c.loop-range.other) c.in-Some.range c.in-Some.next c.in-Some.ensures).0 (heads_some c.loop-range.one.head c.loop-range.other.head (ranges_behind c.loop-range.one) (ranges_behind c.loop-range.other) c.in-Some.range c.in-Some.next c.in-Some.ensures).1 c.if-range-next.true

pub loop-range-preserved : goal.loop-range-preserved
loop-range-preserved c =
    (compared_step _ (ranges_to_come c.loop-range.one) (ranges_to_come c.loop-range.other) (ranges_to_come c.pass_up_to.new.self)
    (ranges_to_come c.pass_up_to-in-Some.new.self) c.overlap-last.result.last c.in-Some.range c.in-Some.next (ranges_behind c.loop-range.one)
    (ranges_behind c.loop-range.other) c.loop-range.invariant (heads_some c.loop-range.one.head c.loop-range.other.head (ranges_behind c.loop-range.one) (ranges_behind c.loop-range.other) c.in-Some.range c.in-Some.next c.in-Some.ensures).0 (heads_some c.loop-range.one.head c.loop-range.other.head (ranges_behind c.loop-range.one) (ranges_behind c.loop-range.other) c.in-Some.range c.in-Some.next c.in-Some.ensures).1 c.if-range-next.false c.overlap-last.ensures.last
    c.pass_up_to.ensures c.pass_up_to-in-Some.ensures).0

pub loop-range-smaller : goal.loop-range-smaller
loop-range-smaller c =
    (compared_step _ (ranges_to_come c.loop-range.one) (ranges_to_come c.loop-range.other) (ranges_to_come c.pass_up_to.new.self)
    (ranges_to_come c.pass_up_to-in-Some.new.self) c.overlap-last.result.last c.in-Some.range c.in-Some.next (ranges_behind c.loop-range.one)
    (ranges_behind c.loop-range.other) c.loop-range.invariant (heads_some c.loop-range.one.head c.loop-range.other.head (ranges_behind c.loop-range.one) (ranges_behind c.loop-range.other) c.in-Some.range c.in-Some.next c.in-Some.ensures).0 (heads_some c.loop-range.one.head c.loop-range.other.head (ranges_behind c.loop-range.one) (ranges_behind c.loop-range.other) c.in-Some.range c.in-Some.next c.in-Some.ensures).1 c.if-range-next.false c.overlap-last.ensures.last
    c.pass_up_to.ensures c.pass_up_to-in-Some.ensures).1

pub returns : goal.returns
returns c =
    c.end_order.ensures
    ∙ order_ended c.loop-range.one.head c.loop-range.other.head (ranges_behind c.loop-range.one) (ranges_behind c.loop-range.other) (heads_none c.loop-range.one.head c.loop-range.other.head (ranges_behind c.loop-range.one) (ranges_behind c.loop-range.other) c.in_default.ensures)
    ∙ c.loop-range.invariant.same
