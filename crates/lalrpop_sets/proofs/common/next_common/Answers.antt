use Rattle.std.proofs.Common.{◌∙◌, sym}
use Rattle.lalrpop_sets.specs.RangeWalks.{ranges_behind, ranges_to_come}
use Rattle.lalrpop_sets.proofs.CommonLemmas.{common_found, common_none, common_passed, common_start}
use Rattle.lalrpop_sets.proofs.OrderLemmas.{heads_none, heads_some}
use Rattle.lalrpop_sets.proofs.common.next_common.Goals as goal

pub loop-range-init : goal.loop-range-init
loop-range-init c = common_start (ranges_to_come c.args.one.now) (ranges_to_come c.args.other.now) c.requires.one c.requires.other

pub returns-then-is_some : goal.returns-then-is_some
returns-then-is_some c =
    common_found _ _ (ranges_to_come c.loop-range.one) (ranges_to_come c.loop-range.other) c.loop-range.invariant c.in-Some.range c.in-Some.next
    (ranges_behind c.loop-range.one) (ranges_behind c.loop-range.other) (ranges_to_come c.pass_common-both.new.one)
    (ranges_to_come c.pass_common-both.new.other) (heads_some c.loop-range.one.head c.loop-range.other.head (ranges_behind c.loop-range.one) (ranges_behind c.loop-range.other) c.in-Some.range c.in-Some.next c.in-Some.ensures).0 (heads_some c.loop-range.one.head c.loop-range.other.head (ranges_behind c.loop-range.one) (ranges_behind c.loop-range.other) c.in-Some.range c.in-Some.next c.in-Some.ensures).1 c.pass_common-both.result c.pass_common-both.ensures
    (sym c.is_some.ensures ∙ c.if-is_some.true)

pub loop-range-preserved : goal.loop-range-preserved
loop-range-preserved c =
    (common_passed _ _ (ranges_to_come c.loop-range.one) (ranges_to_come c.loop-range.other) c.loop-range.invariant c.in-Some.range c.in-Some.next
    (ranges_behind c.loop-range.one) (ranges_behind c.loop-range.other) (ranges_to_come c.pass_common-both.new.one)
    (ranges_to_come c.pass_common-both.new.other) (heads_some c.loop-range.one.head c.loop-range.other.head (ranges_behind c.loop-range.one) (ranges_behind c.loop-range.other) c.in-Some.range c.in-Some.next c.in-Some.ensures).0 (heads_some c.loop-range.one.head c.loop-range.other.head (ranges_behind c.loop-range.one) (ranges_behind c.loop-range.other) c.in-Some.range c.in-Some.next c.in-Some.ensures).1 c.pass_common-both.result c.pass_common-both.ensures
    (sym c.is_some.ensures ∙ c.if-is_some.false)).0

pub loop-range-smaller : goal.loop-range-smaller
loop-range-smaller c =
    (common_passed _ _ (ranges_to_come c.loop-range.one) (ranges_to_come c.loop-range.other) c.loop-range.invariant c.in-Some.range c.in-Some.next
    (ranges_behind c.loop-range.one) (ranges_behind c.loop-range.other) (ranges_to_come c.pass_common-both.new.one)
    (ranges_to_come c.pass_common-both.new.other) (heads_some c.loop-range.one.head c.loop-range.other.head (ranges_behind c.loop-range.one) (ranges_behind c.loop-range.other) c.in-Some.range c.in-Some.next c.in-Some.ensures).0 (heads_some c.loop-range.one.head c.loop-range.other.head (ranges_behind c.loop-range.one) (ranges_behind c.loop-range.other) c.in-Some.range c.in-Some.next c.in-Some.ensures).1 c.pass_common-both.result c.pass_common-both.ensures
    (sym c.is_some.ensures ∙ c.if-is_some.false)).1

pub returns : goal.returns
returns c = common_none _ _ (ranges_to_come c.loop-range.one) (ranges_to_come c.loop-range.other) c.loop-range.invariant (heads_none c.loop-range.one.head c.loop-range.other.head (ranges_behind c.loop-range.one) (ranges_behind c.loop-range.other) c.in_default.ensures)
