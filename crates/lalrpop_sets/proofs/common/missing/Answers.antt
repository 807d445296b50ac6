use Rattle.lalrpop_sets.specs.RangeWalks.{ranges_behind, ranges_to_come}
use Rattle.lalrpop_sets.proofs.CommonLemmas.{missing_all, missing_before, missing_last, missing_start, missing_step}
use Rattle.lalrpop_sets.proofs.OrderLemmas.{heads_none, heads_some}
use Rattle.lalrpop_sets.proofs.common.missing.Goals as goal

pub loop-range-init : goal.loop-range-init
loop-range-init c = missing_start (ranges_to_come c.args.one) (ranges_to_come c.args.other) c.requires.one c.requires.other

pub returns-then-wanted-range : goal.returns-then-wanted-range
returns-then-wanted-range c =
    let at = heads_some c.loop-range.one.head c.loop-range.other.head (ranges_behind c.loop-range.one) (ranges_behind c.loop-range.other)
    c.in-Some.range c.in-Some.wanted c.in-Some.ensures in
    missing_before
    (ranges_to_come c.args.one) (ranges_to_come c.args.other) (ranges_to_come c.loop-range.one) (ranges_to_come c.loop-range.other)
    c.loop-range.invariant c.in-Some.range c.in-Some.wanted (ranges_behind c.loop-range.one) (ranges_behind c.loop-range.other) at.0 at.1 c.if-wanted-range.true

pub loop-range-preserved : goal.loop-range-preserved
loop-range-preserved c =
    let at = heads_some c.loop-range.one.head c.loop-range.other.head (ranges_behind c.loop-range.one) (ranges_behind c.loop-range.other)
    c.in-Some.range c.in-Some.wanted c.in-Some.ensures in
    (missing_step
    (ranges_to_come c.args.one) (ranges_to_come c.args.other) (ranges_to_come c.loop-range.one) (ranges_to_come c.loop-range.other)
    c.loop-range.invariant c.in-Some.range c.in-Some.wanted (ranges_behind c.loop-range.one) (ranges_behind c.loop-range.other) at.0 at.1 (ranges_to_come c.pass_had.new.one)
    (ranges_to_come c.pass_had.new.other) c.if-wanted-range.false c.pass_had.ensures.one c.pass_had.ensures.other).0

pub loop-range-smaller : goal.loop-range-smaller
loop-range-smaller c =
    let at = heads_some c.loop-range.one.head c.loop-range.other.head (ranges_behind c.loop-range.one) (ranges_behind c.loop-range.other)
    c.in-Some.range c.in-Some.wanted c.in-Some.ensures in
    (missing_step
    (ranges_to_come c.args.one) (ranges_to_come c.args.other) (ranges_to_come c.loop-range.one) (ranges_to_come c.loop-range.other)
    c.loop-range.invariant c.in-Some.range c.in-Some.wanted (ranges_behind c.loop-range.one) (ranges_behind c.loop-range.other) at.0 at.1 (ranges_to_come c.pass_had.new.one)
    (ranges_to_come c.pass_had.new.other) c.if-wanted-range.false c.pass_had.ensures.one c.pass_had.ensures.other).1

pub returns-in-Some-head : goal.returns-in-Some-head
returns-in-Some-head c =
    missing_last (ranges_to_come c.args.one) (ranges_to_come c.args.other) c.loop-range.one.head c.loop-range.other.head
    (ranges_behind c.loop-range.one) (ranges_behind c.loop-range.other) c.in-Some-head.wanted c.loop-range.invariant
    (heads_none c.loop-range.one.head c.loop-range.other.head (ranges_behind c.loop-range.one) (ranges_behind c.loop-range.other)
    c.in_default.ensures) c.in-Some-head.is

pub returns-in-None : goal.returns-in-None
returns-in-None c =
    missing_all (ranges_to_come c.args.one) (ranges_to_come c.args.other) (ranges_to_come c.loop-range.one) c.loop-range.other.head
    (ranges_behind c.loop-range.other) c.loop-range.invariant c.in-None.is
