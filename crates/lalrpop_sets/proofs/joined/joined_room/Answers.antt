use Rattle.std.proofs.Common.{[]}
use Rattle.lalrpop_sets.specs.RangeWalks.{ranges_to_come}
use Rattle.lalrpop_sets.proofs.JoinedLemmas.{joined_more, joined_one, joined_other, joined_start}
use Rattle.lalrpop_sets.proofs.joined.joined_room.Goals as goal

pub loop-range-preserved : goal.loop-range-preserved
loop-range-preserved c =
    let ps = ranges_to_come c.loop-range.one in
    let qs = ranges_to_come c.loop-range.other in
    let start = joined_start ps qs c.loop-range.invariant.one c.loop-range.invariant.other in
    let more = joined_more ps qs [] _ _ 0 start c.in-Some.range (ranges_to_come c.next_joined.new.one) (ranges_to_come c.next_joined.new.other)
    c.in-Some.ensures.first c.room_of-more.ensures.small in
    record {
      one = joined_one _ _ _ _ _ _ more;
      other = joined_other _ _ _ _ _ _ more;
    }

pub room_of-more-requires : goal.room_of-more-requires
room_of-more-requires c = c.in-Some.ensures.first.ordered

pub loop-range-smaller : goal.loop-range-smaller
loop-range-smaller c = c.in-Some.ensures.first.fewer
