use Rattle.std.proofs.Common.{◌≡◌, map, take}
use Rattle.lalrpop_lane.specs.LaneStates.{reduction_before}
use Rattle.lalrpop_lane.proofs.lr0.put_reductions_before.Given as goal

abbrev pub invariant-loop-reduction : goal.invariant-loop-reduction
invariant-loop-reduction l = l.new ≡ map (reduction_before l.set) (take l.reduction-index l.reductions)
