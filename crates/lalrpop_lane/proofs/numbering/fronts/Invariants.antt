use Rattle.std.proofs.Common.{◌≡◌, ◌++◌, drop, true}
use Rattle.lalrpop_lane.specs.GotoNumbers.{fronts_of}
use Rattle.lalrpop_lane.proofs.numbering.fronts.Given as goal

abbrev pub invariant-loop-state : goal.invariant-loop-state
invariant-loop-state l = l.fronts.items ++ fronts_of l.is_first (drop l.state-index l.states) ≡ fronts_of true l.states
