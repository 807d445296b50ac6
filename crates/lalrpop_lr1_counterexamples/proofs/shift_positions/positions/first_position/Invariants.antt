use Rattle.std.proofs.Common.{take}
use Rattle.lalrpop_lr1_counterexamples.specs.ShiftPositions.{StandNowhere}
use Rattle.lalrpop_lr1_counterexamples.proofs.shift_positions.positions.first_position.Given as goal

abbrev pub invariant-loop-item : goal.invariant-loop-item
invariant-loop-item g l = StandNowhere (take l.item-index l.items) l.terminal
