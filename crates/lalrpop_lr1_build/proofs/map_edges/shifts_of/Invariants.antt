use Rattle.std.proofs.Common.{take}
use Rattle.lalrpop_lr1_first.specs.FirstNumbers.{name_count}
use Rattle.lalrpop_lr1_build.specs.PublicStates.{AreShifts}
use Rattle.lalrpop_lr1_build.proofs.map_edges.shifts_of.Given as goal

abbrev pub invariant-loop-edge : goal.invariant-loop-edge
invariant-loop-edge l = AreShifts (name_count l.table) l.table.terminals.now.all (take l.edge-index l.edges) l.shifts
