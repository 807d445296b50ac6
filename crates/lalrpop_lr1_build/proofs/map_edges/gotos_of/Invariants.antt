use Rattle.std.proofs.Common.{take}
use Rattle.lalrpop_lr1_first.specs.NumberedGrammars.{table_names}
use Rattle.lalrpop_lr1_build.specs.PublicStates.{AreGotos}
use Rattle.lalrpop_lr1_build.proofs.map_edges.gotos_of.Given as goal

abbrev pub invariant-loop-edge : goal.invariant-loop-edge
invariant-loop-edge l = AreGotos (table_names l.table) (take l.edge-index l.edges) l.gotos
