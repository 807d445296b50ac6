use Rattle.std.proofs.Common.{take}
use Rattle.lalrpop_lr1_paths.specs.Graphs.{edges_at}
use Rattle.lalrpop_lr1_paths.proofs.EnteringLemmas.{AreFirstEntering}
use Rattle.lalrpop_lr1_paths.proofs.graph_paths.graph.entering_edges.Given as goal

abbrev pub invariant-loop-number : goal.invariant-loop-number
invariant-loop-number l = AreFirstEntering (take l.number l.edges) (edges_at l.lists)
