use Rattle.lalrpop_lr1_paths.specs.ReversedGraphs.{AreLastEdges}
use Rattle.lalrpop_lr1_paths.proofs.state_paths.reversed.last_edges.Given as goal

abbrev pub invariant-loop-state : goal.invariant-loop-state
invariant-loop-state l = AreLastEdges l.edges l.paths l.state l.steps.items
