use Rattle.std.proofs.Common.{◌≡◌, length, take}
use Rattle.lalrpop_lr1_core.specs.Edges.{sources_of}
use Rattle.lalrpop_lr1_core.proofs.state_graph.next_source.Given as goal

abbrev pub invariant-loop-newest : goal.invariant-loop-newest
invariant-loop-newest l =
    sources_of l.state l.symbol (take l.left l.graph) ≡ sources_of l.state l.symbol (take l.initial.left l.graph)

abbrev pub decreases-loop-newest : goal.decreases-loop-newest
decreases-loop-newest l = length (take l.left l.graph)
