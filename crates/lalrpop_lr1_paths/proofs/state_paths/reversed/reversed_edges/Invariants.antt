use Rattle.std.proofs.Common.{◌≡◌, map, take}
use Rattle.lalrpop_lr1_paths.specs.ReversedGraphs.{edge_ends, reversed_ends}
use Rattle.lalrpop_lr1_paths.proofs.state_paths.reversed.reversed_edges.Given as goal

abbrev pub invariant-loop-edge : goal.invariant-loop-edge
invariant-loop-edge l = map edge_ends l.reversed.items ≡ map reversed_ends (take l.edge-index l.edges)
