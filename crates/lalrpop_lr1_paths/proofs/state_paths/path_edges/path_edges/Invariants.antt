use Rattle.std.proofs.Common.{◌≡◌, length, take}
use Rattle.std.specs.Prelude.{flat_map}
use Rattle.lalrpop_lr1_core.specs.Edges.{edges_of}
use Rattle.lalrpop_lr1_paths.specs.NumberEdges.{number_edges}
use Rattle.lalrpop_lr1_paths.proofs.state_paths.path_edges.path_edges.Given as goal

abbrev pub invariant-loop-source : goal.invariant-loop-source
invariant-loop-source g l =
    l.edges.items ≡ flat_map (number_edges l.trees (length l.states)) (edges_of (take l.source l.states))
