use Rattle.std.proofs.Common.{◌≡◌, ◌++◌, map}
use Rattle.std.specs.Prelude.{flat_map}
use Rattle.lalrpop_lr1_core.specs.Edges.{goto_edge}
use Rattle.lalrpop_lr1_paths.specs.NumberEdges.{number_edges}
use Rattle.lalrpop_lr1_paths.proofs.state_paths.path_edges.add_gotos.Given as goal

abbrev pub invariant-loop-name : goal.invariant-loop-name
invariant-loop-name l =
    l.edges.items ++ flat_map (number_edges l.trees l.states) (map (goto_edge l.source) l.name-iterator)
    ≡ l.initial.edges.items ++ flat_map (number_edges l.trees l.states) (map (goto_edge l.source) l.gotos)
