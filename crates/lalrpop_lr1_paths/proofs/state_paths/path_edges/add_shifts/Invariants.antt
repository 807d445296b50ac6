use Rattle.std.proofs.Common.{◌≡◌, ◌++◌, map}
use Rattle.std.specs.Prelude.{flat_map}
use Rattle.lalrpop_lr1_core.specs.Edges.{shift_edge}
use Rattle.lalrpop_lr1_paths.specs.NumberEdges.{number_edges}
use Rattle.lalrpop_lr1_paths.proofs.state_paths.path_edges.add_shifts.Given as goal

abbrev pub invariant-loop-terminal : goal.invariant-loop-terminal
invariant-loop-terminal l =
    l.edges.items ++ flat_map (number_edges l.trees l.states) (map (shift_edge l.source) l.terminal-iterator)
    ≡ l.initial.edges.items ++ flat_map (number_edges l.trees l.states) (map (shift_edge l.source) l.shifts)
