use Rattle.std.proofs.Common.{◌≡◌, ◌++◌, map}
use Rattle.lalrpop_lr1_core.specs.Edges.{shift_edge}
use Rattle.lalrpop_lr1_core.proofs.state_graph.add_shift_edges.Given as goal

abbrev pub invariant-loop-terminal : goal.invariant-loop-terminal
invariant-loop-terminal l =
    l.edges ++ map (shift_edge l.source) l.terminal-iterator ≡ l.initial.edges ++ map (shift_edge l.source) l.shifts
