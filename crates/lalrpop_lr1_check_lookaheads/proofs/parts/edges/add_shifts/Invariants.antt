use Rattle.std.proofs.Common.{◌≡◌, ◌++◌, map}
use Rattle.lalrpop_lr1_check_lookaheads.specs.SeenEdges.{noted_edge, seen_shift}
use Rattle.lalrpop_lr1_check_lookaheads.proofs.parts.edges.add_shifts.Given as goal

abbrev pub invariant-loop-terminal : goal.invariant-loop-terminal
invariant-loop-terminal l =
    map noted_edge l.edges.items ++ map (seen_shift l.source) l.terminal-iterator
    ≡ map noted_edge l.initial.edges.items ++ map (seen_shift l.source) l.state.shifts
