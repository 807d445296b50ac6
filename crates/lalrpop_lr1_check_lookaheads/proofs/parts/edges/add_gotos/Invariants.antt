use Rattle.std.proofs.Common.{◌≡◌, ◌++◌, map}
use Rattle.lalrpop_lr1_check_lookaheads.specs.SeenEdges.{noted_edge, seen_goto}
use Rattle.lalrpop_lr1_check_lookaheads.proofs.parts.edges.add_gotos.Given as goal

abbrev pub invariant-loop-name : goal.invariant-loop-name
invariant-loop-name l =
    map noted_edge l.edges.items ++ map (seen_goto l.source) l.name-iterator
    ≡ map noted_edge l.initial.edges.items ++ map (seen_goto l.source) l.state.gotos
