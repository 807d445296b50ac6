use Rattle.lalrpop_lexer_nfa.specs.Labels.{front_from}
use Rattle.lalrpop_lexer_nfa.specs.Paths.{nfa_view}
use Rattle.lalrpop_lexer.proofs.SplitLemmas.{AreToldApart}
use Rattle.lalrpop_lexer.proofs.alike.groups_of.Given as goal

abbrev pub invariant-loop-state : goal.invariant-loop-state
invariant-loop-state l =
    AreToldApart (nfa_view l.nfa) l.nfa.edges.test_edges.items l.nfa.edges.test_edges.items l.state l.pieces
    l.partition.numbers.items l.partition.splits.items

abbrev pub invariant-loop-edge : goal.invariant-loop-edge
invariant-loop-edge l =
    AreToldApart (nfa_view l.nfa) l.nfa.edges.test_edges.items (front_from l.edge-iterator.from.0 l.edge-iterator.edges.now) l.state
    l.pieces l.partition.numbers.items l.partition.splits.items
