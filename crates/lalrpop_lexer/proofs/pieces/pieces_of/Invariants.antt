use Rattle.std.proofs.Common.{◌<◌, Contains}
use Rattle.lalrpop_lexer_nfa.specs.declared.edge.Edge.{Edge}
use Rattle.lalrpop_lexer_nfa.specs.declared.test.Test.{Test}
use Rattle.lalrpop_lexer_nfa.specs.Labels.{front_from}
use Rattle.lalrpop_lexer.proofs.AlphabetClassLemmas.{AreLabels}
use Rattle.lalrpop_lexer.proofs.pieces.pieces_of.Given as goal

abbrev pub invariant-loop-state : goal.invariant-loop-state
invariant-loop-state l =
    (e : Edge Test) → Contains l.nfa.edges.test_edges.items e → e.from.0 < l.state → Contains l.tests.keys e.label

abbrev pub invariant-loop-edge : goal.invariant-loop-edge
invariant-loop-edge l =
    AreLabels l.nfa.edges.test_edges.items (front_from l.edge-iterator.from.0 l.edge-iterator.edges.now) l.state l.tests.keys
