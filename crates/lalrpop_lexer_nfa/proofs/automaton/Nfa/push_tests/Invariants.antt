use Rattle.std.proofs.Common.{take, ◌≡◌}
use Rattle.lalrpop_lexer_nfa.specs.EdgeLists.{sources, MayComeNext}
use Rattle.lalrpop_lexer_nfa.specs.Growth.{HasNewTransitions}
use Rattle.lalrpop_lexer_nfa.specs.Paths.{nfa_view}
use Rattle.lalrpop_lexer_nfa.proofs.automaton.Nfa.push_tests.Given as goal

abbrev pub invariant-loop-i : goal.invariant-loop-i
invariant-loop-i l = record {
  more : HasNewTransitions (nfa_view l.fn.self) (nfa_view l.self) l.from (take l.i l.ranges) l.to;
  last : MayComeNext (sources l.self.edges.test_edges.items) l.from;
  others : l.self.edges.other_edges.items ≡ l.fn.self.edges.other_edges.items;
}
