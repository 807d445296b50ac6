use Rattle.std.proofs.Common.{take}
use Rattle.lalrpop_lexer_nfa.specs.EdgeLists.{sources, MayComeNext}
use Rattle.lalrpop_lexer_nfa.specs.Growth.{HasNewEpsilonEdges}
use Rattle.lalrpop_lexer_nfa.specs.Paths.{nfa_view}
use Rattle.lalrpop_lexer_nfa.proofs.automaton.Nfa.push_noops.Given as goal

abbrev pub invariant-loop-i : goal.invariant-loop-i
invariant-loop-i l = record {
  more : HasNewEpsilonEdges (nfa_view l.fn.self) (nfa_view l.self) l.from (take l.i l.targets);
  last : MayComeNext (sources l.self.edges.noop_edges.items) l.from;
}
