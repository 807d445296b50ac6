use Rattle.std.proofs.Common.{◌≡◌, vec_len}
use Rattle.lalrpop_lexer_nfa.specs.Labels.{front_from}
use Rattle.lalrpop_lexer_nfa.specs.Paths.{nfa_view}
use Rattle.lalrpop_lexer_nfa.proofs.ReadLemmas.{IsReading}
use Rattle.lalrpop_lexer_nfa.proofs.automaton.Nfa.insert_read.Given as goal

abbrev pub invariant-loop-edge : goal.invariant-loop-edge
invariant-loop-edge l = record {
  reading : IsReading (nfa_view l.self) l.self.edges.test_edges.items l.state l.number l.fn.set.members.items l.set.members.items
      (front_from l.edge-iterator.from.0 l.edge-iterator.edges.now);
  bound : vec_len l.set.places ≡ vec_len l.fn.set.places;
}
