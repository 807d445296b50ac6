use Rattle.std.proofs.Common.{◌≡◌, vec_len, take}
use Rattle.lalrpop_lexer_nfa.specs.Paths.{nfa_view}
use Rattle.lalrpop_lexer_nfa.specs.Sets.{AreTransitionTargets}
use Rattle.lalrpop_lexer_nfa.proofs.automaton.Nfa.step.Given as goal

abbrev pub invariant-loop-i : goal.invariant-loop-i
invariant-loop-i l = record {
  read : AreTransitionTargets (nfa_view l.self) (take l.i l.from) l.number l.next.members.items;
  bound : vec_len l.next.places ≡ vec_len l.fn.next.places;
}
