use Rattle.std.proofs.Common.{◌≡◌, ◌-◌, ◌<◌, All, vec_len}
use Rattle.lalrpop_lexer_nfa.specs.Paths.{nfa_view}
use Rattle.lalrpop_lexer_nfa.proofs.SetLemmas.{IsClosing}
use Rattle.lalrpop_lexer_nfa.proofs.automaton.Nfa.close.Given as goal

abbrev pub invariant-loop-done : goal.invariant-loop-done
invariant-loop-done l = record {
  closing : IsClosing (nfa_view l.self) l.fn.set.members.items l.set.members.items l.done;
  inside : All (λ q. q < vec_len l.self.states) l.set.members.items;
  bound : vec_len l.set.places ≡ vec_len l.fn.set.places;
}

abbrev pub decreases-loop-done : goal.decreases-loop-done
decreases-loop-done l = vec_len l.set.places - l.done
