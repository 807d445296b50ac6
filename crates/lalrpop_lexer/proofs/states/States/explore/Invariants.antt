use Rattle.std.proofs.Common.{◌≡◌, ℕ, Some, length, get_or, vec_len}
use Rattle.lalrpop_lexer_nfa.specs.Paths.{nfa_view}
use Rattle.lalrpop_lexer.specs.States.{AreNumbered, HasKernel, AreInside}
use Rattle.lalrpop_lexer.specs.Targets.{items_at}
use Rattle.lalrpop_lexer.specs.Explore.{edges_view}
use Rattle.lalrpop_lexer.proofs.ExploreLemmas.{ExploresSome}
use Rattle.lalrpop_lexer.proofs.GroupLemmas.{known_at}
use Rattle.lalrpop_lexer.proofs.states.States.explore.Given as goal

abbrev pub invariant-loop-i : goal.invariant-loop-i
invariant-loop-i l = record {
  some : ExploresSome (nfa_view l.nfa) l.pieces (λ i. items_at l.targets.items (get_or l.groups.numbers.items i 0)) l.i l.state
      l.fn.self.sets l.self.sets (edges_view l.out.items);
  size : length l.known.items ≡ length l.groups.firsts.items;
  known : (g n : ℕ) → known_at l.known.items g ≡ Some n → HasKernel l.self.numbers n (items_at l.targets.items g);
  sets : AreInside (vec_len l.nfa.states) l.self.sets;
  numbered : AreNumbered (nfa_view l.nfa) l.self.sets l.self.numbers;
  bound : vec_len l.scratch.places ≡ vec_len l.fn.scratch.places;
}
