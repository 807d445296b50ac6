use Rattle.std.proofs.Common.{◌≡◌, ◌↔◌, ◌<◌, ℕ, take, Contains, All, vec_len}
use Rattle.lalrpop_lexer.proofs.states.close_kernel.Given as goal

abbrev pub invariant-loop-i : goal.invariant-loop-i
invariant-loop-i l = record {
  same : (x : ℕ) → Contains l.set.members.items x ↔ Contains (take l.i l.kernel) x;
  inside : All (λ q. q < vec_len l.nfa.states) l.set.members.items;
  bound : vec_len l.set.places ≡ vec_len l.fn.set.places;
}
