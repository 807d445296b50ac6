use Rattle.std.proofs.Common.{ℕ, ◌≤◌, ◌^◌, ◌⊎◌, All, Contains}
use Rattle.lalrpop_lexer_nfa.specs.Ranges.{IsBoundary}
use Rattle.lalrpop_lexer_nfa.specs.declared.test.Test.{Test}
use Rattle.lalrpop_lexer_nfa.proofs.overlap.cuts.Given as goal

abbrev pub invariant-loop-range : goal.invariant-loop-range
invariant-loop-range l = record {
  all : (n : ℕ) → IsBoundary l.ranges.keys n → Contains l.cuts.items n ⊎ IsBoundary l.range-iterator n;
  only : (n : ℕ) → Contains l.cuts.items n → IsBoundary l.ranges.keys n;
  rest : (t : Test) → Contains l.range-iterator t → Contains l.ranges.keys t;
  within : All (λ n. n ≤ 2 ^ 32) l.cuts.items;
}
