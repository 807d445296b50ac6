use Rattle.std.proofs.Common.{◌≡◌, length}
use Rattle.lalrpop_sets.specs.RangeWalks.{numbers_to_come}
use Rattle.lalrpop_sets.specs.TokensLeft.{known_tokens}
use Rattle.lalrpop_sets.proofs.next_token.next_token.Given as goal

abbrev pub invariant-loop-number : goal.invariant-loop-number
invariant-loop-number l = known_tokens l.terminals (numbers_to_come l.walk) ≡ known_tokens l.terminals (numbers_to_come l.fn.walk)

abbrev pub decreases-loop-number : goal.decreases-loop-number
decreases-loop-number l = length (numbers_to_come l.walk)
