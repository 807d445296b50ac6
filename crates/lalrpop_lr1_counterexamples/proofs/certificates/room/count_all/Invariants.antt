use Rattle.std.proofs.Common.{◌≡◌, length}
use Rattle.lalrpop_lr1_counterexamples.proofs.certificates.room.count_all.Given as goal

abbrev pub invariant-loop-number : goal.invariant-loop-number
invariant-loop-number l = length l.counted.items ≡ length l.tokens
