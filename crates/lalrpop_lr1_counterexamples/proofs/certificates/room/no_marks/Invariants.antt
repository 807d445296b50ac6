use Rattle.std.proofs.Common.{◌≡◌, length}
use Rattle.lalrpop_lr1_counterexamples.proofs.certificates.room.no_marks.Given as goal

abbrev pub invariant-loop : goal.invariant-loop
invariant-loop l = length l.marks.items ≡ l.counter
