use Rattle.std.proofs.Common.{◌≤◌}
use Rattle.lalrpop_norm_tyinfer.specs.Searching.{IsRightSoFar, left_to_search}
use Rattle.lalrpop_norm_tyinfer.proofs.search.wake.Given as goal

abbrev pub invariant-loop-number : goal.invariant-loop-number
invariant-loop-number l = record {
  right : IsRightSoFar l.given l.progress;
  work : left_to_search l.given l.progress ≤ left_to_search l.given l.fn.progress;
}
