use Rattle.std.proofs.Common.{◌≤◌}
use Rattle.lalrpop_norm_tyinfer.specs.Searching.{IsRightSoFar, left_to_search}
use Rattle.lalrpop_norm_tyinfer.proofs.search.spread.Given as goal

abbrev pub invariant-loop-name : goal.invariant-loop-name
invariant-loop-name l = record {
  right : IsRightSoFar l.given l.progress;
  work : left_to_search l.given l.progress ≤ left_to_search l.given l.fn.progress;
}

abbrev pub decreases-loop-name : goal.decreases-loop-name
decreases-loop-name l = left_to_search l.given l.progress
