use Rattle.lalrpop_norm_tyinfer.specs.Searching.{IsRightSoFar}
use Rattle.lalrpop_norm_tyinfer.proofs.search.visit_all.Given as goal

abbrev pub invariant-loop-number : goal.invariant-loop-number
invariant-loop-number l = IsRightSoFar l.given l.progress
