use Rattle.std.proofs.Common.{◌≡◌, vec_len}
use Rattle.lalrpop_norm_tyinfer.specs.Equations.{type_equations, untyped_equations}
use Rattle.lalrpop_norm_tyinfer.specs.ProgramViews.{grammar_of, rule_types}
use Rattle.lalrpop_norm_tyinfer.specs.Searching.{IsRightSoFar}
use Rattle.lalrpop_norm_tyinfer.proofs.search.settle_all.Given as goal

abbrev pub invariant-settling : goal.invariant-settling
invariant-settling l = record {
  right : IsRightSoFar l.given l.progress;
  done : vec_len l.progress.typed ≡ 0;
}

abbrev pub decreases-settling : goal.decreases-settling
decreases-settling l = untyped_equations (rule_types l.progress.table) (type_equations (grammar_of l.given.names.now))
