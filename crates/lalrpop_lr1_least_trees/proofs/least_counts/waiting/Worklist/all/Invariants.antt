use Rattle.std.proofs.Common.{ℕ, ◌<◌, Contains}
use Rattle.lalrpop_lr1_least_trees.specs.Searches.{IsQueue}
use Rattle.lalrpop_lr1_least_trees.proofs.least_counts.waiting.Worklist.all.Given as goal

abbrev pub invariant-loop-rule : goal.invariant-loop-rule
invariant-loop-rule l = record {
  queue : IsQueue l.count l.waiting;
  all : (r : ℕ) → r < l.rule → Contains l.waiting.rules.items r;
}
