use Rattle.std.proofs.Common.{ℕ, ◌<◌, ◌≤◌, ◌+◌, Contains, get_or, length}
use Rattle.lalrpop_lr1_least_trees.specs.Searches.{IsQueue}
use Rattle.lalrpop_lr1_least_trees.proofs.least_counts.waiting.Worklist.push_all.Given as goal

abbrev pub invariant-loop-rule : goal.invariant-loop-rule
invariant-loop-rule l = record {
  queue : IsQueue (length l.initial.self.waits.items) l.self;
  kept : (r : ℕ) → Contains l.initial.self.rules.items r → Contains l.self.rules.items r;
  added : (k : ℕ) → k < l.rule-index → Contains l.self.rules.items (get_or l.rules k 0);
  count : length l.self.rules.items ≤ length l.initial.self.rules.items + l.rule-index;
}
