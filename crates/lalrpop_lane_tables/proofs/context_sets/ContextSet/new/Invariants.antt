use Rattle.std.proofs.Common.{ℕ, ◌≡◌, ◌≤◌, ◌-◌, List, [], length}
use Rattle.std.specs.Prelude.{All}
use Rattle.lalrpop_lane_tables.proofs.context_sets.ContextSet.new.Given as goal

abbrev pub invariant-loop-alloc : goal.invariant-loop-alloc
invariant-loop-alloc l = record {
  few : length l.values.items ≤ l.columns;
  empty : All (λ (tokens : List ℕ). tokens ≡ []) l.values.items;
}

abbrev pub decreases-loop-alloc : goal.decreases-loop-alloc
decreases-loop-alloc l = l.columns - length l.values.items
