use Rattle.std.proofs.Common.{◌≡◌, ◌≤◌, drop, length}
use Rattle.lalrpop_lane_tables.proofs.AppliedLemmas.{NoneBefore}
use Rattle.lalrpop_lane_tables.proofs.context_sets.set_of_reduction.Given as goal

abbrev pub invariant-loop-action : goal.invariant-loop-action
invariant-loop-action l = record {
  left : l.action-iterator ≡ drop l.place l.actions.keys;
  few : l.place ≤ length l.actions.keys;
  none : NoneBefore l.actions.keys l.production l.place;
}
