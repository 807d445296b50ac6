use Rattle.std.proofs.Common.{◌≡◌}
use Rattle.lalrpop_lane_tables.specs.MergeClasses.{NoneFitsBefore}
use Rattle.lalrpop_lane_tables.proofs.merge_classes.join_first_fitting.Given as goal

abbrev pub invariant-loop-place : goal.invariant-loop-place
invariant-loop-place l = record {
  same : l.unify ≡ l.fn.unify;
  before : NoneFitsBefore l.sets l.fn.unify l.state l.original l.copies l.place;
}
