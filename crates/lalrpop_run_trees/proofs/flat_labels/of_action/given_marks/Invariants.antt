use Rattle.std.proofs.Common.{◌≡◌, ◌∷◌}
use Rattle.std.specs.Prelude.{replicate}
use Rattle.lalrpop_run_trees.specs.declared.flat_labels.mark.LabelMark.TheVariants as marks
use Rattle.lalrpop_run_trees.proofs.flat_labels.of_action.given_marks.Given as goal

abbrev pub invariant-loop : goal.invariant-loop
invariant-loop l = l.made.items ≡ marks.Given l.number ∷ replicate l.counter marks.Kept
