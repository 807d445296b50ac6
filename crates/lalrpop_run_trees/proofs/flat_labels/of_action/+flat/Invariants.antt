use Rattle.std.proofs.Common.{◌≡◌, ◌+◌, ◌*◌, drop}
use Rattle.std.specs.Prelude.{◌++◌, option_map}
use Rattle.lalrpop_run_trees.specs.FlatLabels.{flat_of, put_marks}
use Rattle.lalrpop_run_trees.proofs.flat_labels.of_action.+flat.Given as goal

abbrev pub decreases-marks_of_symbol : goal.decreases-marks_of_symbol
decreases-marks_of_symbol l = 3 * l.below

abbrev pub decreases-marks_of_record : goal.decreases-marks_of_record
decreases-marks_of_record l = 3 * l.below + 1

abbrev pub decreases-flat_label : goal.decreases-flat_label
decreases-flat_label l = 3 * l.action.0 + 2

-- what is made so far, with what the rest gives, is the whole
abbrev pub invariant-marks_of_record-loop-mark : goal.invariant-marks_of_record-loop-mark
invariant-marks_of_record-loop-mark l =
    put_marks (flat_of l.actions l.given) l.below l.symbols l.outer
    ≡ option_map (λ rest. l.made.items ++ rest)
    (put_marks (flat_of l.actions l.given) l.below (drop l.next l.symbols) (drop l.mark-index l.outer))
