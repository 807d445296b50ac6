use Rattle.std.proofs.Common.{ap}
use Rattle.lalrpop_run_trees.specs.FlatLabels.{marks_in}
use Rattle.lalrpop_run_trees.proofs.flat_labels.label_table.LabelTable.keep.Goals as goal

pub returns-in_ok-insert : goal.returns-in_ok-insert
returns-in_ok-insert c = λ l. rw (ap marks_in c.in-Some.is) (c.in_ok-insert.ensures.updates.0 l)
