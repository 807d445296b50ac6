use Rattle.std.proofs.Common.{◌∙◌}
use Rattle.lalrpop_run_trees.proofs.flat_labels.label_table.LabelTable.place.Goals as goal

pub returns : goal.returns
returns c = c.copied.ensures ∙ c.get.ensures.value
