use Rattle.lalrpop_lr1_inline.proofs.LabelsExistLemmas.{labels_exist}
use Rattle.lalrpop_lr1_inline.proofs.OrderLabelLemmas.{inlined_labels}
use Rattle.lalrpop_lr1_inline.proofs.laws.inlined_have_labels.Goals as goal

pub returns-clause-labels : goal.returns-clause-labels
returns-clause-labels c = inlined_labels

pub returns-clause-exist : goal.returns-clause-exist
returns-clause-exist c = labels_exist
