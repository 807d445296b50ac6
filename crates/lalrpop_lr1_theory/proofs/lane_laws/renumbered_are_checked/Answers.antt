use Rattle.lalrpop_lr1_theory.proofs.RenumberLemmas.{renumbered_checked}
use Rattle.lalrpop_lr1_theory.proofs.lane_laws.renumbered_are_checked.Goals as goal

pub returns : goal.returns
returns c = λ grammar s states others numbers checked are. renumbered_checked grammar s states others numbers are checked
