use Rattle.lalrpop_lr1_theory.proofs.CollapseLemmas.{collapsed_carried}
use Rattle.lalrpop_lr1_theory.proofs.collapse_laws.collapsed_are_carried.Goals as goal

pub returns : goal.returns
returns c = λ grammar s states collapsed numbers can fold. collapsed_carried states collapsed numbers fold grammar s can
