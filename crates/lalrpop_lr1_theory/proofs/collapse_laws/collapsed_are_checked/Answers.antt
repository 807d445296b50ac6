use Rattle.lalrpop_lr1_theory.proofs.CollapseLemmas.{collapsed_checked}
use Rattle.lalrpop_lr1_theory.proofs.collapse_laws.collapsed_are_checked.Goals as goal

pub returns : goal.returns
returns c = λ grammar s states collapsed numbers nb alone can fold apart.
    collapsed_checked states collapsed numbers fold grammar s can nb alone apart
