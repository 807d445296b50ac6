use Rattle.lalrpop_lr1_theory.proofs.SameLemmas.{collapsed_same}
use Rattle.lalrpop_lr1_theory.proofs.collapse_laws.collapsed_are_lr0.Goals as goal

pub returns : goal.returns
returns c = λ grammar s states collapsed others numbers start can fold lr0.
    collapsed_same grammar s others lr0 states collapsed numbers fold can start.0 start.1 start.2
