use Rattle.lalrpop_lane_theory.proofs.CollapsedConflictLemmas.{collapsed_lalr1}
use Rattle.lalrpop_lane_theory.proofs.lalr1_is_no_collapsed_conflict.Goals as goal

pub returns : goal.returns
returns c = λ grammar s states collapsed numbers can fold. collapsed_lalr1 grammar s states collapsed numbers can fold
