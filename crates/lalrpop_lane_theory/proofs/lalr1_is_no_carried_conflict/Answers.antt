use Rattle.lalrpop_lane_theory.proofs.Lalr1Lemmas.{lr0_lalr1}
use Rattle.lalrpop_lane_theory.proofs.lalr1_is_no_carried_conflict.Goals as goal

pub returns : goal.returns
returns c = λ grammar s states are. lr0_lalr1 grammar s states are
