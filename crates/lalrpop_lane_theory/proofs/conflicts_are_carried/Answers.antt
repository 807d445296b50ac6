use Rattle.lalrpop_lane_theory.proofs.CarriedLemmas.{carried_conflicts}
use Rattle.lalrpop_lane_theory.proofs.conflicts_are_carried.Goals as goal

pub returns : goal.returns
returns c = λ grammar s states carried once. carried_conflicts grammar s states carried once
