use Rattle.lalrpop_lane_theory.proofs.CarriedLemmas.{carried_checked}
use Rattle.lalrpop_lane_theory.proofs.carried_are_checked.Goals as goal

pub returns : goal.returns
returns c = λ grammar s originals states origin nb alone reached spread carried apart.
    carried_checked grammar s originals states origin reached spread nb alone carried apart
