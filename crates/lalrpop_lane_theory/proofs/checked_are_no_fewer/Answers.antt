use Rattle.lalrpop_lane_theory.proofs.FewestLemmas.{checked_no_fewer}
use Rattle.lalrpop_lane_theory.proofs.checked_are_no_fewer.Goals as goal

pub returns : goal.returns
returns c = λ grammar s lr0 states are ok. checked_no_fewer grammar s lr0 states are ok
