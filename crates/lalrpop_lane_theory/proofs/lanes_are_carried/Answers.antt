use Rattle.std.proofs.Common.{Contains}
use Rattle.lalrpop_lr1_theory.specs.States.{HasEdge, HasItem}
use Rattle.lalrpop_lane_theory.proofs.LaneLemmas.{lanes_carried}
use Rattle.lalrpop_lane_theory.proofs.lanes_are_carried.Goals as goal

pub returns : goal.returns
returns c = λ grammar s states alone reached n p i it x.
    lanes_carried (Contains grammar) s (HasItem states) (HasEdge states) reached n p i alone it x
