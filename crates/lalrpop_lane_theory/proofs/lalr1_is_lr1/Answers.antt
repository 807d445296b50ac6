use Rattle.std.proofs.Common.{Contains}
use Rattle.lalrpop_lane_theory.proofs.Lr1Lemmas.{lalr1_one_move}
use Rattle.lalrpop_lane_theory.proofs.lalr1_is_lr1.Goals as goal

pub returns : goal.returns
returns c = λ grammar s lalr1. lalr1_one_move (Contains grammar) s lalr1
