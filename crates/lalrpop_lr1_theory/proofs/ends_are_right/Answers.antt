use Rattle.lalrpop_lr1_theory.proofs.AnswerLemmas.{ends_right}
use Rattle.lalrpop_lr1_theory.proofs.ends_are_right.Goals as goal

pub returns : goal.returns
returns c = λ grammar s states alone ok w limit a e. ends_right grammar s states alone ok w limit a e
