use Rattle.std.proofs.Common.{Contains}
use Rattle.lalrpop_lr1_theory.proofs.StepLemmas.{step-forest}
use Rattle.lalrpop_lr1_theory.proofs.forests_follow.Goals as goal

pub returns : goal.returns
returns c = λ grammar s ts k m t e. step-forest (Contains grammar) s ts k m t e
