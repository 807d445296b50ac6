use Rattle.std.proofs.Common.{Contains}
use Rattle.lalrpop_lr1_theory.proofs.ValidItemLemmas.{carried_from_valid, valid_from_carried}
use Rattle.lalrpop_lr1_theory.proofs.valid_are_carried.Goals as goal

pub returns : goal.returns
returns c = λ grammar s nb g p i x.
    (λ v. carried_from_valid (Contains grammar) s g p i x v, λ k. valid_from_carried (Contains grammar) s nb g p i x k)
