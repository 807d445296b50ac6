use Rattle.lalrpop_lr1_theory.proofs.CheckedLemmas.{never_two}
use Rattle.lalrpop_lr1_theory.proofs.ReductionLemmas.{canonical_apart}
use Rattle.lalrpop_lr1_theory.proofs.conflicts_are_two_moves.Goals as goal

pub returns : goal.returns
returns c = λ grammar s states can. (λ apart. never_two states apart, λ never. canonical_apart grammar s states can never)
