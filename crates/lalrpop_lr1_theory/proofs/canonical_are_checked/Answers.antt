use Rattle.lalrpop_lr1_theory.proofs.ReductionLemmas.{canonical_checked}
use Rattle.lalrpop_lr1_theory.proofs.canonical_are_checked.Goals as goal

pub returns : goal.returns
returns c = λ grammar s states nb alone can apart. canonical_checked grammar s states can nb alone apart
