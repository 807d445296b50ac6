use Rattle.lalrpop_lr1_theory.proofs.CountLemmas.{canonical_counted}
use Rattle.lalrpop_lr1_theory.proofs.canonical_are_counted.Goals as goal

pub returns : goal.returns
returns c = λ grammar s states nb can. canonical_counted grammar s states can nb
