use Rattle.lalrpop_lr1_theory.proofs.Lr0CoreLemmas.{states_counted}
use Rattle.lalrpop_lr1_theory.proofs.lr0_laws.lr0_are_counted.Goals as goal

pub returns : goal.returns
returns c = λ grammar s states nb lr0. states_counted grammar s states lr0 nb
