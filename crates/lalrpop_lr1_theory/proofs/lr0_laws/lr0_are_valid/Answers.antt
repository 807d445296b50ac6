use Rattle.lalrpop_lr1_theory.proofs.Lr0CoreLemmas.{items_valid}
use Rattle.lalrpop_lr1_theory.proofs.lr0_laws.lr0_are_valid.Goals as goal

pub returns : goal.returns
returns c = λ grammar s states nb lr0 g n w p i. items_valid grammar s states lr0 nb g n w p i
