use Rattle.lalrpop_lr1_theory.proofs.JoinLemmas.{joined_collapse}
use Rattle.lalrpop_lr1_theory.proofs.collapse_laws.joined_are_collapsed.Goals as goal

pub returns : goal.returns
returns c = λ grammar s states joined numbers can order seen are. joined_collapse grammar s states joined numbers can order seen are
