use Rattle.std.proofs.Common.{[], refl, subst, append-nil, Contains}
use Rattle.lalrpop_lr1_theory.specs.Trees.{MovesLead, moves, none}
use Rattle.lalrpop_lr1_theory.proofs.TreeLemmas.{leads-moves, length-moves}
use Rattle.lalrpop_lr1_theory.proofs.moves_rebuild.Goals as goal

pub returns : goal.returns
returns c = λ grammar ts o.
    (subst (λ ms. MovesLead ms none ts) (append-nil (moves ts)) (leads-moves (Contains grammar) ts o [] none ts refl), length-moves ts)
