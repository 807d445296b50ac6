use Rattle.std.proofs.Common.{[], refl, sym, subst, append-nil, Contains}
use Rattle.lalrpop_lr1_theory.specs.Trees.{MovesLead, moves, none}
use Rattle.lalrpop_lr1_theory.proofs.TreeLemmas.{leads-moves, leads_one}
use Rattle.lalrpop_lr1_theory.proofs.moves_determine.Goals as goal

pub returns : goal.returns
returns c = λ grammar ts us a b e.
    let l = subst (λ ms. MovesLead ms none ts) (append-nil (moves ts)) (leads-moves (Contains grammar) ts a [] none ts refl) in
    let k = subst (λ ms. MovesLead ms none us) (append-nil (moves us)) (leads-moves (Contains grammar) us b [] none us refl) in
    leads_one (moves ts) none ts us l (subst (λ ms. MovesLead ms none us) (sym e) k)
