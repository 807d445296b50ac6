use Rattle.std.proofs.Common.{◌∙◌, ◌-◌, arith, refl, suc, sym}
use Rattle.lalrpop_lr1_paths.proofs.PathStepLemmas.{back_ends, back_goes_on, back_stays}
use Rattle.lalrpop_lr1_paths.proofs.state_paths.state_paths.StatePaths.back.Goals as goal

pub returns-in-None : goal.returns-in-None
returns-in-None c = λ m b.
    let self = c.args.self.now in
    let left = c.args.places - c.loop.counter in
    back_ends self.trees.now.table self.steps.items left c.loop.place m (sym c.last_edge.ensures ∙ c.in-None.is)
    (c.loop.invariant left m (omega arith) b)

pub loop-preserved : goal.loop-preserved
loop-preserved c = λ j m e b.
    let self = c.args.self.now in
    back_goes_on self.trees.now.table self.steps.items (suc j) j c.loop.place m c.in-Some.edge
    (sym c.last_edge.ensures ∙ c.in-Some.is) refl
    (c.loop.invariant (suc j) m (omega (arith, e)) b)

pub returns : goal.returns
returns c = λ m b.
    let self = c.args.self.now in
    back_stays self.trees.now.table self.steps.items 0 c.loop.place m refl (c.loop.invariant 0 m (omega arith) b)
