use Rattle.std.proofs.Common.{◌∙◌, ◌∷◌, [], ◌++◌, ap}
use Rattle.lalrpop_lr1_paths.proofs.StateSearchLemmas.{last_edges_more}
use Rattle.lalrpop_lr1_paths.proofs.state_paths.reversed.last_edges.Goals as goal

pub loop-state-preserved : goal.loop-state-preserved
loop-state-preserved c =
    last_edges_more c.args.edges.now c.args.paths.now c.loop-state.state c.loop-state.steps.items c.push.new.self.items
    c.loop-state.invariant (c.in_ok-push.ensures.items ∙ ap (λ o. c.loop-state.steps.items ++ o ∷ []) c.last_edge.ensures)
