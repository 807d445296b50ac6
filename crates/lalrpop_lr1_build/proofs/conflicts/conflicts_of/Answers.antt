use Rattle.std.proofs.Common.{◌∙◌, ◌++◌, List, ap}
use Rattle.lalrpop_lr1_core.specs.declared.conflict.Conflict.{Conflict}
use Rattle.lalrpop_lr1_build.proofs.ListLemmas.{flat_more}
use Rattle.lalrpop_lr1_build.proofs.conflicts.conflicts_of.Goals as goal

pub loop-state-preserved : goal.loop-state-preserved
loop-state-preserved g c =
    let f = g.L.Lookahead.conflicts_in c.args.terminals.now in
    let old = c.loop-state.conflicts.items in
    let state = c.state-item.result in
    c.in_ok-add_conflicts.ensures ∙ ap (λ (xs : List (Conflict g.row.L.Denot)). old ++ xs) c.in_ok-more.ensures
    ∙ ap (λ (xs : List (Conflict g.row.L.Denot)). xs ++ f state) c.loop-state.invariant
    ∙ flat_more f c.args.states.now c.loop-state.state-index state c.loop-state-test.true c.state-item.is
