use Rattle.std.proofs.Common.{◌∙◌, ◌+◌, ap, drop, sym}
use Rattle.std.specs.Prelude.{flat_map}
use Rattle.lalrpop_lr1_core.proofs.ListLemmas.{left_is}
use Rattle.lalrpop_lr1_first.proofs.PlaceLemmas.{drop_past}
use Rattle.lalrpop_lr1_check.specs.EdgeTargets.{targets_of_state}
use Rattle.lalrpop_lr1_check.specs.MarkGains.{marks_with}
use Rattle.lalrpop_lr1_check.proofs.MarkLemmas.{marks_with-append}
use Rattle.lalrpop_lr1_check.proofs.closure.targets.mark_all_targets.Goals as goal

pub loop-state-preserved : goal.loop-state-preserved
loop-state-preserved c =
    let states = c.args.states.now in
    let i = c.loop-state.state-index in
    let now = c.loop-state.marks.items in
    let own = targets_of_state c.state-item.result in
    let rest = flat_map targets_of_state (drop (i + 1) states) in
    ap (λ m. marks_with m rest) c.mark_targets.ensures ∙ sym (marks_with-append now own rest)
    ∙ ap (λ l. marks_with now (flat_map targets_of_state l))
    (sym (left_is states i c.state-item.result c.loop-state-test.true c.state-item.is))
    ∙ c.loop-state.invariant

pub returns : goal.returns
returns c =
    let now = c.loop-state.marks.items in
    ap (λ l. marks_with now (flat_map targets_of_state l))
    (sym (drop_past c.args.states.now c.loop-state.state-index c.loop-state-test.false))
    ∙ c.loop-state.invariant
