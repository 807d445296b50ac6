use Rattle.std.proofs.Common.{◌≡◌, ◌↔◌, true, subst}
use Rattle.lalrpop_lr1_check_lookaheads.specs.Reductions.{DoesEndRightly}
use Rattle.lalrpop_lr1_check_lookaheads.specs.ListTests.{HoldsAtEach}
use Rattle.lalrpop_lr1_check_lookaheads.proofs.GainLemmas.{each_fails, each_more, each_passes, first_none}
use Rattle.lalrpop_lr1_check_lookaheads.proofs.parts.reducing.states_end_rightly.Goals as goal

pub loop-state-init : goal.loop-state-init
loop-state-init c =
    first_none (λ _ state. HoldsAtEach (λ _ r. DoesEndRightly c.args.start.now c.args.terminals.now r.0 r.1.now) state.reductions)
    c.args.states.now

pub returns-then-not-ends : goal.returns-then-not-ends
returns-then-not-ends c =
    let says = subst (λ l. (c.in_ok-ends.ends ≡ true)
    ↔ HoldsAtEach (λ _ r. DoesEndRightly c.args.start.now c.args.terminals.now r.0 r.1.now) l)
    c.as_slice.ensures c.in_ok-ends.ensures in
    each_fails (λ _ state. HoldsAtEach (λ _ r. DoesEndRightly c.args.start.now c.args.terminals.now r.0 r.1.now) state.reductions)
    c.args.states.now c.loop-state.state-index
    c.state-item.result c.in_ok-ends.ends c.loop-state-test.true c.state-item.is says c.if-not-ends.true

pub loop-state-preserved : goal.loop-state-preserved
loop-state-preserved c =
    let says = subst (λ l. (c.in_ok-ends.ends ≡ true)
    ↔ HoldsAtEach (λ _ r. DoesEndRightly c.args.start.now c.args.terminals.now r.0 r.1.now) l)
    c.as_slice.ensures c.in_ok-ends.ensures in
    each_more (λ _ state. HoldsAtEach (λ _ r. DoesEndRightly c.args.start.now c.args.terminals.now r.0 r.1.now) state.reductions)
    c.args.states.now c.loop-state.state-index
    c.state-item.result c.in_ok-ends.ends c.loop-state-test.true c.state-item.is says c.if-not-ends.false c.loop-state.invariant

pub returns : goal.returns
returns c =
    each_passes (λ _ state. HoldsAtEach (λ _ r. DoesEndRightly c.args.start.now c.args.terminals.now r.0 r.1.now) state.reductions)
    c.args.states.now c.loop-state.state-index c.loop-state-test.false c.loop-state.invariant
