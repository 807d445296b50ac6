use Rattle.std.proofs.Common.{◌≡◌, ◌∙◌, ◌<◌, ◌≤◌, ◌↔◌, ℕ, List, true, ap, arith, length, map, subst, sym}
use Rattle.lalrpop_lr1_core.specs.declared.state.State.{State}
use Rattle.lalrpop_lr1_check_lookaheads.specs.ListedItems.{item_key}
use Rattle.lalrpop_lr1_check_lookaheads.specs.Reductions.{IsFinishedIn}
use Rattle.lalrpop_lr1_check_lookaheads.specs.ListTests.{HoldsAtEach}
use Rattle.lalrpop_lr1_check_lookaheads.proofs.GainLemmas.{each_fails, each_more, each_passes, first_none}
use Rattle.lalrpop_lr1_check_lookaheads.proofs.parts.reducing.states_reduce_finished.Goals as goal

pub loop-state-init : goal.loop-state-init
loop-state-init c =
    first_none (λ n state. HoldsAtEach (λ _ r. IsFinishedIn (map item_key c.args.listed.now.keys) n r.1.now) state.reductions)
    c.args.states.now

pub returns-then-not-are_finished : goal.returns-then-not-are_finished
returns-then-not-are_finished c =
    let says = subst (λ l. (c.are_finished.result ≡ true)
    ↔ HoldsAtEach (λ _ r. IsFinishedIn (map item_key c.args.listed.now.keys) c.loop-state.state r.1.now) l)
    (c.as_slice.ensures ∙ ap (λ (s : State (List ℕ)). s.reductions) (sym c.index-states-state.is)) c.are_finished.ensures in
    let here : c.loop-state.state < length c.args.states.now = omega arith in
    each_fails (λ n state. HoldsAtEach (λ _ r. IsFinishedIn (map item_key c.args.listed.now.keys) n r.1.now) state.reductions)
    c.args.states.now c.loop-state.state c.index-states-state.result c.are_finished.result here c.index-states-state.is says
    c.if-not-are_finished.true

pub loop-state-preserved : goal.loop-state-preserved
loop-state-preserved c =
    let says = subst (λ l. (c.are_finished.result ≡ true)
    ↔ HoldsAtEach (λ _ r. IsFinishedIn (map item_key c.args.listed.now.keys) c.loop-state.state r.1.now) l)
    (c.as_slice.ensures ∙ ap (λ (s : State (List ℕ)). s.reductions) (sym c.index-states-state.is)) c.are_finished.ensures in
    let here : c.loop-state.state < length c.args.states.now = omega arith in
    each_more (λ n state. HoldsAtEach (λ _ r. IsFinishedIn (map item_key c.args.listed.now.keys) n r.1.now) state.reductions)
    c.args.states.now c.loop-state.state c.index-states-state.result c.are_finished.result here c.index-states-state.is says
    c.if-not-are_finished.false c.loop-state.invariant

pub returns : goal.returns
returns c =
    let end : length c.args.states.now ≤ c.loop-state.state = omega arith in
    each_passes (λ n state. HoldsAtEach (λ _ r. IsFinishedIn (map item_key c.args.listed.now.keys) n r.1.now) state.reductions)
    c.args.states.now c.loop-state.state end c.loop-state.invariant
