use Rattle.std.proofs.Common.{◌≡◌, length}
use Rattle.lalrpop_lr1_core.specs.Conflicts.{token_conflicts}
use Rattle.lalrpop_lr1_check_lookaheads.proofs.GainLemmas.{each_fails, each_more, each_passes, first_none}
use Rattle.lalrpop_lr1_check_lookaheads.proofs.parts.reducing.states_have_no_conflict.Goals as goal

pub loop-state-init : goal.loop-state-init
loop-state-init c = first_none (λ _ state. length (token_conflicts c.args.terminals.now state) ≡ 0) c.args.states.now

pub returns-then-not-none : goal.returns-then-not-none
returns-then-not-none c =
    each_fails (λ _ state. length (token_conflicts c.args.terminals.now state) ≡ 0) c.args.states.now c.loop-state.state-index
    c.state-item.result c.in_ok-none.none c.loop-state-test.true c.state-item.is c.in_ok-none.ensures c.if-not-none.true

pub loop-state-preserved : goal.loop-state-preserved
loop-state-preserved c =
    each_more (λ _ state. length (token_conflicts c.args.terminals.now state) ≡ 0) c.args.states.now c.loop-state.state-index
    c.state-item.result c.in_ok-none.none c.loop-state-test.true c.state-item.is c.in_ok-none.ensures c.if-not-none.false
    c.loop-state.invariant

pub returns : goal.returns
returns c =
    each_passes (λ _ state. length (token_conflicts c.args.terminals.now state) ≡ 0) c.args.states.now c.loop-state.state-index
    c.loop-state-test.false c.loop-state.invariant
