use Rattle.lalrpop_lr1_check_lookaheads.specs.Reductions.{DoesEndRightly}
use Rattle.lalrpop_lr1_check_lookaheads.proofs.GainLemmas.{each_fails, each_more, each_passes, first_none}
use Rattle.lalrpop_lr1_check_lookaheads.proofs.parts.reducing.all_end_rightly.Goals as goal

pub loop-reduction-init : goal.loop-reduction-init
loop-reduction-init c = first_none (λ _ r. DoesEndRightly c.args.start.now c.args.terminals.now r.0 r.1.now) c.args.reductions.now

pub returns-then-not-ends : goal.returns-then-not-ends
returns-then-not-ends c =
    each_fails (λ _ r. DoesEndRightly c.args.start.now c.args.terminals.now r.0 r.1.now) c.args.reductions.now
    c.loop-reduction.reduction-index
    c.reduction-item.result c.in_ok-ends.ends c.loop-reduction-test.true c.reduction-item.is c.in_ok-ends.ensures c.if-not-ends.true

pub loop-reduction-preserved : goal.loop-reduction-preserved
loop-reduction-preserved c =
    each_more (λ _ r. DoesEndRightly c.args.start.now c.args.terminals.now r.0 r.1.now) c.args.reductions.now
    c.loop-reduction.reduction-index
    c.reduction-item.result c.in_ok-ends.ends c.loop-reduction-test.true c.reduction-item.is c.in_ok-ends.ensures c.if-not-ends.false
    c.loop-reduction.invariant

pub returns : goal.returns
returns c =
    each_passes (λ _ r. DoesEndRightly c.args.start.now c.args.terminals.now r.0 r.1.now) c.args.reductions.now
    c.loop-reduction.reduction-index c.loop-reduction-test.false c.loop-reduction.invariant
