use Rattle.std.proofs.Common.{map}
use Rattle.lalrpop_lr1_check_lookaheads.specs.ListedItems.{item_key}
use Rattle.lalrpop_lr1_check_lookaheads.specs.Reductions.{IsFinishedIn}
use Rattle.lalrpop_lr1_check_lookaheads.proofs.GainLemmas.{each_fails, each_more, each_passes, first_none}
use Rattle.lalrpop_lr1_check_lookaheads.proofs.parts.reducing.are_finished.Goals as goal

pub loop-reduction-init : goal.loop-reduction-init
loop-reduction-init c = first_none (λ _ r. IsFinishedIn (map item_key c.args.listed.now.keys) c.args.state r.1.now) c.args.reductions.now

pub returns-then-not-is_finished : goal.returns-then-not-is_finished
returns-then-not-is_finished c =
    each_fails (λ _ r. IsFinishedIn (map item_key c.args.listed.now.keys) c.args.state r.1.now) c.args.reductions.now
    c.loop-reduction.reduction-index
    c.reduction-item.result c.is_finished.result c.loop-reduction-test.true c.reduction-item.is c.is_finished.ensures
    c.if-not-is_finished.true

pub loop-reduction-preserved : goal.loop-reduction-preserved
loop-reduction-preserved c =
    each_more (λ _ r. IsFinishedIn (map item_key c.args.listed.now.keys) c.args.state r.1.now) c.args.reductions.now
    c.loop-reduction.reduction-index
    c.reduction-item.result c.is_finished.result c.loop-reduction-test.true c.reduction-item.is c.is_finished.ensures
    c.if-not-is_finished.false c.loop-reduction.invariant

pub returns : goal.returns
returns c =
    each_passes (λ _ r. IsFinishedIn (map item_key c.args.listed.now.keys) c.args.state r.1.now) c.args.reductions.now
    c.loop-reduction.reduction-index c.loop-reduction-test.false c.loop-reduction.invariant
