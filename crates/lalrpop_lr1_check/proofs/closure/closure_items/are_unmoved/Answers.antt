use Rattle.std.proofs.Common.{◌≡◌}
use Rattle.lalrpop_lr1_check_lookaheads.proofs.GainLemmas.{each_fails, each_more, each_passes, first_none}
use Rattle.lalrpop_lr1_check.proofs.closure.closure_items.are_unmoved.Goals as goal

pub loop-item-init : goal.loop-item-init
loop-item-init c = first_none (λ _ item. item.index ≡ 0) c.args.items.now

pub returns-then-not-is_unmoved : goal.returns-then-not-is_unmoved
returns-then-not-is_unmoved c =
    each_fails (λ _ item. item.index ≡ 0) c.args.items.now c.loop-item.item-index c.item-item.result c.is_unmoved.result
    c.loop-item-test.true c.item-item.is c.is_unmoved.ensures c.if-not-is_unmoved.true

pub loop-item-preserved : goal.loop-item-preserved
loop-item-preserved c =
    each_more (λ _ item. item.index ≡ 0) c.args.items.now c.loop-item.item-index c.item-item.result c.is_unmoved.result
    c.loop-item-test.true c.item-item.is c.is_unmoved.ensures c.if-not-is_unmoved.false c.loop-item.invariant

pub returns : goal.returns
returns c =
    each_passes (λ _ item. item.index ≡ 0) c.args.items.now c.loop-item.item-index c.loop-item-test.false
    c.loop-item.invariant
