use Rattle.std.proofs.Common.{◌∙◌}
use Rattle.lalrpop_lr1_check_lookaheads.proofs.GainLemmas.{each_fails, each_more, each_passes, first_none}
use Rattle.lalrpop_lr1_check.specs.UnmovedItems.{IsKnownUnmoved, IsUnmovedAt}
use Rattle.lalrpop_lr1_check.proofs.ListedMarkLemmas.{listed_first, listed_next, listed_whole}
use Rattle.lalrpop_lr1_check.proofs.closure.unmoved.mark_unmoved.Goals as goal

pub mark_if_unmoved-requires-clause-count : goal.mark_if_unmoved-requires-clause-count
mark_if_unmoved-requires-clause-count c = c.loop-item.invariant.0.gains.count ∙ c.requires.count

pub loop-item-init : goal.loop-item-init
loop-item-init c = (
  listed_first (IsUnmovedAt c.args.table.now) c.args.marks.now c.args.items.now,
  first_none (λ _ item. IsKnownUnmoved c.args.table.now item) c.args.items.now,
)

pub returns-then-not-known-clause-known : goal.returns-then-not-known-clause-known
returns-then-not-known-clause-known c =
    each_fails (λ _ item. IsKnownUnmoved c.args.table.now item) c.args.items.now c.loop-item.item-index c.item-item.result
    c.in_ok-known.known c.loop-item-test.true c.item-item.is c.in_ok-known.ensures.known c.if-not-known.true

pub loop-item-preserved : goal.loop-item-preserved
loop-item-preserved c = (
  listed_next (IsUnmovedAt c.args.table.now) c.args.marks.now c.args.items.now c.loop-item.marks
      c.mark_if_unmoved.new.marks c.loop-item.item-index c.item-item.result c.loop-item-test.true c.item-item.is
      c.loop-item.invariant.0 c.in_ok-known.ensures.marks,
  each_more (λ _ item. IsKnownUnmoved c.args.table.now item) c.args.items.now c.loop-item.item-index c.item-item.result
      c.in_ok-known.known c.loop-item-test.true c.item-item.is c.in_ok-known.ensures.known
      c.if-not-known.false c.loop-item.invariant.1,
)

pub returns-clause-known : goal.returns-clause-known
returns-clause-known c =
    each_passes (λ _ item. IsKnownUnmoved c.args.table.now item) c.args.items.now c.loop-item.item-index c.loop-item-test.false
    c.loop-item.invariant.1

pub returns-clause-marks : goal.returns-clause-marks
returns-clause-marks c = λ told.
    listed_whole (IsUnmovedAt c.args.table.now) c.args.marks.now c.args.items.now c.loop-item.marks c.loop-item.item-index
    c.loop-item-test.false c.loop-item.invariant.0
