use Rattle.std.proofs.Common.{take}
use Rattle.lalrpop_lr1_check_lookaheads.specs.ListTests.{HoldsAtFirst}
use Rattle.lalrpop_lr1_check.specs.MarkGains.{IsMarkOfSome}
use Rattle.lalrpop_lr1_check.specs.MarkLists.{GainsListed}
use Rattle.lalrpop_lr1_check.specs.UnmovedItems.{IsKnownUnmoved, IsUnmovedAt}
use Rattle.lalrpop_lr1_check.proofs.closure.unmoved.mark_unmoved.Given as goal

abbrev pub invariant-loop-item : goal.invariant-loop-item
invariant-loop-item l =
    GainsListed l.fn.marks l.marks (IsMarkOfSome (IsUnmovedAt l.table) (take l.item-index l.items))
    × HoldsAtFirst (λ _ item. IsKnownUnmoved l.table item) l.items l.item-index
