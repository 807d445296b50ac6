use Rattle.std.proofs.Common.{◌≡◌}
use Rattle.lalrpop_lr1_check_lookaheads.specs.ListTests.{HoldsAtFirst}
use Rattle.lalrpop_lr1_check.proofs.closure.closure_items.are_unmoved.Given as goal

abbrev pub invariant-loop-item : goal.invariant-loop-item
invariant-loop-item l = HoldsAtFirst (λ _ item. item.index ≡ 0) l.items l.item-index
