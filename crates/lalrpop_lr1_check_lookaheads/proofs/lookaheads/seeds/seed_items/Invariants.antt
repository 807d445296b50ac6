use Rattle.std.proofs.Common.{take}
use Rattle.lalrpop_lr1_check_lookaheads.specs.Brought.{ItemBrings}
use Rattle.lalrpop_lr1_check_lookaheads.specs.KeyedSets.{OfSome}
use Rattle.lalrpop_lr1_check_lookaheads.specs.LookaheadSlots.{GainsSlotMarks}
use Rattle.lalrpop_lr1_check_lookaheads.proofs.lookaheads.seeds.seed_items.Given as goal

abbrev pub invariant-loop-item : goal.invariant-loop-item
invariant-loop-item l = GainsSlotMarks l.fn.slots l.slots (OfSome (ItemBrings l.grammar l.state) (take l.item-index l.items))
