use Rattle.std.proofs.Common.{drop, map, subst}
use Rattle.lalrpop_lr1_core.specs.Views.{production_symbol_view}
use Rattle.lalrpop_lr1_check_lookaheads.specs.Brought.{BringsMark, ItemBrings}
use Rattle.lalrpop_lr1_check_lookaheads.specs.LookaheadSlots.{GainsSlotMarks, slot_table}
use Rattle.lalrpop_lr1_check_lookaheads.proofs.KeyedSetLemmas.{some_more}
use Rattle.lalrpop_lr1_check_lookaheads.proofs.lookaheads.seeds.seed_items.Goals as goal

pub loop-item-preserved : goal.loop-item-preserved
loop-item-preserved c =
    some_more (ItemBrings c.args.grammar.now c.args.state) (slot_table c.args.slots.now) (slot_table c.loop-item.slots)
    (slot_table c.seed_behind.new.slots) c.args.items.now
    c.loop-item.item-index c.item-item.result c.loop-item-test.true c.item-item.is c.loop-item.invariant
    (subst (λ l. GainsSlotMarks c.loop-item.slots c.seed_behind.new.slots
    (BringsMark c.args.grammar.now c.args.state (drop c.item-item.result.index (map production_symbol_view l))))
    c.as_slice-symbols.ensures c.in_ok-seed_behind.ensures)
