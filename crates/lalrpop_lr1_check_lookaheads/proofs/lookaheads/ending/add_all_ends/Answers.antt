use Rattle.std.proofs.Common.{◌<◌, ◌≤◌, arith, length}
use Rattle.lalrpop_lr1_first.specs.NumberedGrammars.{table_productions}
use Rattle.lalrpop_lr1_check_lookaheads.specs.Ends.{SlotBringsToEnd, end_table}
use Rattle.lalrpop_lr1_check_lookaheads.specs.LookaheadSlots.{slot_keys}
use Rattle.lalrpop_lr1_check_lookaheads.proofs.KeyedSetLemmas.{first_all, first_more, first_none}
use Rattle.lalrpop_lr1_check_lookaheads.proofs.PropagationEdgeLemmas.{any_look}
use Rattle.lalrpop_lr1_check_lookaheads.proofs.lookaheads.ending.add_all_ends.Goals as goal

pub add_ends_from-requires-clause-ends : goal.add_ends_from-requires-clause-ends
add_ends_from-requires-clause-ends c = (c.loop-number.invariant any_look).are

pub loop-number-init : goal.loop-number-init
loop-number-init c = λ look.
    first_none (SlotBringsToEnd look c.args.states.now (table_productions c.args.named.now.table.now) (slot_keys c.args.slots.now))
    c.args.sets.now (end_table c.args.ends.now) c.requires.ends

pub loop-number-preserved : goal.loop-number-preserved
loop-number-preserved c = λ look.
    let here : c.loop-number.number < length c.args.sets.now = omega arith in
    first_more (SlotBringsToEnd look c.args.states.now (table_productions c.args.named.now.table.now) (slot_keys c.args.slots.now))
    c.args.sets.now (end_table c.args.ends.now) (end_table c.loop-number.ends) (end_table c.add_ends_from.new.ends) c.loop-number.number
    c.index-sets-number.result here c.index-sets-number.is (c.loop-number.invariant look) (c.in_ok-add_ends_from.ensures look)

pub returns : goal.returns
returns c = λ look.
    let end : length c.args.sets.now ≤ c.loop-number.number = omega arith in
    first_all (SlotBringsToEnd look c.args.states.now (table_productions c.args.named.now.table.now) (slot_keys c.args.slots.now))
    c.args.sets.now (end_table c.args.ends.now) (end_table c.loop-number.ends) c.loop-number.number end (c.loop-number.invariant look)
