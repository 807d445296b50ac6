use Rattle.std.proofs.Common.{◌∙◌, ap, length, sym}
use Rattle.lalrpop_lr1_first.specs.NumberedGrammars.{table_productions}
use Rattle.lalrpop_lr1_check_lookaheads.specs.Ends.{SlotsBringToEnd, end_table}
use Rattle.lalrpop_lr1_check_lookaheads.specs.LookaheadSlots.{slot_keys}
use Rattle.lalrpop_lr1_check_lookaheads.proofs.KeyedSetLemmas.{gained_marks}
use Rattle.lalrpop_lr1_check_lookaheads.proofs.lookaheads.ending.propagated_ends.Goals as goal

pub add_all_ends-requires-clause-ends : goal.add_all_ends-requires-clause-ends
add_all_ends-requires-clause-ends c = ap length c.new-ends.ensures.sets ∙ sym (ap length c.new-ends.ensures.keys)

pub returns : goal.returns
returns c = λ look.
    let gain = c.in_ok-add_all_ends.ensures look in
    record {
      are = gain.are;
      marks = gained_marks (end_table c.new-ends.result) (end_table c.add_all_ends.new.ends)
          (SlotsBringToEnd look c.args.states.now (table_productions c.args.named.now.table.now) (slot_keys c.args.slots.now)
          c.args.sets.now) c.new-ends.ensures.keys gain;
    }
