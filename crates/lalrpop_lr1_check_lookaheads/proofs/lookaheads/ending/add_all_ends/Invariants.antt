use Rattle.std.proofs.Common.{ℕ, List}
use Rattle.lalrpop_lr1_theory.specs.States.{LookaheadSet}
use Rattle.lalrpop_lr1_first.specs.NumberedGrammars.{table_productions}
use Rattle.lalrpop_lr1_check_lookaheads.specs.Ends.{GainsEndMarks, SlotBringsToEnd}
use Rattle.lalrpop_lr1_check_lookaheads.specs.LookaheadSlots.{slot_keys}
use Rattle.lalrpop_lr1_check_lookaheads.proofs.KeyedSetLemmas.{OfFirst}
use Rattle.lalrpop_lr1_check_lookaheads.proofs.lookaheads.ending.add_all_ends.Given as goal

abbrev pub invariant-loop-number : goal.invariant-loop-number
invariant-loop-number l = (look : List ℕ → LookaheadSet) → GainsEndMarks l.fn.ends l.ends
    (OfFirst (SlotBringsToEnd look l.states (table_productions l.named.table.now) (slot_keys l.slots)) l.sets l.number)
