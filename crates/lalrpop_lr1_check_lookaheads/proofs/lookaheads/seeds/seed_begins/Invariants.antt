use Rattle.std.proofs.Common.{take}
use Rattle.lalrpop_lr1_check_lookaheads.specs.Brought.{BeginBrings}
use Rattle.lalrpop_lr1_check_lookaheads.specs.KeyedSets.{OfSome}
use Rattle.lalrpop_lr1_check_lookaheads.specs.LookaheadSlots.{GainsSlotMarks, slot_key}
use Rattle.lalrpop_lr1_check_lookaheads.proofs.lookaheads.seeds.seed_begins.Given as goal

abbrev pub invariant-loop-production : goal.invariant-loop-production
invariant-loop-production l =
    GainsSlotMarks l.fn.slots l.slots (OfSome (λ p. BeginBrings l.grammar (slot_key l.slot) p.now) (take l.production-index l.productions))
