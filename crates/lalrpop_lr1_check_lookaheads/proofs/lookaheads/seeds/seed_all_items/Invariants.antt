use Rattle.lalrpop_lr1_check_lookaheads.specs.Brought.{ItemBrings}
use Rattle.lalrpop_lr1_check_lookaheads.specs.KeyedSets.{OfSome}
use Rattle.lalrpop_lr1_check_lookaheads.specs.LookaheadSlots.{GainsSlotMarks}
use Rattle.lalrpop_lr1_check_lookaheads.proofs.KeyedSetLemmas.{OfFirst}
use Rattle.lalrpop_lr1_check_lookaheads.proofs.lookaheads.seeds.seed_all_items.Given as goal

abbrev pub invariant-loop-state : goal.invariant-loop-state
invariant-loop-state l =
    GainsSlotMarks l.fn.slots l.slots (OfFirst (λ n state. OfSome (ItemBrings l.grammar n) state.items.vec) l.states l.state)
