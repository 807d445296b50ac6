use Rattle.lalrpop_lr1_check_lookaheads.specs.Ends.{ReductionBrings, end_table}
use Rattle.lalrpop_lr1_check_lookaheads.specs.KeyedSets.{GainsKeyedMarks, OfSome}
use Rattle.lalrpop_lr1_check_lookaheads.proofs.KeyedSetLemmas.{OfFirst, no_sets}
use Rattle.lalrpop_lr1_check_lookaheads.proofs.lookaheads.reducing.reduction_ends.Given as goal

abbrev pub invariant-loop-state : goal.invariant-loop-state
invariant-loop-state l = GainsKeyedMarks no_sets (end_table l.ends)
    (OfFirst (λ n state. OfSome (ReductionBrings n) state.reductions) l.states l.state)
