use Rattle.std.proofs.Common.{take}
use Rattle.lalrpop_lr1_check_lookaheads.specs.Ends.{GainsEndMarks, ReductionBrings}
use Rattle.lalrpop_lr1_check_lookaheads.specs.KeyedSets.{OfSome}
use Rattle.lalrpop_lr1_check_lookaheads.proofs.lookaheads.reducing.add_reductions.Given as goal

abbrev pub invariant-loop-reduction : goal.invariant-loop-reduction
invariant-loop-reduction l =
    GainsEndMarks l.fn.ends l.ends (OfSome (ReductionBrings l.state) (take l.reduction-index l.reductions))
