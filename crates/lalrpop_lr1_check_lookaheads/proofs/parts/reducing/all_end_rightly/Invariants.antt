use Rattle.lalrpop_lr1_check_lookaheads.specs.Reductions.{DoesEndRightly}
use Rattle.lalrpop_lr1_check_lookaheads.specs.ListTests.{HoldsAtFirst}
use Rattle.lalrpop_lr1_check_lookaheads.proofs.parts.reducing.all_end_rightly.Given as goal

abbrev pub invariant-loop-reduction : goal.invariant-loop-reduction
invariant-loop-reduction l =
    HoldsAtFirst (λ _ r. DoesEndRightly l.start l.terminals r.0 r.1.now)
    l.reductions l.reduction-index
