use Rattle.lalrpop_lr1_check_lookaheads.specs.Reductions.{DoesEndRightly}
use Rattle.lalrpop_lr1_check_lookaheads.specs.ListTests.{HoldsAtEach, HoldsAtFirst}
use Rattle.lalrpop_lr1_check_lookaheads.proofs.parts.reducing.states_end_rightly.Given as goal

abbrev pub invariant-loop-state : goal.invariant-loop-state
invariant-loop-state l =
    HoldsAtFirst (λ _ state. HoldsAtEach (λ _ r. DoesEndRightly l.start l.terminals r.0 r.1.now) state.reductions)
    l.states l.state-index
