use Rattle.std.proofs.Common.{◌≡◌, length}
use Rattle.lalrpop_lr1_core.specs.Conflicts.{token_conflicts}
use Rattle.lalrpop_lr1_check_lookaheads.specs.ListTests.{HoldsAtFirst}
use Rattle.lalrpop_lr1_check_lookaheads.proofs.parts.reducing.states_have_no_conflict.Given as goal

abbrev pub invariant-loop-state : goal.invariant-loop-state
invariant-loop-state l =
    HoldsAtFirst (λ _ state. length (token_conflicts l.terminals state) ≡ 0)
    l.states l.state-index
