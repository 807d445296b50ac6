use Rattle.std.proofs.Common.{map}
use Rattle.lalrpop_lr1_check_lookaheads.specs.CarriedSets.{AreSetsOfReductions, IsSetOfEnd}
use Rattle.lalrpop_lr1_check_lookaheads.proofs.PairLemmas.{ArePaired}
use Rattle.lalrpop_lr1_check_lookaheads.proofs.lookaheads.carried.sets_of_states.Given as goal

abbrev pub invariant-loop-state : goal.invariant-loop-state
invariant-loop-state l = ArePaired (λ n state own. AreSetsOfReductions (IsSetOfEnd l.ends n) state.reductions own) l.states
    (map (λ own. own.items) l.sets.items) l.state
