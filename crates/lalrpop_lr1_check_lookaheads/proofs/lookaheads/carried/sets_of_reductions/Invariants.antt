use Rattle.lalrpop_lr1_check_lookaheads.specs.CarriedSets.{IsSetOfEnd}
use Rattle.lalrpop_lr1_check_lookaheads.proofs.PairLemmas.{ArePaired}
use Rattle.lalrpop_lr1_check_lookaheads.proofs.lookaheads.carried.sets_of_reductions.Given as goal

abbrev pub invariant-loop-reduction : goal.invariant-loop-reduction
invariant-loop-reduction l =
    ArePaired (λ _ r set. IsSetOfEnd l.ends l.state r.1.now set) l.reductions l.sets.items l.reduction-index
