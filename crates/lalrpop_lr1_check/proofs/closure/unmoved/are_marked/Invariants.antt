use Rattle.lalrpop_lr1_barren.specs.Clauses.{IsMarked}
use Rattle.lalrpop_lr1_check_lookaheads.specs.ListTests.{HoldsAtFirst}
use Rattle.lalrpop_lr1_check.proofs.closure.unmoved.are_marked.Given as goal

abbrev pub invariant-loop-number : goal.invariant-loop-number
invariant-loop-number l = HoldsAtFirst (λ _ n. IsMarked l.marks n) l.numbers l.number-index
