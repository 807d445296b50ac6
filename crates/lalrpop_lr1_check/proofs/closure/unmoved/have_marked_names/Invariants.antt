use Rattle.lalrpop_lr1_check_lookaheads.specs.ListTests.{HoldsAtFirst}
use Rattle.lalrpop_lr1_check.specs.RuleLists.{HasMarkedName}
use Rattle.lalrpop_lr1_check.proofs.closure.unmoved.have_marked_names.Given as goal

abbrev pub invariant-loop-number : goal.invariant-loop-number
invariant-loop-number l = HoldsAtFirst (λ _ r. HasMarkedName l.rules l.names r) l.numbers l.number-index
