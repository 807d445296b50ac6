use Rattle.lalrpop_lr1_check_lookaheads.specs.ListTests.{HoldsAtFirst}
use Rattle.lalrpop_lr1_check_lookaheads.proofs.ReduceLemmas.{IsEndWithin}
use Rattle.lalrpop_lr1_check_lookaheads.proofs.lookaheads.reducing.are_within.Given as goal

abbrev pub invariant-loop-number : goal.invariant-loop-number
invariant-loop-number l = HoldsAtFirst (IsEndWithin l.some l.all) l.some.keys.keys l.number
