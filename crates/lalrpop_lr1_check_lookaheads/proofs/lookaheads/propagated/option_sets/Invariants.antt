use Rattle.std.proofs.Common.{◌≡◌, Some, map, take}
use Rattle.lalrpop_lr1_check_lookaheads.proofs.lookaheads.propagated.option_sets.Given as goal

abbrev pub invariant-loop-set : goal.invariant-loop-set
invariant-loop-set l = l.copies.items ≡ map Some (take l.set-index l.sets)
