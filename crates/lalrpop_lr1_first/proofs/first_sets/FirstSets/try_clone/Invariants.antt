use Rattle.std.proofs.Common.{◌≡◌, ◌++◌}
use Rattle.lalrpop_lr1_first.proofs.first_sets.FirstSets.try_clone.Given as goal

abbrev pub invariant-loop-name : goal.invariant-loop-name
invariant-loop-name l = l.sets ++ l.name-iterator ≡ l.self
