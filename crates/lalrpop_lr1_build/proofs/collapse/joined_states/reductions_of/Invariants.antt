use Rattle.std.proofs.Common.{◌≡◌, take}
use Rattle.lalrpop_lr1_build.specs.PublicStates.{finished_entries}
use Rattle.lalrpop_lr1_build.proofs.collapse.joined_states.reductions_of.Given as goal

abbrev pub invariant-loop-item : goal.invariant-loop-item
invariant-loop-item l = l.reductions ≡ finished_entries (take l.item-index l.items)
