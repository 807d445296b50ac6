use Rattle.std.proofs.Common.{◌≡◌, take}
use Rattle.lalrpop_lr1_build.specs.StateCores.{items_core, listed_core}
use Rattle.lalrpop_lr1_build.proofs.collapse.cores.core_of.Given as goal

abbrev pub invariant-loop-item : goal.invariant-loop-item
invariant-loop-item l = listed_core l.core ≡ items_core (take l.item-index l.items)
