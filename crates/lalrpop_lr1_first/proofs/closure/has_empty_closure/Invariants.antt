use Rattle.std.proofs.Common.{take}
use Rattle.lalrpop_lr1_first.specs.ClosureTables.{HasEmptyClosure}
use Rattle.lalrpop_lr1_first.proofs.closure.has_empty_closure.Given as goal

abbrev pub invariant-loop-item : goal.invariant-loop-item
invariant-loop-item g l = HasEmptyClosure l.table (take l.item-index l.seed)
