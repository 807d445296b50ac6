use Rattle.std.proofs.Common.{take}
use Rattle.lalrpop_lr1_first.specs.ClosureTables.{SeedsAll}
use Rattle.lalrpop_lr1_first.proofs.closure.seed_slots.Given as goal

abbrev pub invariant-loop-item : goal.invariant-loop-item
invariant-loop-item g l = SeedsAll g.L.ClosureLookahead.marks g.L.ClosureLookahead.firsts l.closures.numbered l.closures.firsts.items
    (take l.item-index l.seed) l.slots.items
