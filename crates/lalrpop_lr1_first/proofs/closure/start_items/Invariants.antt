use Rattle.std.proofs.Common.{◌≡◌, take}
use Rattle.lalrpop_lr1_first.specs.ClosureTables.{started_items}
use Rattle.lalrpop_lr1_first.proofs.closure.start_items.Given as goal

abbrev pub invariant-loop-rule : goal.invariant-loop-rule
invariant-loop-rule g l = l.items.items ≡ started_items l.slots (take l.rule-index l.rules)
