use Rattle.std.proofs.Common.{◌≡◌, take}
use Rattle.lalrpop_lr1_inline.proofs.records.copy_of.Given as goal

abbrev pub invariant-loop-entry : goal.invariant-loop-entry
invariant-loop-entry l = l.copy ≡ take l.entry-index l.entries
