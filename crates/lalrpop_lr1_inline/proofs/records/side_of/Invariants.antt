use Rattle.std.proofs.Common.{◌≡◌, ◌++◌, drop}
use Rattle.lalrpop_lr1_inline.specs.InliningSteps.{side_of_record}
use Rattle.lalrpop_lr1_inline.proofs.records.side_of.Given as goal

abbrev pub invariant-loop-entry : goal.invariant-loop-entry
invariant-loop-entry l = l.side ++ side_of_record (drop l.entry-index l.«record») ≡ side_of_record l.«record»
