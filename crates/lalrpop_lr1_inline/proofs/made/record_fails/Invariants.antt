use Rattle.std.proofs.Common.{◌≡◌, drop}
use Rattle.std.specs.List.{list_any}
use Rattle.lalrpop_lr1_inline.specs.InliningSteps.{entry_fails}
use Rattle.lalrpop_lr1_inline.proofs.made.record_fails.Given as goal

abbrev pub invariant-loop-entry : goal.invariant-loop-entry
invariant-loop-entry l = list_any (entry_fails l.actions) l.entries ≡ list_any (entry_fails l.actions) (drop l.entry-index l.entries)
