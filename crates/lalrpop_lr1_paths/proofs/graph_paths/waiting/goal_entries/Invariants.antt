use Rattle.std.proofs.Common.{heap_items}
use Rattle.lalrpop_lr1_paths.proofs.EntryLemmas.{AreFirstEntries}
use Rattle.lalrpop_lr1_paths.proofs.graph_paths.waiting.goal_entries.Given as goal

abbrev pub invariant-loop-number : goal.invariant-loop-number
invariant-loop-number l = AreFirstEntries l.goals l.number (heap_items l.waiting)
