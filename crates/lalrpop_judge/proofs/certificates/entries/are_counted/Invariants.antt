use Rattle.std.proofs.Common.{◌↔◌, ◌≤◌, drop}
use Rattle.lalrpop_lr1_interpret.specs.TreeEntries.{tree_entry_views}
use Rattle.lalrpop_judge.specs.Certificates.{AreCountedFrom}
use Rattle.lalrpop_judge.specs.EntryMoves.{list_spans}
use Rattle.lalrpop_judge.proofs.certificates.entries.are_counted.Given as goal

abbrev pub invariant-loop-entry : goal.invariant-loop-entry
invariant-loop-entry l = record {
  within : l.number ≤ l.entry-index;
  decides : AreCountedFrom l.number (list_spans (tree_entry_views (drop l.entry-index l.entries)))
      ↔ AreCountedFrom 0 (list_spans (tree_entry_views l.entries));
}
