use Rattle.std.proofs.Common.{◌≡◌, ◌≤◌, length, take}
use Rattle.lalrpop_lr1_interpret.specs.ExpandedViews.{expanded_views}
use Rattle.lalrpop_lr1_interpret.specs.MoveOrders.{tree_entries}
use Rattle.lalrpop_lr1_interpret.specs.TreeEntries.{tree_entry_views}
use Rattle.lalrpop_judge.proofs.certificates.entries.place_behind.Given as goal

abbrev pub invariant-loop-tree : goal.invariant-loop-tree
invariant-loop-tree l = record {
  within : l.place ≤ length l.entries;
  front : take l.place (tree_entry_views l.entries) ≡ tree_entries (expanded_views (take l.tree-index l.trees));
}
