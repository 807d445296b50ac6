use Rattle.std.proofs.Common.{◌≡◌, ◌+◌, ◌*◌, drop, length, map}
use Rattle.std.specs.Vec.Iter.{into_iter_items}
use Rattle.lalrpop_grammar.specs.Views.{tree_view}
use Rattle.lalrpop_run_trees.specs.ActionLabels.{ChoiceInlinings, TellEntries}
use Rattle.lalrpop_run_trees.specs.LabelledTrees.{trees_by_inlinings}
use Rattle.lalrpop_run_trees.proofs.EntryLemmas.{IsToCome}
use Rattle.lalrpop_run_trees.proofs.written_trees.recorded.+recorded.Given as goal

abbrev pub decreases-tree_of_action : goal.decreases-tree_of_action
decreases-tree_of_action l = 3 * l.action.0 + 2

abbrev pub decreases-tree_of_symbol : goal.decreases-tree_of_symbol
decreases-tree_of_symbol l = 3 * l.below

abbrev pub decreases-trees_of_record : goal.decreases-trees_of_record
decreases-trees_of_record l = 3 * l.below + 1

-- so many trees were made, and what is to come makes the whole
abbrev pub invariant-trees_of_record-loop-symbol : goal.invariant-trees_of_record-loop-symbol
invariant-trees_of_record-loop-symbol l = record {
  count : length l.made.items ≡ l.symbol-index;
  come : (entries : ChoiceInlinings) → TellEntries l.actions l.origins l.below l.symbols (length l.fn.children.items) entries
      → IsToCome l.actions l.origins l.below (drop l.symbol-index l.symbols) (map tree_view l.made.items)
      (map tree_view (into_iter_items l.rest)) (trees_by_inlinings entries (map tree_view l.fn.children.items));
}
