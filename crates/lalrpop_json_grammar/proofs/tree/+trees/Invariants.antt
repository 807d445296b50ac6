use Rattle.std.proofs.Common.{◌+◌, ◌*◌}
use Rattle.serde_json.specs.Data.{depth}
use Rattle.lalrpop_json_document.specs.DocumentViews.{view}
use Rattle.lalrpop_json_grammar.specs.ReadTrees.{tree_at}
use Rattle.lalrpop_json_values.proofs.ListReadingLemmas.{IsAt}
use Rattle.lalrpop_json_grammar.proofs.tree.+trees.Given as goal

abbrev pub decreases-node_of : goal.decreases-node_of
decreases-node_of l = 4 * depth (view l.value.now) + 1

abbrev pub decreases-repeated_of : goal.decreases-repeated_of
decreases-repeated_of l = 4 * depth (view l.value.now) + 1

abbrev pub decreases-option_of : goal.decreases-option_of
decreases-option_of l = 4 * depth (view l.value.now) + 1

abbrev pub decreases-group_of : goal.decreases-group_of
decreases-group_of l = 4 * depth (view l.value.now) + 1

abbrev pub decreases-tree_of_document : goal.decreases-tree_of_document
decreases-tree_of_document l = 4 * depth (view l.value.now) + 2

abbrev pub decreases-optional_of : goal.decreases-optional_of
decreases-optional_of l = 4 * depth (view l.value.now) + 3

abbrev pub decreases-optional_field : goal.decreases-optional_field
decreases-optional_field l = 4 * depth (view l.value.now)

abbrev pub decreases-tree_in : goal.decreases-tree_in
decreases-tree_in l = 4 * depth (view l.value.now) + 3

abbrev pub decreases-trees_of : goal.decreases-trees_of
decreases-trees_of l = 4 * depth (view l.value.now) + 1

abbrev pub decreases-trees_field : goal.decreases-trees_field
decreases-trees_field l = 4 * depth (view l.value.now)

abbrev pub invariant-trees_of-loop-index : goal.invariant-trees_of-loop-index
invariant-trees_of-loop-index l = IsAt (λ _. tree_at) l.value-items l.trees l.index
