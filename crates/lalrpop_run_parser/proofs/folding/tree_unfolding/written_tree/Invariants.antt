use Rattle.std.proofs.Common.{◌≡◌, ◌<◌, ℕ, length, map, take}
use Rattle.lalrpop_grammar.specs.Views.{tree_view}
use Rattle.lalrpop_lr1_interpret.specs.ExpandedViews.{expanded_view}
use Rattle.lalrpop_lr1_interpret.specs.MoveOrders.{trees_of}
use Rattle.lalrpop_lr1_interpret.specs.TreeEntries.{tree_entry_views}
use Rattle.lalrpop_lr1_theory.specs.Spans.{without_spans}
use Rattle.lalrpop_lr1_theory.specs.Trees.{AreOver}
use Rattle.lalrpop_run_trees.specs.ActionLabels.{ChoiceLabel, TellsLabel}
use Rattle.lalrpop_run_trees.specs.LabelledTrees.{shown_trees}
use Rattle.lalrpop_run_parser.proofs.folding.tree_unfolding.written_tree.Given as goal

-- the written trees are those of the trees of the entries up to here
abbrev pub invariant-loop-entry : goal.invariant-loop-entry
invariant-loop-entry l =
    (0 < l.entry-index → 0 < length l.made.items)
    × ((label_of : ℕ → ChoiceLabel)
    → AreOver (λ p. TellsLabel l.actions l.origins p.action (length p.right) (label_of p.action))
    (without_spans (expanded_view l.tree))
    → map tree_view l.made.items ≡ shown_trees label_of (trees_of (tree_entry_views (take l.entry-index l.entries))))
