use Rattle.std.proofs.Common.{◌≡◌, length}
use Rattle.lalrpop_lr1_theory.specs.Spans.{without_spans}
use Rattle.lalrpop_lr1_theory.specs.Trees.{roots}
use Rattle.lalrpop_lr1_interpret.specs.ExpandedViews.{lent_view, lent_views, nth_tree, root_children}
use Rattle.lalrpop_lr1_interpret.proofs.parse.tree_ref.TreeRef.child.Given as goal

abbrev pub invariant-loop-before : goal.invariant-loop-before
invariant-loop-before l =
    (l.left ≡ length (roots (without_spans (lent_views l.children))))
    × (nth_tree (root_children (lent_view l.self)) l.place ≡ nth_tree (lent_views l.children) l.place)

abbrev pub decreases-loop-before : goal.decreases-loop-before
decreases-loop-before l = length (roots (without_spans (lent_views l.children)))
