use Rattle.std.proofs.Common.{◌≡◌, ◌+◌, length}
use Rattle.lalrpop_lr1_theory.specs.Spans.{without_spans}
use Rattle.lalrpop_lr1_theory.specs.Trees.{roots}
use Rattle.lalrpop_lr1_interpret.specs.ExpandedViews.{lent_view, lent_views, root_children}
use Rattle.lalrpop_lr1_interpret.proofs.parse.tree_ref.TreeRef.len.Given as goal

abbrev pub invariant-loop-before : goal.invariant-loop-before
invariant-loop-before l =
    length (roots (without_spans (root_children (lent_view l.self))))
    ≡ length (roots (without_spans (lent_views l.children))) + l.count

abbrev pub decreases-loop-before : goal.decreases-loop-before
decreases-loop-before l = length (roots (without_spans (lent_views l.children)))
