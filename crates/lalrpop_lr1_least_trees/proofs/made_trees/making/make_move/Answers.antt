use Rattle.std.proofs.Common.{ap, length, refl, subst, sym}
use Rattle.lalrpop_lr1_theory.specs.Spans.{without_spans}
use Rattle.lalrpop_lr1_core.specs.Views.{production_view}
use Rattle.lalrpop_lr1_least_trees.specs.MoveViews.{tree_move_view}
use Rattle.lalrpop_lr1_interpret.specs.ExpandedViews.{listed_views}
use Rattle.lalrpop_lr1_least_trees.specs.SpanNumbers.{CanMove, IsMoved}
use Rattle.lalrpop_lr1_least_trees.proofs.MakingLemmas.{enough_last}
use Rattle.lalrpop_lr1_least_trees.proofs.made_trees.making.make_move.Goals as goal

pub push_node-requires : goal.push_node-requires
push_node-requires c =
    let old = listed_views c.args.trees.now in
    enough_last (production_view c.in-Reduce.production.now) old
    (subst (λ m. CanMove m (without_spans old)) (ap tree_move_view c.in-Reduce.is) c.requires.can)

pub returns-in_ok-push_node-in-Reduce : goal.returns-in_ok-push_node-in-Reduce
returns-in_ok-push_node-in-Reduce c =
    let old = listed_views c.args.trees.now in
    let new = listed_views c.push_node.new.self in
    subst (λ m. IsMoved m c.args.number old c.args.number new) (sym (ap tree_move_view c.in-Reduce.is))
    (refl, λ kept children e r. c.in_ok-push_node-in-Reduce.ensures.node kept children e (ap length r))
