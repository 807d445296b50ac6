use Rattle.std.proofs.Common.{◌≡◌, map, subst, sym}
use Rattle.std.proofs.lemmas.Result.{IfOk-weaker}
use Rattle.std.specs.Prelude.{Vec}
use Rattle.std.specs.declared.alloc.Global.{Global}
use Rattle.lalrpop_lr1_least_trees.specs.MoveViews.{tree_move_view}
use Rattle.lalrpop_lr1_interpret.specs.ExpandedViews.{expanded_views, listed_views}
use Rattle.lalrpop_lr1_interpret.specs.declared.parse.expanded_tree.ExpandedTree.{ExpandedTree}
use Rattle.lalrpop_lr1_least_trees.specs.SpanNumbers.{AreMade}
use Rattle.lalrpop_lr1_least_trees.proofs.made_trees.making.made_trees.Goals as goal

pub returns : goal.returns
returns c =
    let listed = listed_views c.in_ok-listed_trees.field-0 in
    let Made = AreMade (map tree_move_view c.args.moves.now) c.args.from in
    IfOk-weaker c.into_trees.result (λ (trees : Vec ExpandedTree Global). expanded_views trees.items ≡ listed)
    (λ (trees : Vec ExpandedTree Global). Made (expanded_views trees.items))
    (λ trees e. subst Made (sym e) c.in_ok-listed_trees.ensures) c.into_trees.ensures
