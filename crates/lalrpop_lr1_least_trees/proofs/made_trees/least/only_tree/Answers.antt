use Rattle.std.proofs.Common.{◌∙◌, ap, length, map, subst, sym}
use Rattle.lalrpop_lr1_theory.specs.Trees.{roots}
use Rattle.lalrpop_lr1_least_trees.specs.MoveViews.{tree_move_view}
use Rattle.lalrpop_lr1_least_trees.specs.SpanNumbers.{AreMade}
use Rattle.lalrpop_lr1_least_trees.proofs.made_trees.least.only_tree.Goals as goal

pub into_tree-requires : goal.into_tree-requires
into_tree-requires c =
    let made = c.in_ok-listed_trees.ensures in
    ap (λ f. length (roots f)) (made.trees_are c.requires.tree c.requires.lead) ∙ c.requires.one

pub returns : goal.returns
returns c =
    subst (AreMade (map tree_move_view c.args.moves.now) c.args.from) (sym c.into_tree.ensures) c.in_ok-listed_trees.ensures
