use Rattle.std.proofs.Common.{arith}
use Rattle.lalrpop_run_trees.specs.PartViews.{shown_part, shown_tree}
use Rattle.lalrpop_run_trees.specs.TreeSizes.{tree_size}
use Rattle.lalrpop_run_trees.proofs.ShownPartLemmas.{longer_size, never_longer, within_inside}
use Rattle.lalrpop_run_trees.proofs.SizeLemmas.{tree_positive}
use Rattle.lalrpop_run_trees.proofs.tree_parts.taking.last_element.Goals as goal

pub returns-in_ok-front_and_last-in-Some-split_last-clause-within :
    goal.returns-in_ok-front_and_last-in-Some-split_last-clause-within
returns-in_ok-front_and_last-in-Some-split_last-clause-within c =
    let size = longer_size c.args.part c.in-Some.trees.now c.in-Some.ensures.list c.in-Some-split_last.front.now
    c.in-Some-split_last.last.now c.in-Some-split_last.ensures.cases.0 in
    within_inside c.args.part c.in_ok-front_and_last-in-Some-split_last.field-0.items
    (c.in_ok-front_and_last-in-Some-split_last.ensures.inside (tree_size (shown_part c.args.part))
    (omega (arith, size, tree_positive (shown_tree c.in-Some-split_last.last.now))) (omega (arith, size)))

pub returns-in-None-split_last-clause-children : goal.returns-in-None-split_last-clause-children
returns-in-None-split_last-clause-children c = λ us h.
    never_longer c.args.part c.in-Some.trees.now c.in-Some.ensures.list c.in-None-split_last.ensures.cases h.0 h.1 h.3
