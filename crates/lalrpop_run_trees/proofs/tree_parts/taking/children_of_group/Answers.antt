use Rattle.std.proofs.Common.{ap, arith}
use Rattle.lalrpop_run_trees.specs.PartViews.{shown_part}
use Rattle.lalrpop_run_trees.specs.TreeSizes.{tree_size}
use Rattle.lalrpop_run_trees.proofs.ShownPartLemmas.{within_inside}
use Rattle.lalrpop_run_trees.proofs.tree_parts.taking.children_of_group.Goals as goal

pub returns-in_ok-all_inside-in-Some-clause-within : goal.returns-in_ok-all_inside-in-Some-clause-within
returns-in_ok-all_inside-in-Some-clause-within c =
    within_inside c.args.part c.in_ok-all_inside-in-Some.field-0.items
    (c.in_ok-all_inside-in-Some.ensures.inside (tree_size (shown_part c.args.part))
    (omega (arith, ap tree_size c.in-Some.ensures.group)))
