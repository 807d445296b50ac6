use Rattle.std.proofs.Common.{arith}
use Rattle.lalrpop_grammar.specs.Trees.{Trees}
use Rattle.lalrpop_run_trees.specs.PartViews.{shown_part}
use Rattle.lalrpop_run_trees.specs.TreeSizes.{tree_size}
use Rattle.lalrpop_run_trees.proofs.ShownPartLemmas.{list_size, not_one, one_element, within_inside}
use Rattle.lalrpop_run_trees.proofs.tree_parts.taking.only_element.Goals as goal
use Rattle.lalrpop_run_trees.proofs.tree_parts.taking.only_element.Goals.{in_default-via-in-Some+else-trees-eq1, in_default-via-in_default}

pub returns-in_ok-all_inside-in-Some-clause-children : goal.returns-in_ok-all_inside-in-Some-clause-children
returns-in_ok-all_inside-in-Some-clause-children c =
    one_element c.args.part c.in-Some.trees.now c.in-Some.ensures.list c.in_ok-all_inside-in-Some.field-0.items
    c.if-trees-eq1.true c.in_ok-all_inside-in-Some.ensures.trees

pub returns-in_ok-all_inside-in-Some-clause-within : goal.returns-in_ok-all_inside-in-Some-clause-within
returns-in_ok-all_inside-in-Some-clause-within c =
    within_inside c.args.part c.in_ok-all_inside-in-Some.field-0.items
    (c.in_ok-all_inside-in-Some.ensures.inside (tree_size (shown_part c.args.part))
    (omega (arith, list_size c.args.part c.in-Some.trees.now c.in-Some.ensures.list)))

pub returns-in_default-clause-children : goal.returns-in_default-clause-children
returns-in_default-clause-children c = λ us h.
    elim c.in_default.branch [
      | in_default-via-in-Some+else-trees-eq1 w ↦
          not_one c.args.part w.in-Some.trees.now w.in-Some.ensures.list w.if-trees-eq1.false h.0 h.2
      | in_default-via-in_default w ↦ w.in_default.ensures.none (Trees.more h.0 Trees.none) h.2
    ]
