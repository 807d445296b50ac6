use Rattle.std.proofs.Common.{rules}
use Rattle.lalrpop_run_trees.proofs.ShownPartLemmas.{nothing_told}
use Rattle.lalrpop_run_trees.proofs.tree_parts.taking.nothing_of_list.Goals as goal

pub returns-in-Some-clause-children : goal.returns-in-Some-clause-children
returns-in-Some-clause-children c =
    nothing_told c.args.part c.in-Some.trees.now c.in-Some.ensures.list c.is_empty.result c.nothing_where.result (λ e. search rules)
    (λ e. search rules) c.nothing_where.ensures.some c.nothing_where.ensures.none
