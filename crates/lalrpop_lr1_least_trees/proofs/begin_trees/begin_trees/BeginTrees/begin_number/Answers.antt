use Rattle.std.proofs.Common.{ap, arith, length, sym}
use Rattle.lalrpop_lr1_least_trees.proofs.BeginLemmas.{begin_inside}
use Rattle.lalrpop_lr1_least_trees.proofs.begin_trees.begin_trees.BeginTrees.begin_number.Goals as goal

pub overflow_add-result-in-Some : goal.overflow_add-result-in-Some
overflow_add-result-in-Some c =
    let inside = begin_inside c.args.self.now c.requires c.args.name.now c.in-Some.number (sym c.in-Some.ensures) in
    omega (arith, inside, ap length c.names-names.ensures)
