use Rattle.std.proofs.Common.{Some, None}
use Rattle.lalrpop_lr1_least_trees.proofs.AnswerLemmas.{count_answer, entry_says, none_wanted}
use Rattle.lalrpop_lr1_least_trees.proofs.least_trees.LeastTrees.count_of.Goals as goal

pub returns-in-None : goal.returns-in-None
returns-in-None c = λ g of.
    let it = c.args.self.now in
    let n = c.args.name.now in
    none_wanted it c.requires n c.args.leaves g of (entry_says it c.requires n c.args.leaves None c.in-None.ensures)

pub returns-in-Some : goal.returns-in-Some
returns-in-Some c = λ g of.
    let it = c.args.self.now in
    let n = c.args.name.now in
    count_answer it c.requires n c.args.leaves g of c.in-Some.tree
    (entry_says it c.requires n c.args.leaves (Some c.in-Some.tree) c.in-Some.ensures)
