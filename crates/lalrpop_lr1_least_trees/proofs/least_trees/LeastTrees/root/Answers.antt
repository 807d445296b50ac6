use Rattle.std.proofs.Common.{Some, None, arith}
use Rattle.lalrpop_lr1_core.specs.Views.{production_view}
use Rattle.lalrpop_lr1_first.specs.NumberedGrammars.{table_productions}
use Rattle.lalrpop_lr1_first.proofs.TableLemmas.{long_map}
use Rattle.lalrpop_lr1_least_trees.proofs.AnswerLemmas.{entry_says, none_wanted, root_answer, root_inside}
use Rattle.lalrpop_lr1_least_trees.proofs.least_trees.LeastTrees.root.Goals as goal

pub production_at-requires : goal.production_at-requires
production_at-requires c =
    let it = c.args.self.now in
    let n = c.args.name.now in
    let tree = c.in-Some.tree in
    let inside = root_inside it c.requires n c.args.leaves tree (entry_says it c.requires n c.args.leaves (Some tree) c.in-Some.ensures) in
    omega (arith, inside, long_map production_view (table_productions it.table), long_map (λ b. b.now) it.table.productions.items)

pub returns-in-None : goal.returns-in-None
returns-in-None c = λ g of.
    let it = c.args.self.now in
    let n = c.args.name.now in
    none_wanted it c.requires n c.args.leaves g of (entry_says it c.requires n c.args.leaves None c.in-None.ensures)

pub returns-in-Some : goal.returns-in-Some
returns-in-Some c = λ g of.
    let it = c.args.self.now in
    let n = c.args.name.now in
    let tree = c.in-Some.tree in
    root_answer it c.requires n c.args.leaves g of tree _
    (entry_says it c.requires n c.args.leaves (Some tree) c.in-Some.ensures) c.production_at.ensures
