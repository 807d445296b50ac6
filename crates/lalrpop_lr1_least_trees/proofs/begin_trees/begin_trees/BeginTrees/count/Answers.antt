use Rattle.std.proofs.Common.{⊎_elim, true}
use Rattle.lalrpop_lr1_least_trees.proofs.AnswerLemmas.{nothing_there}
use Rattle.lalrpop_lr1_least_trees.proofs.BeginAnswerLemmas.{begin_count, none_begins}
use Rattle.lalrpop_lr1_least_trees.proofs.BeginLemmas.{entry_missing, entry_there}
use Rattle.lalrpop_lr1_least_trees.proofs.begin_trees.begin_trees.BeginTrees.count.Goals as goal

pub returns-in-None : goal.returns-in-None
returns-in-None c = λ g t of w ts b.
    let it = c.args.self.now in
    let n = c.args.nonterminal.now in
    ⊎_elim (λ missing. nothing_there it.trees.now c.requires.trees n true missing g of ts b.0)
    (λ k. none_begins it c.requires t w n k.0 k.1 g of k.2 ts b) (entry_missing it c.requires n c.in-None.ensures)

pub returns-in-Some : goal.returns-in-Some
returns-in-Some c = λ g t of w.
    let it = c.args.self.now in
    let n = c.args.nonterminal.now in
    let e = entry_there it c.requires n c.in-Some.tree c.in-Some.ensures in
    begin_count it c.requires t w n e.number e.at c.in-Some.tree e.least g of
