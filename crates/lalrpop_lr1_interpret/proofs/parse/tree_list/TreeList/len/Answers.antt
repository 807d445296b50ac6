use Rattle.std.proofs.Common.{arith}
use Rattle.std.proofs.lemmas.List.{length-map}
use Rattle.lalrpop_lr1_interpret.specs.TreeEntries.{tree_entry_view, tree_entry_views}
use Rattle.lalrpop_lr1_interpret.proofs.MoveOrderLemmas.{count_of_list}
use Rattle.lalrpop_lr1_interpret.proofs.parse.tree_list.TreeList.len.Goals as goal

pub returns : goal.returns
returns c =
    let es = c.args.self.now.entries.items in
    omega (arith, c.len.ensures, length-map es tree_entry_view, count_of_list (tree_entry_views es) c.args.self.now.in_order)
