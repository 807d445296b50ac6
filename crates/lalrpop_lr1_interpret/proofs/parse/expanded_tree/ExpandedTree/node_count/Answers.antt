use Rattle.std.proofs.Common.{arith}
use Rattle.std.proofs.lemmas.List.{length-map}
use Rattle.lalrpop_lr1_interpret.specs.TreeEntries.{tree_entry_view, tree_entry_views}
use Rattle.lalrpop_lr1_interpret.proofs.MoveOrderLemmas.{count_of_list}
use Rattle.lalrpop_lr1_interpret.proofs.parse.expanded_tree.ExpandedTree.node_count.Goals as goal

pub returns : goal.returns
returns c =
    let entries = c.args.self.now.entries.items in
    omega (arith, c.len.ensures, length-map entries tree_entry_view, count_of_list (tree_entry_views entries) c.args.self.now.in_order.0)
