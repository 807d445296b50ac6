use Rattle.std.proofs.Common.{◌∙◌, ap, sym}
use Rattle.lalrpop_lr1_interpret.specs.TreeEntries.{tree_entry_views}
use Rattle.lalrpop_lr1_interpret.proofs.MoveOrderLemmas.{entries_of_trees}
use Rattle.lalrpop_lr1_interpret.proofs.parse.expanded_tree.ExpandedTree.entries.Goals as goal

pub returns : goal.returns
returns c =
    let tree = c.args.self.now in
    ap tree_entry_views c.as_slice.ensures.value ∙ sym (entries_of_trees (tree_entry_views tree.entries.items) tree.in_order.0)
