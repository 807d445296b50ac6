use Rattle.lalrpop_lr1_interpret.specs.TreeEntries.{tree_entry_views}
use Rattle.lalrpop_lr1_interpret.proofs.MoveOrderLemmas.{moves_are_labels}
use Rattle.lalrpop_lr1_interpret.proofs.parse.move_order.moves_are_entries.Goals as goal

pub returns : goal.returns
returns c = λ tree. moves_are_labels (tree_entry_views tree.entries.items)
