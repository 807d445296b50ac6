use Rattle.std.proofs.Common.{◌≡◌, drop}
use Rattle.lalrpop_lr1_theory.specs.Productions.{first}
use Rattle.lalrpop_lr1_interpret.specs.TreeEntries.{tree_entry_views}
use Rattle.lalrpop_judge.specs.EntryMoves.{list_moves}
use Rattle.lalrpop_judge.specs.MoveLists.{shifted_terminals}
use Rattle.lalrpop_judge.proofs.certificates.entries.first_leaf.Given as goal

abbrev pub invariant-loop-entry : goal.invariant-loop-entry
invariant-loop-entry l =
    first (shifted_terminals (list_moves (tree_entry_views l.entries)))
    ≡ first (shifted_terminals (list_moves (tree_entry_views (drop l.entry-index l.entries))))
