use Rattle.std.proofs.Common.{◌≡◌, take}
use Rattle.lalrpop_lr1_interpret.specs.TreeEntries.{tree_entry_views}
use Rattle.lalrpop_judge.proofs.certificates.entries.begin_with.Given as goal

abbrev pub invariant-loop-place : goal.invariant-loop-place
invariant-loop-place l = take l.place (tree_entry_views l.entries) ≡ take l.place (tree_entry_views l.front)
