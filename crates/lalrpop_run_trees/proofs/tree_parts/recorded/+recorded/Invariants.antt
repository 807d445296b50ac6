use Rattle.std.proofs.Common.{◌+◌, ◌*◌, ℕ, drop}
use Rattle.lalrpop_run_trees.specs.ActionLabels.{ChoiceInlinings, TellEntries}
use Rattle.lalrpop_run_trees.specs.PartViews.{AllWithin}
use Rattle.lalrpop_run_trees.specs.declared.tree_parts.tree_part.TreePart.{TreePart}
use Rattle.lalrpop_run_trees.proofs.RecordedLemmas.{AreToKeep}
use Rattle.lalrpop_run_trees.proofs.tree_parts.recorded.+recorded.Given as goal

abbrev pub decreases-parts_by_action : goal.decreases-parts_by_action
decreases-parts_by_action l = 3 * l.action.0 + 2

abbrev pub decreases-parts_of_symbol : goal.decreases-parts_of_symbol
decreases-parts_of_symbol l = 3 * l.below

abbrev pub decreases-parts_of_record : goal.decreases-parts_of_record
decreases-parts_of_record l = 3 * l.below + 1

-- what was kept up to here, and what the symbols that are left keep, is what all keep
abbrev pub invariant-parts_of_record-loop-place : goal.invariant-parts_of_record-loop-place
invariant-parts_of_record-loop-place l = record {
  kept : (count : ℕ) (entries : ChoiceInlinings) → TellEntries l.actions l.origins l.below l.symbols count entries
      → AreToKeep l.actions l.origins l.below (drop l.place l.symbols) (drop l.place l.parts) l.kept.items entries l.parts;
  within : (whole : TreePart) → AllWithin whole l.parts → AllWithin whole l.kept.items;
}
