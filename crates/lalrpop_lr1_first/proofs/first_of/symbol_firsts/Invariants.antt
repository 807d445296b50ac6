use Rattle.std.proofs.Common.{◌≡◌, ◌+◌, ◌*◌, cond, false}
use Rattle.lalrpop_lr1_first.specs.FirstNumbers.{AreSoundSets, AreTableSets, table_end, table_rules}
use Rattle.lalrpop_lr1_first.specs.FirstSteps.{AreClosed, missing_in}
use Rattle.lalrpop_lr1_first.proofs.first_of.symbol_firsts.Given as goal

abbrev pub invariant-loop-changed : goal.invariant-loop-changed
invariant-loop-changed l =
    AreTableSets l.table l.sets.items × AreSoundSets l.table l.sets.items
    × (l.changed ≡ false → AreClosed (table_end l.table) (table_rules l.table) l.sets.items)

abbrev pub decreases-loop-changed : goal.decreases-loop-changed
decreases-loop-changed l = 2 * missing_in (table_end l.table + 1) l.sets.items + cond l.changed 1 0
