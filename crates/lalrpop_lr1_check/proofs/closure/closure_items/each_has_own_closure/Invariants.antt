use Rattle.lalrpop_lr1_first.specs.NumberedGrammars.{IsSeenIn, table_productions}
use Rattle.lalrpop_lr1_check_lookaheads.specs.ListTests.{HoldsAtFirst}
use Rattle.lalrpop_lr1_check.specs.ClosureItemTests.{HasOwnClosureIfMarked}
use Rattle.lalrpop_lr1_check.specs.MarkLists.{AreLentMarks}
use Rattle.lalrpop_lr1_check.proofs.closure.closure_items.each_has_own_closure.Given as goal

abbrev pub invariant-loop-number : goal.invariant-loop-number
invariant-loop-number l =
    HoldsAtFirst (HasOwnClosureIfMarked (IsSeenIn (table_productions l.table)) l.targets) l.states l.number
    × AreLentMarks l.table l.names l.productions
