use Rattle.std.proofs.Common.{take}
use Rattle.lalrpop_lr1_check.specs.MarkGains.{IsMarkOfSome}
use Rattle.lalrpop_lr1_check.specs.MarkLists.{GainsListed}
use Rattle.lalrpop_lr1_check.specs.NamesBehind.{IsNumberBehind}
use Rattle.lalrpop_lr1_check.proofs.closure.names_behind.mark_names_behind.Given as goal

abbrev pub invariant-loop-item : goal.invariant-loop-item
invariant-loop-item l =
    GainsListed l.fn.names l.names (IsMarkOfSome (IsNumberBehind l.table) (take l.item-index l.items))
