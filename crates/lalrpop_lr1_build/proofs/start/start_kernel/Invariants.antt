use Rattle.std.proofs.Common.{◌≡◌, take}
use Rattle.lalrpop_lr1_first.specs.NumberedGrammars.{table_productions}
use Rattle.lalrpop_lr1_build.specs.PublicStates.{start_items}
use Rattle.lalrpop_lr1_build.proofs.start.start_kernel.Given as goal

abbrev pub invariant-loop-number : goal.invariant-loop-number
invariant-loop-number g l =
    l.items ≡ start_items l.start l.lookahead (take l.number (table_productions l.table)) (take l.number l.table.rules.items)
