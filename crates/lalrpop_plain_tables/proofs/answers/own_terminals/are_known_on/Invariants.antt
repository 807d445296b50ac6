use Rattle.std.proofs.Common.{take}
use Rattle.std.specs.List.{All}
use Rattle.lalrpop_lr1_first.specs.Tables.{HasNumberedTerminal}
use Rattle.lalrpop_plain_tables.proofs.answers.own_terminals.are_known_on.Given as goal

abbrev pub invariant-loop-symbol : goal.invariant-loop-symbol
invariant-loop-symbol l = All (HasNumberedTerminal l.terminals) (take l.symbol-index l.symbols)
