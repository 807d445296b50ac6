use Rattle.std.proofs.Common.{drop}
use Rattle.lalrpop_sets.specs.Tokens.{eof_number}
use Rattle.lalrpop_lr1_first.specs.FirstSetsOf.{set_of_symbol}
use Rattle.lalrpop_lr1_first.specs.FirstSteps.{IsGathered}
use Rattle.lalrpop_lr1_first.proofs.first_sets.first_of_named.Given as goal

abbrev pub invariant-loop-symbol : goal.invariant-loop-symbol
invariant-loop-symbol l =
    IsGathered (set_of_symbol l.terminals l.sets) (eof_number l.terminals) l.symbols (drop l.symbol-index l.symbols) l.first
