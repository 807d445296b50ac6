use Rattle.std.proofs.Common.{drop}
use Rattle.lalrpop_sets.specs.Tokens.{eof_number}
use Rattle.lalrpop_lr1_first.specs.FirstSteps.{IsGathered}
use Rattle.lalrpop_lr1_first.specs.Numbers.{set_of_number}
use Rattle.lalrpop_lr1_first.specs.Tables.{symbols_until}
use Rattle.lalrpop_lr1_first.proofs.first_of.first_of_rest.Given as goal

abbrev pub invariant-loop-place : goal.invariant-loop-place
invariant-loop-place l =
    IsGathered (set_of_number l.sets) (eof_number l.terminals) (symbols_until l.rest) (symbols_until (drop l.place-index l.rest)) l.first
