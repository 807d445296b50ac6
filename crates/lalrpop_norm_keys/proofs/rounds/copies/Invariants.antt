use Rattle.std.proofs.Common.{◌≡◌, take}
use Rattle.lalrpop_norm_keys.proofs.rounds.copies.Given as goal

abbrev pub invariant-loop-symbol : goal.invariant-loop-symbol
invariant-loop-symbol l = l.copies ≡ take l.symbol-index l.symbols
