use Rattle.std.proofs.Common.{◌≡◌, ◌++◌}
use Rattle.std.specs.Map.{keys_of}
use Rattle.lalrpop_norm_lower.proofs.terminals.all_terminals.Given as goal

abbrev pub invariant-loop-terminal : goal.invariant-loop-terminal
invariant-loop-terminal l = l.all ++ keys_of l.terminal-iterator ≡ keys_of l.types
