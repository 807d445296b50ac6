use Rattle.std.proofs.Common.{◌≡◌, ◌++◌}
use Rattle.lalrpop_grammar_repr.proofs.map.Map.try_clone.Given as goal

abbrev pub invariant-loop-key : goal.invariant-loop-key
invariant-loop-key g l = l.copy ++ l.key-iterator ≡ l.self
