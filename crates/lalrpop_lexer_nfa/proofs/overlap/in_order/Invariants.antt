use Rattle.std.proofs.Common.{◌≡◌, ◌++◌}
use Rattle.lalrpop_lexer_nfa.proofs.overlap.in_order.Given as goal

abbrev pub invariant-loop-range : goal.invariant-loop-range
invariant-loop-range l = l.ordered.items ++ l.range-iterator ≡ l.ranges.keys
