use Rattle.std.proofs.Common.{◌≡◌, length}
use Rattle.lalrpop_case_kinds.proofs.calls.automata.dfa_of.Given as goal

abbrev pub invariant-loop-pattern : goal.invariant-loop-pattern
invariant-loop-pattern l = length l.trees.items ≡ length l.precedences.items
