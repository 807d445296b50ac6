use Rattle.std.proofs.Common.{◌≡◌, ◌++◌}
use Rattle.lalrpop_lr1_inline.proofs.rules.rules_in.Given as goal

abbrev pub invariant-loop-name : goal.invariant-loop-name
invariant-loop-name l = l.rules.items ++ l.name-iterator ≡ l.nonterminals
