use Rattle.std.proofs.Common.{◌≡◌, ◌++◌, drop}
use Rattle.lalrpop_norm_lower.specs.LoweredLists.{start_definitions}
use Rattle.lalrpop_norm_lower.specs.RuleLists.{rules_at}
use Rattle.lalrpop_norm_lower.proofs.actions.add_start_definitions.Given as goal

abbrev pub invariant-loop-rule : goal.invariant-loop-rule
invariant-loop-rule l =
    l.made ++ start_definitions l.types.nonterminal_types (rules_at (drop l.rule-index l.rules))
    ≡ l.fn.made ++ start_definitions l.types.nonterminal_types (rules_at l.rules)
