use Rattle.std.proofs.Common.{◌≡◌, ◌++◌, drop}
use Rattle.lalrpop_norm_lower.specs.LoweredLists.{start_type_entries}
use Rattle.lalrpop_norm_lower.specs.RuleLists.{rules_at}
use Rattle.lalrpop_norm_lower.proofs.starts.start_types.Given as goal

abbrev pub invariant-loop-rule : goal.invariant-loop-rule
invariant-loop-rule l =
    l.made.items ++ start_type_entries l.types.nonterminal_types l.prefix (rules_at (drop l.rule-index l.rules))
    ≡ start_type_entries l.types.nonterminal_types l.prefix (rules_at l.rules)
