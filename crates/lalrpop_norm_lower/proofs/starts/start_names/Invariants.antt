use Rattle.std.proofs.Common.{◌≡◌, ◌++◌, drop}
use Rattle.lalrpop_norm_lower.specs.LoweredLists.{start_name_entries}
use Rattle.lalrpop_norm_lower.specs.RuleLists.{rules_at}
use Rattle.lalrpop_norm_lower.proofs.starts.start_names.Given as goal

abbrev pub invariant-loop-rule : goal.invariant-loop-rule
invariant-loop-rule l =
    l.names.items ++ start_name_entries l.prefix (rules_at (drop l.rule-index l.rules))
    ≡ start_name_entries l.prefix (rules_at l.rules)
