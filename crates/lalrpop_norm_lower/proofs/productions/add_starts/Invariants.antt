use Rattle.std.proofs.Common.{◌≡◌, ◌++◌, drop, map}
use Rattle.lalrpop_norm_lower.specs.LoweredLists.{lowered_entry_view, start_entries}
use Rattle.lalrpop_norm_lower.specs.RuleLists.{rules_at}
use Rattle.lalrpop_norm_lower.proofs.productions.add_starts.Given as goal

abbrev pub invariant-loop-rule : goal.invariant-loop-rule
invariant-loop-rule l = record {
  made : map lowered_entry_view l.made.items ++ start_entries l.prefix l.number (rules_at (drop l.rule-index l.rules))
      ≡ map lowered_entry_view l.fn.made.items ++ start_entries l.prefix 0 (rules_at l.rules);
  number : l.number ≡ l.rule-index;
}
