use Rattle.std.proofs.Common.{◌≡◌, ◌+◌, ◌++◌, map}
use Rattle.lalrpop_grammar.specs.RulesLeft.{rules_left}
use Rattle.lalrpop_grammar.specs.Views.{grammar_view}
use Rattle.lalrpop_grammar.specs.WrittenGrammar.{rules_of}
use Rattle.lalrpop_norm_lower.specs.LoweredLists.{count_alternatives, lowered_entry_view, rule_entries}
use Rattle.lalrpop_norm_lower.proofs.productions.add_rules.Given as goal

abbrev pub invariant-loop-rule : goal.invariant-loop-rule
invariant-loop-rule l = record {
  made : map lowered_entry_view l.made.items ++ rule_entries l.next (rules_left l.rule-iterator)
      ≡ map lowered_entry_view l.fn.made.items ++ rule_entries l.first (rules_of (grammar_view l.grammar).items);
  number : l.next + count_alternatives (rules_left l.rule-iterator)
      ≡ l.first + count_alternatives (rules_of (grammar_view l.grammar).items);
}
