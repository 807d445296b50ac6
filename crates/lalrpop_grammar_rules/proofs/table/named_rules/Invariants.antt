use Rattle.std.proofs.Common.{◌≡◌}
use Rattle.lalrpop_grammar_symbols.specs.Symbols.{Text}
use Rattle.lalrpop_grammar.specs.RulesLeft.{rules_left}
use Rattle.lalrpop_grammar.specs.Views.{grammar_view}
use Rattle.lalrpop_grammar.specs.WrittenGrammar.{rules_of}
use Rattle.lalrpop_grammar_rules.specs.RuleTable.{entry_with_rules, rule_entry_at, rules_named_in, only_of}
use Rattle.lalrpop_grammar_rules.proofs.table.named_rules.Given as goal

abbrev pub invariant-loop-rule : goal.invariant-loop-rule
invariant-loop-rule l =
    (n : Text) → entry_with_rules (rule_entry_at l.features l.by_name n) (rules_named_in l.features (rules_left l.rule-iterator) n)
    ≡ only_of (rules_named_in l.features (rules_of (grammar_view l.grammar).items) n)
