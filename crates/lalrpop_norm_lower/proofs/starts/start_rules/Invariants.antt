use Rattle.std.proofs.Common.{◌≡◌, ◌++◌}
use Rattle.lalrpop_grammar.specs.RulesLeft.{rules_left}
use Rattle.lalrpop_grammar.specs.Views.{grammar_view}
use Rattle.lalrpop_grammar.specs.WrittenGrammar.{rules_of}
use Rattle.lalrpop_norm_lower.specs.LoweredLists.{rules_with_starts}
use Rattle.lalrpop_norm_lower.specs.RuleLists.{rules_at}
use Rattle.lalrpop_norm_lower.proofs.starts.start_rules.Given as goal

abbrev pub invariant-loop-rule : goal.invariant-loop-rule
invariant-loop-rule l =
    rules_at l.rules.items ++ rules_with_starts (rules_left l.rule-iterator)
    ≡ rules_with_starts (rules_of (grammar_view l.grammar).items)
