use Rattle.std.proofs.Common.{◌≡◌}
use Rattle.std.specs.List.{list_any}
use Rattle.lalrpop_grammar.specs.RulesLeft.{rules_left}
use Rattle.lalrpop_grammar.specs.Views.{grammar_view}
use Rattle.lalrpop_run_prepare.specs.RecoverySearch.{grammar_recovers, rule_recovers}
use Rattle.lalrpop_run_prepare.proofs.tokens.carrying.grammar_recovers.Given as goal

abbrev pub invariant-loop-rule : goal.invariant-loop-rule
invariant-loop-rule l =
    grammar_recovers l.features (grammar_view l.grammar) ≡ list_any (rule_recovers l.features) (rules_left l.rule-iterator)
