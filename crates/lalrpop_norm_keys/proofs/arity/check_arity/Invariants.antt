use Rattle.std.proofs.Common.{◌≡◌}
use Rattle.lalrpop_grammar.specs.RulesLeft.{rules_left}
use Rattle.lalrpop_grammar.specs.Views.{grammar_view}
use Rattle.lalrpop_grammar.specs.WrittenGrammar.{rules_of}
use Rattle.lalrpop_grammar_rules.specs.RuleTable.{rules_view}
use Rattle.lalrpop_norm_keys.specs.Arity.{arity_faults}
use Rattle.lalrpop_norm_keys.proofs.arity.check_arity.Given as goal

abbrev pub invariant-loop-rule : goal.invariant-loop-rule
invariant-loop-rule l =
    arity_faults (rules_view l.rules) (rules_of (grammar_view l.grammar).items)
    ≡ arity_faults (rules_view l.rules) (rules_left l.rule-iterator)
