use Rattle.std.proofs.Common.{◌≡◌, ◌++◌}
use Rattle.lalrpop_grammar.specs.RulesLeft.{rules_left}
use Rattle.lalrpop_grammar.specs.Views.{grammar_view}
use Rattle.lalrpop_grammar.specs.WrittenGrammar.{rules_of}
use Rattle.lalrpop_norm_lower.specs.LoweredLists.{rule_definitions}
use Rattle.lalrpop_norm_lower.proofs.actions.add_rule_definitions.Given as goal

abbrev pub invariant-loop-rule : goal.invariant-loop-rule
invariant-loop-rule l =
    l.made ++ rule_definitions l.types.nonterminal_types (rules_left l.rule-iterator)
    ≡ l.fn.made ++ rule_definitions l.types.nonterminal_types (rules_of (grammar_view l.grammar).items)
