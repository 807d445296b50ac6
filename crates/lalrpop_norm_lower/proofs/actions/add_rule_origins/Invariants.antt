use Rattle.std.proofs.Common.{◌≡◌, ◌++◌, map}
use Rattle.lalrpop_grammar.specs.RulesLeft.{rules_left}
use Rattle.lalrpop_grammar.specs.Views.{grammar_view, origin_view}
use Rattle.lalrpop_grammar.specs.WrittenGrammar.{rules_of}
use Rattle.lalrpop_norm_lower.specs.LoweredLists.{rule_origins}
use Rattle.lalrpop_norm_lower.proofs.actions.add_rule_origins.Given as goal

abbrev pub invariant-loop-rule : goal.invariant-loop-rule
invariant-loop-rule l =
    map origin_view l.made ++ rule_origins (rules_left l.rule-iterator)
    ≡ map origin_view l.fn.made ++ rule_origins (rules_of (grammar_view l.grammar).items)
