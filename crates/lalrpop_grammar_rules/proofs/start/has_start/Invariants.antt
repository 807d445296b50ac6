use Rattle.std.proofs.Common.{◌≡◌}
use Rattle.std.specs.List.{list_any}
use Rattle.lalrpop_grammar.specs.RulesLeft.{rules_left}
use Rattle.lalrpop_grammar.specs.Views.{grammar_view}
use Rattle.lalrpop_grammar.specs.WrittenGrammar.{rules_of}
use Rattle.lalrpop_grammar_rules.specs.StartViews.{active_start}
use Rattle.lalrpop_grammar_rules.proofs.start.has_start.Given as goal

abbrev pub invariant-loop-rule : goal.invariant-loop-rule
invariant-loop-rule l =
    list_any (active_start l.features l.name l.public) (rules_left l.rule-iterator)
    ≡ list_any (active_start l.features l.name l.public) (rules_of (grammar_view l.grammar).items)
