use Rattle.std.proofs.Common.{◌≡◌, ◌++◌, map}
use Rattle.lalrpop_grammar.specs.RulesLeft.{rules_left}
use Rattle.lalrpop_grammar.specs.Views.{grammar_view}
use Rattle.lalrpop_grammar.specs.WrittenGrammar.{rules_of}
use Rattle.lalrpop_grammar_rules.specs.Views.{closed_view}
use Rattle.lalrpop_norm_keys.specs.FoundCalls.{plain_calls}
use Rattle.lalrpop_norm_keys.proofs.plain.plain_rules.Given as goal

abbrev pub invariant-loop-rule : goal.invariant-loop-rule
invariant-loop-rule l =
    map closed_view l.calls ++ plain_calls (rules_left l.rule-iterator) ≡ plain_calls (rules_of (grammar_view l.grammar).items)
