use Rattle.std.proofs.Common.{◌≡◌, ◌+◌}
use Rattle.lalrpop_grammar.specs.RulesLeft.{rules_left}
use Rattle.lalrpop_grammar.specs.Views.{grammar_view}
use Rattle.lalrpop_grammar.specs.WrittenGrammar.{rules_of}
use Rattle.lalrpop_grammar_symbols.specs.Symbols.{Text}
use Rattle.lalrpop_norm_theory.specs.LevelNames.{times_taken}
use Rattle.lalrpop_norm_macros.specs.OrderedNames.{rule_texts}
use Rattle.lalrpop_norm_macros.specs.TextTimes.{times_of_texts}
use Rattle.lalrpop_norm_macros.proofs.key_names.names.texts_of_rules.Given as goal

abbrev pub invariant-loop-rule : goal.invariant-loop-rule
invariant-loop-rule l =
    (t : Text) → times_of_texts l.taken t + times_taken t (rule_texts (rules_left l.rule-iterator))
    ≡ times_taken t (rule_texts (rules_of (grammar_view l.grammar).items))
