use Rattle.std.proofs.Common.{◌≡◌}
use Rattle.lalrpop_grammar_symbols.specs.Symbols.{Text}
use Rattle.lalrpop_grammar.specs.RulesLeft.{rules_left}
use Rattle.lalrpop_grammar.specs.Views.{grammar_view}
use Rattle.lalrpop_grammar.specs.WrittenGrammar.{rules_of}
use Rattle.lalrpop_norm_macros.specs.WrittenRules.{first_written, or_rule, written_at}
use Rattle.lalrpop_norm_macros.proofs.key_symbols.by_name.written_rules.Given as goal

abbrev pub invariant-loop-rule : goal.invariant-loop-rule
invariant-loop-rule l =
    (n : Text) → or_rule (written_at l.made n) (first_written n (rules_left l.rule-iterator))
    ≡ first_written n (rules_of (grammar_view l.grammar).items)
