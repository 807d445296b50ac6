use Rattle.std.proofs.Common.{◌≡◌, ◌||◌}
use Rattle.lalrpop_grammar.specs.RulesLeft.{rules_left}
use Rattle.lalrpop_grammar.specs.Views.{grammar_view}
use Rattle.lalrpop_grammar.specs.WrittenGrammar.{rules_of}
use Rattle.lalrpop_grammar_symbols.specs.Symbols.{Text}
use Rattle.lalrpop_grammar_language.specs.Enabled.{has_text}
use Rattle.lalrpop_grammar_rules.specs.RuleTable.{knows}
use Rattle.lalrpop_norm_resolve.specs.Searches.{macro_names, plain_names}
use Rattle.lalrpop_norm_resolve.proofs.names.definitions.Definitions.new.Given as goal

abbrev pub invariant-loop-rule : goal.invariant-loop-rule
invariant-loop-rule l = record {
  plain : (n : Text) → has_text n (plain_names (rules_of (grammar_view l.grammar).items))
      ≡ (knows l.plain n || has_text n (plain_names (rules_left l.rule-iterator)));
  macros : (n : Text) → has_text n (macro_names (rules_of (grammar_view l.grammar).items))
      ≡ (knows l.macros n || has_text n (macro_names (rules_left l.rule-iterator)));
}
