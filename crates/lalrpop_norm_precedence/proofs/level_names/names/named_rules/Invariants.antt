use Rattle.std.proofs.Common.{◌≡◌, ◌++◌, map}
use Rattle.lalrpop_grammar.specs.RulesLeft.{rules_left}
use Rattle.lalrpop_grammar.specs.Views.{grammar_view}
use Rattle.lalrpop_grammar.specs.WrittenGrammar.{rules_of}
use Rattle.lalrpop_norm_precedence.specs.GivenNames.{given_tables, taken_behind_plain, taken_behind_macros}
use Rattle.lalrpop_norm_precedence.specs.LevelTables.{rule_levels_view}
use Rattle.lalrpop_norm_precedence.specs.TakenViews.{taken_times}
use Rattle.lalrpop_norm_precedence.proofs.level_names.names.named_rules.Given as goal

-- what is named and what is to come are the whole
abbrev pub invariant-loop-rule : goal.invariant-loop-rule
invariant-loop-rule l = record {
  named : map rule_levels_view l.tables.items
      ++ given_tables (rules_left l.rule-iterator) (taken_times l.plain) (taken_times l.macros)
      ≡ given_tables (rules_of (grammar_view l.grammar).items) (taken_times l.initial.plain) (taken_times l.initial.macros);
  plain : taken_behind_plain (rules_left l.rule-iterator) (taken_times l.plain)
      ≡ taken_behind_plain (rules_of (grammar_view l.grammar).items) (taken_times l.initial.plain);
  macros : taken_behind_macros (rules_left l.rule-iterator) (taken_times l.macros)
      ≡ taken_behind_macros (rules_of (grammar_view l.grammar).items) (taken_times l.initial.macros);
}
