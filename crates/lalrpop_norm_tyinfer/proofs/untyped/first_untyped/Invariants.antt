use Rattle.std.proofs.Common.{◌≡◌}
use Rattle.std.specs.List.{find}
use Rattle.lalrpop_grammar.specs.RulesLeft.{rules_left}
use Rattle.lalrpop_grammar.specs.Views.{grammar_view}
use Rattle.lalrpop_grammar.specs.WrittenGrammar.{rules_of}
use Rattle.lalrpop_norm_tyinfer.specs.ProgramViews.{rule_types}
use Rattle.lalrpop_norm_tyinfer.specs.Searching.{is_untyped_rule}
use Rattle.lalrpop_norm_tyinfer.proofs.untyped.first_untyped.Given as goal

abbrev pub invariant-loop-rule : goal.invariant-loop-rule
invariant-loop-rule l =
    find (is_untyped_rule (rule_types l.table) l.parts) (rules_of (grammar_view l.grammar).items)
    ≡ find (is_untyped_rule (rule_types l.table) l.parts) (rules_left l.rule-iterator)
