use Rattle.std.proofs.Common.{◌≡◌}
use Rattle.lalrpop_grammar.specs.RulesLeft.{rules_left}
use Rattle.lalrpop_grammar.specs.Views.{grammar_view}
use Rattle.lalrpop_grammar.specs.WrittenGrammar.{rules_of}
use Rattle.lalrpop_norm_precedence.specs.GivenNames.{taken_behind_plain}
use Rattle.lalrpop_norm_precedence.specs.TakenViews.{taken_times}
use Rattle.lalrpop_norm_precedence.proofs.level_names.names.take_plain_levels.Given as goal

abbrev pub invariant-loop-rule : goal.invariant-loop-rule
invariant-loop-rule l =
    taken_behind_plain (rules_left l.rule-iterator) (taken_times l.taken)
    ≡ taken_behind_plain (rules_of (grammar_view l.grammar).items) (taken_times l.initial.taken)
