use Rattle.std.proofs.Common.{◌≡◌, ◌+◌, map}
use Rattle.lalrpop_grammar_symbols.specs.Symbols.{Text}
use Rattle.lalrpop_grammar.specs.RulesLeft.{rules_left}
use Rattle.lalrpop_grammar.specs.Views.{grammar_view}
use Rattle.lalrpop_grammar.specs.WrittenGrammar.{rules_of}
use Rattle.lalrpop_norm_theory.specs.LevelNames.{times_taken}
use Rattle.lalrpop_norm_precedence.specs.TakenViews.{taken_times}
use Rattle.lalrpop_norm_precedence.proofs.level_names.names.rule_names.Given as goal

abbrev pub invariant-loop-rule : goal.invariant-loop-rule
invariant-loop-rule l =
    (t : Text) → taken_times l.taken t + times_taken t (map (λ r. r.name) (rules_left l.rule-iterator))
    ≡ times_taken t (map (λ r. r.name) (rules_of (grammar_view l.grammar).items))
