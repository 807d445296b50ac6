use Rattle.std.proofs.Common.{◌≡◌, ◌++◌, map}
use Rattle.lalrpop_grammar.specs.RulesLeft.{rules_left}
use Rattle.lalrpop_grammar.specs.Views.{grammar_view}
use Rattle.lalrpop_norm_tyinfer.specs.Equations.{equations_of_rules, type_equations}
use Rattle.lalrpop_norm_tyinfer.specs.ProgramViews.{equation_view}
use Rattle.lalrpop_norm_tyinfer.proofs.equations.equations.Given as goal

abbrev pub invariant-loop-rule : goal.invariant-loop-rule
invariant-loop-rule l =
    map equation_view l.made.items ++ equations_of_rules (rules_left l.rule-iterator) ≡ type_equations (grammar_view l.grammar)
