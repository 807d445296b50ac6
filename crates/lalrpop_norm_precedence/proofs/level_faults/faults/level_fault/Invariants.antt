use Rattle.std.proofs.Common.{◌≡◌}
use Rattle.std.specs.Prelude.{flat_map}
use Rattle.lalrpop_grammar.specs.RulesLeft.{rules_left}
use Rattle.lalrpop_grammar.specs.Views.{grammar_view}
use Rattle.lalrpop_grammar.specs.WrittenGrammar.{rules_of}
use Rattle.lalrpop_norm_theory.specs.LevelFaults.{level_faults_in_rule}
use Rattle.lalrpop_norm_precedence.specs.LevelErrors.{first_fault}
use Rattle.lalrpop_norm_precedence.proofs.level_faults.faults.level_fault.Given as goal

abbrev pub invariant-loop-rule : goal.invariant-loop-rule
invariant-loop-rule l =
    first_fault (flat_map level_faults_in_rule (rules_left l.rule-iterator))
    ≡ first_fault (flat_map level_faults_in_rule (rules_of (grammar_view l.grammar).items))
