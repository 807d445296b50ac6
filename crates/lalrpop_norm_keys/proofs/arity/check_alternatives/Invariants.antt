use Rattle.std.proofs.Common.{◌≡◌, map, drop}
use Rattle.std.specs.Prelude.{flat_map}
use Rattle.lalrpop_grammar.specs.Views.{alternative_view}
use Rattle.lalrpop_grammar_rules.specs.RuleTable.{rules_view}
use Rattle.lalrpop_norm_keys.specs.Arity.{arity_faults_at}
use Rattle.lalrpop_norm_keys.proofs.arity.check_alternatives.Given as goal

abbrev pub invariant-loop-alternative : goal.invariant-loop-alternative
invariant-loop-alternative l =
    flat_map (arity_faults_at (rules_view l.rules)) (map alternative_view l.alternatives)
    ≡ flat_map (arity_faults_at (rules_view l.rules)) (map alternative_view (drop l.alternative-index l.alternatives))
