use Rattle.std.proofs.Common.{◌≡◌, map, drop}
use Rattle.std.specs.Prelude.{None, option_map}
use Rattle.lalrpop_grammar.specs.Views.{alternative_view}
use Rattle.lalrpop_grammar_rules.specs.Ranks.{rank_view}
use Rattle.lalrpop_norm_precedence.specs.LevelErrors.{first_fault}
use Rattle.lalrpop_norm_precedence.specs.LevelSearch.{faults_from}
use Rattle.lalrpop_norm_precedence.proofs.level_faults.faults.fault_in_alternatives.Given as goal

abbrev pub invariant-loop-alternative : goal.invariant-loop-alternative
invariant-loop-alternative l =
    first_fault (faults_from l.tightest (option_map rank_view l.last) (map alternative_view (drop l.alternative-index l.alternatives)))
    ≡ first_fault (faults_from l.tightest None (map alternative_view l.alternatives))
