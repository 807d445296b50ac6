use Rattle.std.proofs.Common.{◌≡◌, drop, map}
use Rattle.lalrpop_grammar.specs.Views.{type_view, tys}
use Rattle.lalrpop_norm_tyinfer.specs.TypesByTable.{written_ground_types}
use Rattle.lalrpop_norm_tyinfer.specs.ProgramViews.{names_view, rule_types}
use Rattle.lalrpop_norm_tyinfer.proofs.FrontLemmas.{behind_types}
use Rattle.lalrpop_norm_tyinfer.proofs.ground.+written_types.Given as goal

abbrev pub invariant-written_types-loop-written : goal.invariant-written_types-loop-written
invariant-written_types-loop-written l =
    behind_types l.found
    (written_ground_types (names_view l.names) (rule_types l.table) (tys (map type_view (drop l.written-index l.types))))
    ≡ written_ground_types (names_view l.names) (rule_types l.table) (tys (map type_view l.types))
