use Rattle.std.proofs.Common.{◌≡◌, map, drop}
use Rattle.std.specs.Prelude.{flat_map}
use Rattle.lalrpop_grammar.specs.Views.{attribute_view}
use Rattle.lalrpop_norm_theory.specs.LevelFaults.{faults_of_attr}
use Rattle.lalrpop_norm_precedence.specs.LevelErrors.{first_fault}
use Rattle.lalrpop_norm_precedence.proofs.level_faults.faults.fault_in_attributes.Given as goal

abbrev pub invariant-loop-attribute : goal.invariant-loop-attribute
invariant-loop-attribute l =
    first_fault (flat_map faults_of_attr (map attribute_view (drop l.attribute-index l.attributes)))
    ≡ first_fault (flat_map faults_of_attr (map attribute_view l.attributes))
