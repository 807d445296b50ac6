use Rattle.std.proofs.Common.{◌≡◌, ◌∷◌, ◌+◌, ap, sym, ◌∙◌, drop, map}
use Rattle.std.proofs.lemmas.List.{drop_more}
use Rattle.std.specs.Prelude.{flat_map, option_map}
use Rattle.lalrpop_grammar.specs.Views.{attribute_view}
use Rattle.lalrpop_norm_theory.specs.LevelFaults.{faults_of_attr}
use Rattle.lalrpop_norm_precedence.specs.LevelErrors.{error_view, first_fault}
use Rattle.lalrpop_norm_precedence.proofs.FirstFaultLemmas.{first_found_here, first_none_here}
use Rattle.lalrpop_norm_precedence.proofs.level_faults.faults.fault_in_attributes.Goals as goal

pub returns-in-Some : goal.returns-in-Some
returns-in-Some c =
    let xs = c.args.attributes.now in
    let i = c.loop-attribute.attribute-index in
    let x = c.attribute-item.result in
    let here : drop i xs ≡ x ∷ drop (i + 1) xs =
    drop_more xs i x c.loop-attribute-test.true ∙ ap (λ y. y ∷ drop (i + 1) xs) (sym c.attribute-item.is) in
    first_found_here (faults_of_attr (attribute_view x)) (flat_map faults_of_attr (map attribute_view (drop (i + 1) xs)))
    (flat_map faults_of_attr (map attribute_view (drop i xs)))
    (option_map error_view c.fault_of_attribute.result) (error_view c.in-Some.error)
    (first_fault (flat_map faults_of_attr (map attribute_view xs)))
    (ap (λ ds. flat_map faults_of_attr (map attribute_view ds)) here) c.fault_of_attribute.ensures
    (ap (option_map error_view) c.in-Some.is) c.loop-attribute.invariant

pub loop-attribute-preserved : goal.loop-attribute-preserved
loop-attribute-preserved c =
    let xs = c.args.attributes.now in
    let i = c.loop-attribute.attribute-index in
    let x = c.attribute-item.result in
    let here : drop i xs ≡ x ∷ drop (i + 1) xs =
    drop_more xs i x c.loop-attribute-test.true ∙ ap (λ y. y ∷ drop (i + 1) xs) (sym c.attribute-item.is) in
    first_none_here (faults_of_attr (attribute_view x)) (flat_map faults_of_attr (map attribute_view (drop (i + 1) xs)))
    (flat_map faults_of_attr (map attribute_view (drop i xs)))
    (option_map error_view c.fault_of_attribute.result) (first_fault (flat_map faults_of_attr (map attribute_view xs)))
    (ap (λ ds. flat_map faults_of_attr (map attribute_view ds)) here) c.fault_of_attribute.ensures
    (ap (option_map error_view) c.in_default.is) c.loop-attribute.invariant
