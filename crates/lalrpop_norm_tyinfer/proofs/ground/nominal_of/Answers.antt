use Rattle.std.proofs.Common.{◌∙◌, ap, map, sym, Some}
use Rattle.std.specs.Prelude.{option_map}
use Rattle.lalrpop_norm_theory.specs.Types.{GroundType}
use Rattle.lalrpop_norm_tyinfer.specs.GroundViews.{ground_types, type_repr_view}
use Rattle.lalrpop_norm_tyinfer.proofs.GroundLemmas.{view-nominal}
use Rattle.lalrpop_norm_tyinfer.proofs.ground.nominal_of.Goals as goal

pub returns-in_ok-path-in-Some : goal.returns-in_ok-path-in-Some
returns-in_ok-path-in-Some c =
    ap Some (view-nominal c.in_ok-path-in-Some.path c.in-Some.types
    ∙ ap (λ p. GroundType.nominal p (ground_types (map type_repr_view c.in-Some.types))) c.in_ok-path-in-Some.ensures)
    ∙ ap (λ o. option_map (λ ts. GroundType.nominal c.args.path.now (ground_types ts)) (option_map (map type_repr_view) o)) (sym c.in-Some.is)
