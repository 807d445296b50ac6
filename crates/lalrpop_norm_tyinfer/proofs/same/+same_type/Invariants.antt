use Rattle.std.proofs.Common.{◌≡◌, drop, map}
use Rattle.std.specs.Prelude.{◌↔◌}
use Rattle.lalrpop_norm_tyinfer.specs.GroundViews.{ground_types, type_repr_view}
use Rattle.lalrpop_norm_tyinfer.proofs.same.+same_type.Given as goal

abbrev pub invariant-same_types-loop-ty : goal.invariant-same_types-loop-ty
invariant-same_types-loop-ty l =
    (ground_types (map type_repr_view l.a) ≡ ground_types (map type_repr_view l.b))
    ↔ (ground_types (map type_repr_view (drop l.ty-index l.a)) ≡ ground_types (map type_repr_view l.others))
