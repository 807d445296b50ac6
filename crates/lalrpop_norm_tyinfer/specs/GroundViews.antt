-- What definitions see of the program's types: ground types.
use Rattle.std.specs.Prelude.{List, [], ◌∷◌}
use Rattle.lalrpop_grammar.specs.declared.types.type_repr.TypeRepr as types
use Rattle.lalrpop_grammar.specs.declared.types.type_repr.TypeRepr.TheOpen as layer
use Rattle.lalrpop_grammar.specs.declared.types.type_repr.TypeRepr.TheFolds as folds
use Rattle.lalrpop_norm_theory.specs.Types.{GroundType, GroundTypes}

abbrev pub ground_types : List GroundType → GroundTypes
ground_types [] = GroundTypes.none
ground_types (t ∷ ts) = GroundTypes.more t (ground_types ts)

-- one layer of a type, with what stands inside seen already
abbrev pub ground_step : layer.TypeRepr-F GroundType GroundType → GroundType
ground_step (layer.Tuple ts) = GroundType.tuple (ground_types ts)
ground_step (layer.Nominal t) = t
ground_step (layer.Ref lifetime mutable t) = GroundType.ref lifetime mutable t
ground_step (layer.Opaque text) = GroundType.opaque text

abbrev pub ground_nominal_step : layer.NominalTypeRepr-F GroundType GroundType → GroundType
ground_nominal_step n = GroundType.nominal n.path (ground_types n.types)

-- the type as definitions see it
abbrev pub type_repr_view : types.TypeRepr → GroundType
type_repr_view = folds.fold-TypeRepr GroundType GroundType ground_step ground_nominal_step
