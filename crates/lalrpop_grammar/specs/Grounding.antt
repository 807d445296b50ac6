-- The type that a written type stands for, where every name in it is a type's.
use Rattle.std.specs.Prelude.{List, [], ◌∷◌, Option, Some, None, option_map}
use Rattle.lalrpop_grammar.specs.declared.types.type_ref.TypeRef.{TypeRef, fold-TypeRef}
use Rattle.lalrpop_grammar.specs.declared.types.type_ref.TypeRef.TheOpen as layer
use Rattle.lalrpop_grammar.specs.declared.types.type_repr.TypeRepr.{TypeRepr}
use Rattle.lalrpop_grammar.specs.declared.types.type_repr.TypeRepr.TheVariants as types
use Rattle.lalrpop_grammar.specs.declared.types.type_repr.TypeRepr.TheViews.{roll-NominalTypeRepr}
use Rattle.lalrpop_grammar_symbols.specs.Symbols.{Text}
use Rattle.lalrpop_grammar.specs.TypeReprs.{named_type}

-- one more type, where it and the others are there
abbrev pub and_type : Option TypeRepr → Option (List TypeRepr) → Option (List TypeRepr)
and_type None ts = None
and_type (Some t) None = None
and_type (Some t) (Some ts) = Some (t ∷ ts)

-- all of them, where each is there
abbrev pub all_types : List (Option TypeRepr) → Option (List TypeRepr)
all_types [] = Some []
all_types (t ∷ ts) = and_type t (all_types ts)

-- the type of that name with these arguments
abbrev pub nominal_of : Text → List TypeRepr → TypeRepr
nominal_of path ts = types.Nominal (roll-NominalTypeRepr (record { path = path; types = ts }))

-- the same shape; a name is the nominal of that name without arguments; none for the type of a symbol
abbrev pub type_repr_step : layer.TypeRef-F (Option TypeRepr) → Option TypeRepr
type_repr_step (layer.Tuple ts) = option_map types.Tuple (all_types ts)
type_repr_step (layer.Nominal path ts) = option_map (nominal_of path) (all_types ts)
type_repr_step (layer.Id n) = Some (named_type n)
type_repr_step (layer.OfSymbol s) = None
type_repr_step (layer.Ref lifetime mutable t) = option_map (λ u. types.Ref lifetime mutable u) t
type_repr_step (layer.Opaque text) = Some (types.Opaque text)

-- The type of the same shape; none where the type is or holds the type of a symbol.
abbrev pub type_repr_of : TypeRef → Option TypeRepr
type_repr_of = fold-TypeRef (Option TypeRepr) type_repr_step
