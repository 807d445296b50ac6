-- Which types have a spelling, by their forms: for the functions that tell it.
use Rattle.std.proofs.Common.{◌≡◌, ◌↔◌, Bool, Option, ℕ, ◌+◌, List, [], ◌∷◌, IsTrue, ap, sym, ◌∙◌}
use Rattle.lalrpop_grammar_symbols.specs.declared.symbol.Symbol.{Symbol}
use Rattle.lalrpop_grammar.specs.declared.types.type_ref.TypeRef.{TypeRef, out-TypeRef, roll-TypeRef, out-roll-TypeRef}
use Rattle.lalrpop_grammar.specs.declared.types.type_ref.TypeRef.TheOpen as layer
use Rattle.lalrpop_grammar.specs.declared.types.type_ref.TypeRef.TheVariants as types
use Rattle.lalrpop_json_values.specs.Scalars.{is_name}
use Rattle.lalrpop_json_values.specs.Spelled.{EachFrom}
use Rattle.lalrpop_json_symbols.specs.Readable.{IsReadableSymbol, AreReadableTypes, IsReadableType}

abbrev Parts : layer.TypeRef-F TypeRef → Type 0
Parts (layer.Tuple ts) = AreReadableTypes ts
Parts (layer.Nominal path ts) = AreReadableTypes ts
Parts (layer.Id n) = IsTrue (is_name n)
Parts (layer.OfSymbol s) = IsReadableSymbol s
Parts (layer.Ref lifetime mutable t) = IsReadableType t
Parts (layer.Opaque text) = Unit {0}

layered : (l : layer.TypeRef-F TypeRef) (t u : TypeRef) → t ≡ u → roll-TypeRef l ≡ u → Parts l → Parts (out-TypeRef t)
layered l t u e rolls is = rw (e, ← rolls, out-roll-TypeRef l) is

type_parts : (t : TypeRef) → IsReadableType t → Parts (out-TypeRef t)
type_parts t (IsReadableType.tuple ts e are) = layered (layer.Tuple ts) t _ e (types.rolls-Tuple ts) are
type_parts t (IsReadableType.nominal path ts e are) = layered (layer.Nominal path ts) t _ e (types.rolls-Nominal path ts) are
type_parts t (IsReadableType.id n e is) = layered (layer.Id n) t _ e (types.rolls-Id n) is
type_parts t (IsReadableType.of_symbol s e is) = layered (layer.OfSymbol s) t _ e (types.rolls-OfSymbol s) is
type_parts t (IsReadableType.ref lifetime mutable u e is) =
    layered (layer.Ref lifetime mutable u) t _ e (types.rolls-Ref lifetime mutable u) is
type_parts t (IsReadableType.opaque text e) = layered (layer.Opaque text) t _ e (types.rolls-Opaque text) tt

opened : (l : layer.TypeRef-F TypeRef) (t u : TypeRef) → t ≡ u → roll-TypeRef l ≡ u → IsReadableType t → Parts l
opened l t u e rolls is =
    let at_layer : out-TypeRef t ≡ l = ap out-TypeRef (e ∙ sym rolls) ∙ out-roll-TypeRef l in
    rw at_layer at (type_parts t is)

-- by the forms that a function tells apart
pub of_tuple : (r : Bool) (t : TypeRef) (ts : List TypeRef) → t ≡ types.Tuple ts → (IsTrue r ↔ AreReadableTypes ts) → IsTrue r
    ↔ IsReadableType t
of_tuple r t ts e told =
    ((λ is. IsReadableType.tuple ts e (told.0 is)), (λ is. told.1 (opened (layer.Tuple ts) t _ e (types.rolls-Tuple ts) is)))

-- a type with a path has a spelling where each of its arguments has one
pub of_nominal : (r : Bool) (t : TypeRef) (path : List ℕ) (ts : List TypeRef) → t ≡ types.Nominal path ts
    → (IsTrue r ↔ AreReadableTypes ts) → IsTrue r ↔ IsReadableType t
of_nominal r t path ts e told = (
  (λ is. IsReadableType.nominal path ts e (told.0 is)),
  (λ is. told.1 (opened (layer.Nominal path ts) t _ e (types.rolls-Nominal path ts) is)),
)

-- a type that may be a parameter has a spelling where its text is a name
pub of_parameter : (r : Bool) (t : TypeRef) (n : List ℕ) → t ≡ types.Id n → r ≡ is_name n → IsTrue r ↔ IsReadableType t
of_parameter r t n e told =
    ((λ is. IsReadableType.id n e (sym told ∙ is)), (λ is. told ∙ opened (layer.Id n) t _ e (types.rolls-Id n) is))

-- the type of a symbol has a spelling where the symbol has one
pub of_a_symbol : (r : Bool) (t : TypeRef) (s : Symbol) → t ≡ types.OfSymbol s → (IsTrue r ↔ IsReadableSymbol s) → IsTrue r
    ↔ IsReadableType t
of_a_symbol r t s e told =
    ((λ is. IsReadableType.of_symbol s e (told.0 is)), (λ is. told.1 (opened (layer.OfSymbol s) t _ e (types.rolls-OfSymbol s) is)))

-- a reference has a spelling where the type that it refers to has one
pub of_reference : (r : Bool) (t : TypeRef) (lifetime : Option (List ℕ)) (mutable : Bool) (u : TypeRef)
    → t ≡ types.Ref lifetime mutable u
    → (IsTrue r ↔ IsReadableType u) → IsTrue r ↔ IsReadableType t
of_reference r t lifetime mutable u e told = (
  (λ is. IsReadableType.ref lifetime mutable u e (told.0 is)),
  (λ is. told.1 (opened (layer.Ref lifetime mutable u) t _ e (types.rolls-Ref lifetime mutable u) is)),
)

pub of_opaque : (t : TypeRef) (text : List ℕ) → t ≡ types.Opaque text → IsReadableType t
of_opaque t text e = IsReadableType.opaque text e

pub ruleset types_told = (of_opaque)

-- ---- lists of types

pub each_readable : (i : ℕ) (ts : List TypeRef) → AreReadableTypes ts → EachFrom (λ _. IsReadableType) i ts
each_readable i [] AreReadableTypes.none = tt
each_readable i (t ∷ ts) (AreReadableTypes.more is are) = (is, each_readable (i + 1) ts are)

pub all_readable : (i : ℕ) (ts : List TypeRef) → EachFrom (λ _. IsReadableType) i ts → AreReadableTypes ts
all_readable i [] each = AreReadableTypes.none
all_readable i (t ∷ ts) each = AreReadableTypes.more each.0 (all_readable (i + 1) ts each.1)

pub ruleset type_lists = (each_readable, all_readable)
