-- Types that definitions see alike are equal; for the law that normalized grammars are one.
use Rattle.std.proofs.Common.{◌≡◌, ◌∙◌, List, [], ◌∷◌, refl, ap, ap₂, sym, subst, map}
use Rattle.lalrpop_grammar_symbols.specs.Symbols.{Text}
use Rattle.lalrpop_grammar.specs.declared.types.type_repr.NominalTypeRepr.{NominalTypeRepr}
use Rattle.lalrpop_grammar.specs.declared.types.type_repr.TypeRepr.{TypeRepr}
use Rattle.lalrpop_grammar.specs.declared.types.type_repr.TypeRepr.TheFolds.{fold-NominalTypeRepr, fold-roll-NominalTypeRepr}
use Rattle.lalrpop_grammar.specs.declared.types.type_repr.TypeRepr.TheFolds.{fold-roll-TypeRepr, ind-TypeRepr, map-NominalTypeRepr}
use Rattle.lalrpop_grammar.specs.declared.types.type_repr.TypeRepr.TheFolds.{map-TypeRepr}
use Rattle.lalrpop_grammar.specs.declared.types.type_repr.TypeRepr.TheOpen as layer
use Rattle.lalrpop_grammar.specs.declared.types.type_repr.TypeRepr.TheVariants as types
use Rattle.lalrpop_grammar.specs.declared.types.type_repr.TypeRepr.TheViews.{roll-NominalTypeRepr, roll-TypeRepr}
use Rattle.lalrpop_norm_theory.specs.Types.{GroundType, GroundTypes}
use Rattle.lalrpop_norm_tyinfer.specs.GroundViews.{ground_nominal_step, ground_step, ground_types, type_repr_view}
use Rattle.lalrpop_norm_tyinfer.proofs.GroundLemmas.{view-ref}

-- the type that is seen so

abbrev nominal : Text → List TypeRepr → TypeRepr
nominal path ts = types.Nominal (roll-NominalTypeRepr (record { path = path; types = ts }))

abbrev mutual
  type_of : GroundType → TypeRepr
  type_of (GroundType.tuple ts) = types.Tuple (types_of ts)
  type_of (GroundType.nominal path ts) = nominal path (types_of ts)
  type_of (GroundType.ref l m t) = types.Ref l m (type_of t)
  type_of (GroundType.opaque text) = types.Opaque text

  types_of : GroundTypes → List TypeRepr
  types_of GroundTypes.none = []
  types_of (GroundTypes.more t ts) = type_of t ∷ types_of ts

-- how types are seen, form by form

view-tuple : (ts : List TypeRepr) → type_repr_view (types.Tuple ts) ≡ GroundType.tuple (ground_types (map type_repr_view ts))
view-tuple ts =
    ap type_repr_view (sym (types.rolls-Tuple ts))
    ∙ fold-roll-TypeRepr GroundType GroundType ground_step ground_nominal_step (layer.Tuple ts)

view-opaque : (text : Text) → type_repr_view (types.Opaque text) ≡ GroundType.opaque text
view-opaque text =
    ap type_repr_view (sym (types.rolls-Opaque text))
    ∙ fold-roll-TypeRepr GroundType GroundType ground_step ground_nominal_step (layer.Opaque text)

abbrev nominal_view : NominalTypeRepr → GroundType
nominal_view = fold-NominalTypeRepr GroundType GroundType ground_step ground_nominal_step

view-of_nominal : (n : NominalTypeRepr) → type_repr_view (types.Nominal n) ≡ nominal_view n
view-of_nominal n =
    ap type_repr_view (sym (types.rolls-Nominal n))
    ∙ fold-roll-TypeRepr GroundType GroundType ground_step ground_nominal_step (layer.Nominal n)

-- each type is the one that is seen so

abbrev IsSeen : TypeRepr → Type 0
IsSeen t = type_of (type_repr_view t) ≡ t

abbrev IsSeenNominal : NominalTypeRepr → Type 0
IsSeenNominal n = type_of (nominal_view n) ≡ types.Nominal n

abbrev SeenType : Type 0
SeenType = (t : TypeRepr) × IsSeen t

abbrev SeenNominal : Type 0
SeenNominal = (n : NominalTypeRepr) × IsSeenNominal n

all_seen : (es : List SeenType)
    → types_of (ground_types (map type_repr_view (map (λ (e : SeenType). e.0) es))) ≡ map (λ (e : SeenType). e.0) es
all_seen [] = refl
all_seen (e ∷ es) = ap₂ (λ (t : TypeRepr) (ts : List TypeRepr). t ∷ ts) e.1 (all_seen es)

layer_seen : (y : layer.TypeRepr-F SeenType SeenNominal)
    → IsSeen (roll-TypeRepr (map-TypeRepr SeenType SeenNominal TypeRepr NominalTypeRepr (λ e. e.0) (λ e. e.0) y))
layer_seen (layer.Tuple es) =
    subst IsSeen (sym (types.rolls-Tuple (map (λ (e : SeenType). e.0) es)))
    (ap type_of (view-tuple (map (λ (e : SeenType). e.0) es)) ∙ ap types.Tuple (all_seen es))
layer_seen (layer.Nominal n) =
    subst IsSeen (sym (types.rolls-Nominal n.0)) (ap type_of (view-of_nominal n.0) ∙ n.1)
layer_seen (layer.Ref l m t) =
    subst IsSeen (sym (types.rolls-Ref l m t.0)) (ap type_of (view-ref l m t.0) ∙ ap (types.Ref l m) t.1)
layer_seen (layer.Opaque text) = subst IsSeen (sym (types.rolls-Opaque text)) (ap type_of (view-opaque text))

nominal_seen : (y : layer.NominalTypeRepr-F SeenType SeenNominal)
    → IsSeenNominal (roll-NominalTypeRepr
    (map-NominalTypeRepr SeenType SeenNominal TypeRepr NominalTypeRepr (λ e. e.0) (λ e. e.0) y))
nominal_seen y =
    ap type_of (fold-roll-NominalTypeRepr GroundType GroundType ground_step ground_nominal_step
    (record { path = y.path; types = map (λ (e : SeenType). e.0) y.types }))
    ∙ ap (nominal y.path) (all_seen y.types)

seen : (t : TypeRepr) → IsSeen t
seen = ind-TypeRepr IsSeen IsSeenNominal (λ x y is. subst (λ z. IsSeen (roll-TypeRepr z)) is (layer_seen y))
    (λ x y is. subst (λ z. IsSeenNominal (roll-NominalTypeRepr z)) is (nominal_seen y))

-- types that are seen alike are equal
pub one_type : (t u : TypeRepr) → type_repr_view t ≡ type_repr_view u → t ≡ u
one_type t u e = sym (seen t) ∙ ap type_of e ∙ seen u
