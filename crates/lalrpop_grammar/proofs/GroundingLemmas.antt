-- Types of several written types, found one after another: for `type_repr`.
use Rattle.std.proofs.Common.{◌≡◌, ℕ, zero, suc, ◌+◌, ◌<◌, List, [], ◌∷◌, ◌++◌, map, take, length, get_or}
use Rattle.std.proofs.Common.{refl, ap, sym, ◌∙◌}
use Rattle.std.specs.Prelude.{Option, Some, None, option_map}
use Rattle.std.proofs.lemmas.List.{take_more}
use native.Mathlib.Omega.{arith}
use Rattle.lalrpop_grammar.specs.declared.types.type_ref.TypeRef.{TypeRef}
use Rattle.lalrpop_grammar.specs.declared.types.type_repr.TypeRepr.{TypeRepr}
use Rattle.lalrpop_grammar.specs.Grounding.{all_types, and_type, type_repr_of}

-- one more in front doesn't change what stands behind
behind : (x : Option TypeRepr) (o : Option (List TypeRepr)) (t : TypeRepr)
    → and_type x (option_map (λ us. us ++ t ∷ []) o) ≡ option_map (λ us. us ++ t ∷ []) (and_type x o)
behind None o t = refl
behind (Some y) None t = refl
behind (Some y) (Some us) t = refl

-- one more behind the others
all_types-snoc : (xs : List (Option TypeRepr)) (t : TypeRepr)
    → all_types (xs ++ Some t ∷ []) ≡ option_map (λ us. us ++ t ∷ []) (all_types xs)
all_types-snoc [] t = refl
all_types-snoc (x ∷ xs) t = ap (and_type x) (all_types-snoc xs t) ∙ behind x (all_types xs) t

map-snoc : (f : TypeRef → Option TypeRepr) (ts : List TypeRef) (x : TypeRef) → map f (ts ++ x ∷ []) ≡ map f ts ++ f x ∷ []
map-snoc f [] x = refl
map-snoc f (t ∷ ts) x = ap (λ l. f t ∷ l) (map-snoc f ts x)

-- the loop finds one more
pub one_more_type : (ts : List TypeRef) (i : ℕ) (x : TypeRef) (us new : List TypeRepr) (t : TypeRepr) → i < length ts
    → x ≡ get_or ts i x → Some t ≡ type_repr_of x → new ≡ us ++ t ∷ []
    → all_types (map type_repr_of (take i ts)) ≡ Some us
    → all_types (map type_repr_of (take (i + 1) ts)) ≡ Some new
one_more_type ts i x us new t h here found pushed so =
    let more : take (i + 1) ts ≡ take i ts ++ x ∷ [] = take_more ts i x h ∙ ap (λ y. take i ts ++ y ∷ []) (sym here) in
    ap (λ l. all_types (map type_repr_of l)) more
    ∙ ap all_types (map-snoc type_repr_of (take i ts) x ∙ ap (λ o. map type_repr_of (take i ts) ++ o ∷ []) (sym found))
    ∙ all_types-snoc (map type_repr_of (take i ts)) t ∙ ap (option_map (λ vs. vs ++ t ∷ [])) so ∙ ap Some (sym pushed)

-- where one has no type, there are none of all
nothing : (x : Option TypeRepr) → and_type x None ≡ None
nothing None = refl
nothing (Some y) = refl

-- where one of some types has no type of the lowered grammar, not all of them have one
pub one_without_type : (ts : List TypeRef) (i : ℕ) (x : TypeRef) → i < length ts → x ≡ get_or ts i x → None ≡ type_repr_of x
    → None ≡ all_types (map type_repr_of ts)
one_without_type [] i x h here none = absurd (omega arith)
one_without_type (t ∷ ts) zero x h here none = ap (λ o. and_type o (all_types (map type_repr_of ts))) (none ∙ ap type_repr_of here)
one_without_type (t ∷ ts) (suc i) x h here none =
    sym (nothing (type_repr_of t)) ∙ ap (and_type (type_repr_of t)) (one_without_type ts i x (omega arith) here none)
