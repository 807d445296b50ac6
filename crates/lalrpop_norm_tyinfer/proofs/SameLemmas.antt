-- Two lists of types that were compared to the end of the one; for the comparison of types.
use Rattle.std.proofs.Common.{◌≡◌, ◌≤◌, ℕ, zero, suc, ap, sym, ◌∙◌, refl, List, [], ◌∷◌, Bool}
use Rattle.std.proofs.Common.{length, map, drop, arith}
use Rattle.std.specs.Prelude.{IsTrue, ◌↔◌, ◌==◌}
use Rattle.std.proofs.lemmas.Bool.{eqb-true}
use Rattle.lalrpop_grammar.specs.declared.types.type_repr.TypeRepr.{TypeRepr}
use Rattle.lalrpop_norm_theory.specs.Types.{GroundTypes}
use Rattle.lalrpop_norm_tyinfer.specs.GroundViews.{ground_types, type_repr_view}

nothing_left : {A : Type 0} (i : ℕ) (xs : List A) → length xs ≤ i → drop i xs ≡ []
nothing_left zero [] h = refl
nothing_left zero (x ∷ xs) h = absurd (omega (arith, h))
nothing_left (suc i) [] h = refl
nothing_left (suc i) (x ∷ xs) h = nothing_left i xs (omega (arith, h))

-- they are the same where the other has ended, too
pub ended_alike : (i : ℕ) (a others : List TypeRepr) (r : Bool) (W : Type 0) → length a ≤ i → r ≡ (length others == 0)
    → W ↔ (ground_types (map type_repr_view (drop i a)) ≡ ground_types (map type_repr_view others)) → IsTrue r ↔ W
ended_alike i a [] r W h is same =
    let left : ground_types (map type_repr_view (drop i a)) ≡ GroundTypes.none =
    ap (λ l. ground_types (map type_repr_view l)) (nothing_left i a h) in
    (λ e. same.1 left, λ e. is)
ended_alike i a (x ∷ xs) r W h is same =
    let left : ground_types (map type_repr_view (drop i a)) ≡ GroundTypes.none =
    ap (λ l. ground_types (map type_repr_view l)) (nothing_left i a h) in (
      λ e. absurd (let wrong : length (x ∷ xs) ≡ 0 = eqb-true (length (x ∷ xs)) 0 (sym is ∙ e) in omega (arith, wrong)),
      λ e. (let wrong : GroundTypes.none ≡ ground_types (map type_repr_view (x ∷ xs)) = sym left ∙ same.0 e in
          absurd (let no_way : ⊥ = cc in no_way)),
    )
