-- Lists of closed symbols that are compared one by one; for the test of equality.
use Rattle.std.proofs.Common.{◌≡◌, ◌↔◌, List, [], ◌∷◌, refl, ap, ap₂, sym, ◌∙◌, map, length, Bool, IsTrue, arith}
use Rattle.std.proofs.lemmas.Bool.{eqb-true}
use Rattle.std.specs.Prelude.{◌==◌}
use Rattle.lalrpop_grammar_symbols.specs.Symbols.{Closed, Closeds}
use Rattle.lalrpop_grammar_rules.specs.Views.{closeds}

rest_alike : (x y : Closed) (xs ys : Closeds) → Closeds.more x xs ≡ Closeds.more y ys → xs ≡ ys
rest_alike x y xs ys e = cc

first_alike : (x y : Closed) (xs ys : Closeds) → Closeds.more x xs ≡ Closeds.more y ys → x ≡ y
first_alike x y xs ys e = cc

-- behind two symbols that are the same, what decides is what is left
pub alike_step : {P : Type 0} (us vs rest more : List Closed) (x y : Closed) → us ≡ x ∷ rest → vs ≡ y ∷ more → x ≡ y
    → P ↔ (closeds us ≡ closeds vs) → P ↔ (closeds rest ≡ closeds more)
alike_step us vs rest more x y e f same w = (
  λ p. rest_alike x y (closeds rest) (closeds more) (ap closeds (sym e) ∙ w.0 p ∙ ap closeds f),
  λ q. w.1 (ap closeds e ∙ ap₂ Closeds.more same q ∙ ap closeds (sym f)),
)

-- two that differ decide
pub unlike_step : {P : Type 0} (us vs rest more : List Closed) (x y : Closed) → us ≡ x ∷ rest → vs ≡ y ∷ more
    → (x ≡ y → ⊥)
    → P ↔ (closeds us ≡ closeds vs) → P → ⊥
unlike_step us vs rest more x y e f other w p =
    other (first_alike x y (closeds rest) (closeds more) (ap closeds (sym e) ∙ w.0 p ∙ ap closeds f))

-- and so does a list that ends before the other
pub longer_step : {P : Type 0} (us vs rest : List Closed) (x : Closed) → us ≡ x ∷ rest → vs ≡ []
    → P ↔ (closeds us ≡ closeds vs) → P → ⊥
longer_step us vs rest x e f w p =
    let wrong : Closeds.more x (closeds rest) ≡ Closeds.none = ap closeds (sym e) ∙ w.0 p ∙ ap closeds f in cc

-- at the end both lists have ended
pub ends_alike : {P : Type 0} (us vs : List Closed) → us ≡ [] → P ↔ (closeds us ≡ closeds vs) → P ↔ (vs ≡ [])
ends_alike us [] e w = (λ p. refl, λ q. w.1 (ap closeds e))
ends_alike us (b ∷ vs) e w = (
  λ p. let wrong : Closeds.none ≡ Closeds.more b (closeds vs) = ap closeds (sym e) ∙ w.0 p in cc,
  λ q. cc,
)

empty_map : {A : Type 0} (f : A → Closed) (xs : List A) → (map f xs ≡ []) ↔ (xs ≡ [])
empty_map f [] = (λ e. refl, λ e. refl)
empty_map f (x ∷ xs) = (λ e. cc, λ e. cc)

-- which the test of what is left of the other says
pub ended_test : {A P : Type 0} (f : A → Closed) (us : List Closed) (vs : List A) (b : Bool) → us ≡ []
    → P ↔ (closeds us ≡ closeds (map f vs)) → b ≡ (length vs == 0) → IsTrue b ↔ P
ended_test f us [] b e w h = (λ t. (ends_alike us [] e w).1 refl, λ p. h)
ended_test f us (v ∷ vs) b e w h = (
  λ t. let none = eqb-true (length (v ∷ vs)) 0 (sym h ∙ t) in let wrong : ⊥ = omega (arith, none) in absurd wrong,
  λ p. let wrong : f v ∷ map f vs ≡ [] = (ends_alike us (f v ∷ map f vs) e w).0 p in cc,
)
