-- A list that is filled by the values of a function, one by one; for rewritten items.
use Rattle.std.proofs.Common.{◌≡◌, ◌∙◌, ap, ap₂, sym, List, [], ◌∷◌, ◌++◌, map}
use Rattle.std.proofs.lemmas.List.{map-append}

-- one value more
pub filled_more : {X V : Type 0} (view : X → V) (f : V → V) (front here old new : List X) (x y : X)
    → here ≡ front ++ x ∷ [] → new ≡ old ++ y ∷ [] → view y ≡ f (view x) → map view old ≡ map f (map view front)
    → map view new ≡ map f (map view here)
filled_more view f front here old new x y split more is before =
    ap (map view) more ∙ map-append view old (y ∷ []) ∙ ap₂ (λ l v. l ++ v ∷ []) before is
    ∙ sym (ap (λ l. map f (map view l)) split ∙ ap (map f) (map-append view front (x ∷ []))
    ∙ map-append f (map view front) (view x ∷ []))
