-- Places read one by one: what the symbols up to the end begin with. For the first set of a rest.
use Rattle.std.proofs.Common.{◌≡◌, ◌∙◌, ℕ, zero, suc, ◌+◌, ◌<◌, ◌≤◌, List, [], ◌∷◌, length, drop}
use Rattle.std.proofs.Common.{get_or, refl, ap, arith, slice_get, Some}
use Rattle.lalrpop_lr1_core.proofs.ListLemmas.{left_is}
use Rattle.lalrpop_lr1_first.specs.FirstNumbers.{AreSymbolsBelow}
use Rattle.lalrpop_lr1_first.specs.Tables.{symbols_until}
use Rattle.lalrpop_lr1_first.specs.declared.place.Place.{Place}
use Rattle.lalrpop_lr1_first.specs.declared.place.Place.TheVariants as places
use Rattle.lalrpop_lr1_first.proofs.ListLemmas.{get_slice}

module _ (all : List Place) (i : ℕ) (here : i < length all) where
  -- a symbol stands there
  pub until_symbol : (s : ℕ) → places.Symbol s ≡ get_or all i (places.Symbol s) →
      symbols_until (drop i all) ≡ s ∷ symbols_until (drop (i + 1) all)
  until_symbol s e = ap symbols_until (left_is all i (places.Symbol s) here e)

  -- a right side ends there
  pub until_end : (r : ℕ) → places.End r ≡ get_or all i (places.End r) → symbols_until (drop i all) ≡ []
  until_end r e = ap symbols_until (left_is all i (places.End r) here e)

  pub below_at : (n s : ℕ) → AreSymbolsBelow n all → places.Symbol s ≡ get_or all i (places.Symbol s) → s < n
  below_at n s h e = h i s (get_slice all i (places.Symbol s) here e)

get_dropped : {X : Type 0} (xs : List X) (n i : ℕ) (x : X) → slice_get (drop n xs) i ≡ Some x → slice_get xs (n + i) ≡ Some x
get_dropped xs zero i x e = ap (slice_get xs) (let z : zero + i ≡ i = omega arith in z) ∙ e
get_dropped [] (suc n) i x e = let w : ⊥ = cc in absurd w
get_dropped (y ∷ xs) (suc n) i x e =
    ap (slice_get (y ∷ xs)) (let z : suc n + i ≡ suc (n + i) = omega arith in z) ∙ get_dropped xs n i x e

-- numbers are in range from a place on
pub below_from : (n : ℕ) (all : List Place) (start : ℕ) → AreSymbolsBelow n all → AreSymbolsBelow n (drop start all)
below_from n all start h i s e = h (start + i) s (get_dropped all start i (places.Symbol s) e)

-- dropping at least as many as a list has leaves nothing
pub drop_past : {X : Type 0} (xs : List X) (i : ℕ) → length xs ≤ i → drop i xs ≡ []
drop_past [] zero h = refl
drop_past [] (suc i) h = refl
drop_past (y ∷ xs) zero h = absurd (omega arith)
drop_past (y ∷ xs) (suc i) h = drop_past xs i (omega arith)
