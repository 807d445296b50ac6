-- Whether something holds of each of a list, for the loops that test one after another.
use Rattle.std.proofs.Common.{◌≡◌, ◌↔◌, IsTrue, Bool, false, ℕ, ◌+◌, ◌<◌, ◌≤◌, List, [], ◌∷◌, length}
use Rattle.std.proofs.Common.{get_or, drop, refl, add-one, drop-cons}
use Rattle.std.proofs.Math.ListN.{drop_of_length-le}
use Rattle.lalrpop_json_values.specs.Spelled.{EachFrom}

module _ {A : Type 0} (P : ℕ → A → Type 0) (xs : List A) where
  -- where a loop stands: the rest decides
  abbrev pub RestDecides : ℕ → Type 0
  RestDecides i = EachFrom P i (drop i xs) ↔ EachFrom P 0 xs

  pub rest_starts : RestDecides 0
  rest_starts = ((λ is. is), (λ is. is))

  opened : (i : ℕ) (d : A) → i < length xs → drop i xs ≡ get_or xs i d ∷ drop (i + 1) xs
  opened i d h = simp (add-one, drop-cons xs i d h) refl

  pub rest_goes_on : (i : ℕ) (d : A) → i < length xs → P i (get_or xs i d) → RestDecides i → RestDecides (i + 1)
  rest_goes_on i d h is so =
      let all : EachFrom P i (get_or xs i d ∷ drop (i + 1) xs) ↔ EachFrom P 0 xs = rw (opened i d h) at so in
      ((λ rest. all.0 (is, rest)), (λ whole. (all.1 whole).1))

  pub rest_stops : (i : ℕ) (d : A) → i < length xs → (P i (get_or xs i d) → ⊥) → RestDecides i → EachFrom P 0 xs → ⊥
  rest_stops i d h not so whole =
      let all : EachFrom P i (get_or xs i d ∷ drop (i + 1) xs) ↔ EachFrom P 0 xs = rw (opened i d h) at so in
      not (all.1 whole).0

  pub rest_ends : (i : ℕ) → length xs ≤ i → RestDecides i → EachFrom P 0 xs
  rest_ends i h so =
      let none : drop i xs ≡ [] = drop_of_length-le xs h in
      let all : EachFrom P i [] ↔ EachFrom P 0 xs = rw none at so in
      all.0 tt

  -- the same, by a test
  pub each_goes_on : (r : Bool) (i : ℕ) (x : A) → i < length xs → x ≡ get_or xs i x → (IsTrue r ↔ P i x) → IsTrue r
      → RestDecides i → RestDecides (i + 1)
  each_goes_on r i x h e tested passed so = rest_goes_on i x h (rw (← e) (tested.0 passed)) so

  -- where one element fails the test, P does not hold of each
  pub each_stops : (r : Bool) (i : ℕ) (x : A) → i < length xs → x ≡ get_or xs i x → (IsTrue r ↔ P i x) → (IsTrue r → ⊥)
      → RestDecides i
      → IsTrue false ↔ EachFrom P 0 xs
  each_stops r i x h e tested failed so =
      let at_place : P i (get_or xs i x) → ⊥ = λ is. failed (tested.1 (rw e is)) in
      ((λ none. absurd (cc)), (λ whole. absurd (rest_stops i x h at_place so whole)))

pub ruleset each = (rest_starts, rest_stops, rest_ends)
