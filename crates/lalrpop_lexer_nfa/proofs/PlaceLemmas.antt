-- Members that stand where a set looks for them: none stands twice, and they are no more than the bound. For `NfaStateSet`.
use Rattle.std.proofs.Common.{◌≡◌, ◌≢◌, ℕ, zero, suc, ◌<◌, ◌≤◌, List, [], ◌∷◌, ◌++◌, length, get_or}
use Rattle.std.proofs.Common.{set, All, Contains}
use Rattle.std.proofs.Common.{sym, ap, ◌∙◌, arith, eqb, false, Bool, true, ⊎_elim, cond}
use Rattle.std.specs.Prelude.{AllPairs}
use Rattle.std.specs.List.{AllByRecursion, IsDistinct}
use Rattle.std.proofs.lemmas.Bool.{ne_eqb, eqb-true}
use Rattle.std.proofs.lemmas.List.{get_or_default, get_or-set_same, get_or-set_other}
use Rattle.std.proofs.lemmas.List.Elements.{All-contains}
use Rattle.std.proofs.lemmas.Map.Keys.{IsDistinct-cons}
use Rattle.std.proofs.lemmas.Map.Steps.{length-le_from_distinct_below}
use Rattle.std.proofs.lemmas.Map.Views.{Contains-from_any}
use Rattle.lalrpop_lexer_nfa.specs.Places.{ArePlaced}
use Rattle.lalrpop_lexer_nfa.proofs.EdgeListLemmas.{push_cases}

-- two members that are looked for at one place stand at it
pub stand_once : (members places : List ℕ) → ArePlaced members places → AllPairs (λ x y. x ≢ y) members
stand_once members places h i j d below within e =
    let same : get_or members i 0 ≡ get_or members j 0 =
    get_or_default members i 0 d (omega arith) ∙ e ∙ sym (get_or_default members j 0 d within) in
    let at = sym (h i (omega arith)) ∙ ap (λ q. get_or places q 0) same ∙ h j within in
    omega arith

apart : (x : ℕ) (ys : List ℕ) → ((j : ℕ) → j < length ys → x ≢ get_or ys j 0) → AllByRecursion (λ y. eqb x y ≡ false) ys
apart x [] h = tt
apart x (y ∷ ys) h = (ne_eqb x y (h zero (omega arith)), apart x ys (λ j l. h (suc j) (omega arith)))

distinct : (xs : List ℕ) → AllPairs (λ x y. x ≢ y) xs → IsDistinct eqb xs
unfolding IsDistinct
distinct [] h = tt
distinct (x ∷ xs) h =
    IsDistinct-cons eqb x xs (apart x xs (λ j l. h zero (suc j) 0 (omega arith) (omega arith)))
    (distinct xs (λ i j d less l. h (suc i) (suc j) d (omega arith) (omega arith)))

-- there are no more members than numbers below the bound
pub at_most : (members places : List ℕ) (n : ℕ) → ArePlaced members places → All (λ q. q < n) members → length members ≤ n
at_most members places n h below =
    length-le_from_distinct_below members n (distinct members (stand_once members places h))
    (λ q found. All-contains (λ q. q < n) members q below (Contains-from_any (λ x y t. eqb-true x y t) q members found))

-- a member is looked for where it stands
pub found_from_member : (members places : List ℕ) (q : ℕ) → ArePlaced members places → Contains members q
    → (get_or places q 0 < length members) × (get_or members (get_or places q 0) 0 ≡ q)
found_from_member members places q h (k, l, e) =
    let here : get_or members k 0 ≡ q = get_or_default members k 0 q l ∙ e in
    let at : get_or places q 0 ≡ k = ap (λ x. get_or places x 0) (sym here) ∙ h k l in
    (omega arith, ap (λ i. get_or members i 0) at ∙ here)

-- where a number is found at its place, it is a member
pub member_from_found : (members : List ℕ) (q place : ℕ) → place < length members → get_or members place 0 ≡ q
    → Contains members q
member_from_found members q place l e = (place, l, sym (get_or_default members place 0 q l) ∙ e)

-- a new number's place is noted, and then the number comes
module _ (members places : List ℕ) (q : ℕ) (inside : q < length places) (fresh : Contains members q → ⊥)
    (h : ArePlaced members places) where
  pub placed_noted : ArePlaced members (set places q (length members))
  placed_noted i l =
      let other : get_or members i 0 ≢ q = λ e. fresh (member_from_found members q i l e) in
      get_or-set_other places q (get_or members i 0) (length members) 0 other ∙ h i l

  pub placed_more : ArePlaced (members ++ q ∷ []) (set places q (length members))
  placed_more i l =
      ⊎_elim (λ old. ap (λ x. get_or (set places q (length members)) x 0) old.1 ∙ placed_noted i old.0)
      (λ new. ap (λ x. get_or (set places q (length members)) x 0) new.1
      ∙ get_or-set_same places q (length members) 0 inside ∙ sym new.0)
      (push_cases members q i l)

-- the same where the room for one more may have been lacking
pub placed_more_if : (members places new : List ℕ) (q : ℕ) (b : Bool) → q < length places → (Contains members q → ⊥)
    → ArePlaced members places → new ≡ cond b (members ++ q ∷ []) members → ArePlaced new (set places q (length members))
placed_more_if members places new q true inside fresh h e = rw e (placed_more members places q inside fresh h)
placed_more_if members places new q false inside fresh h e = rw e (placed_noted members places q inside fresh h)
