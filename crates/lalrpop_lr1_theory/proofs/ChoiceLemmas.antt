-- Where there is something for each number below a bound, a list has it at each place: for the law that counts states.
use Rattle.std.proofs.Common.{◌≡◌, ◌∙◌, ◌⊎◌, ◌+◌, ◌<◌, ◌≤◌, ℕ, zero, suc, List, [], ◌∷◌, ◌++◌, length, Some}
use Rattle.std.proofs.Common.{refl, subst, inl, inr, arith, length-append}
use Rattle.std.proofs.lemmas.Bool.{cases_lt}
use Rattle.std.specs.Prelude.{slice_get}
use Rattle.lalrpop_lr1_theory.proofs.ListLemmas.{get_front, get_split}
use Rattle.lalrpop_lr1_theory.proofs.PlaceLemmas.{slice_get-append}

module _ {X : Type 0} (P : ℕ → X → Type 0) where
  -- a list of so many, each of which is right at its place
  pub record Choices (n : ℕ) : Type 0 where
    pub list : List X
    pub count : length list ≡ n
    pub right : (k : ℕ) (x : X) → slice_get list k ≡ Some x → P k x
    pub each : (k : ℕ) → k < n → (x : X) × (slice_get list k ≡ Some x)

  -- there is one, where something is right at each place below the bound
  pub choices : (bound n : ℕ) → n ≤ bound → ((k : ℕ) → k < bound → (x : X) × P k x) → Choices n
  choices bound zero l some =
      record {
        list = [];
        count = refl;
        right = λ k x e. let z : ⊥ = cc in absurd z;
        each = λ k h. absurd (omega (arith, h));
      }
  choices bound (suc n) l some =
      let c = choices bound n (omega (arith, l)) some in
      let new = some n (omega (arith, l)) in
      record {
        list = c.list ++ new.0 ∷ [];
        count = length-append c.list (new.0 ∷ []) ∙ omega (arith, c.count);
        right = λ k x e. right_more c new.0 new.1 k x (get_split c.list (new.0 ∷ []) k x e);
        each = λ k h. each_more c new.0 k (cases_lt k n) h;
      }
    where
      right_more : (c : Choices n) (y : X) → P n y → (k : ℕ) (x : X) →
          (slice_get c.list k ≡ Some x) ⊎ ((i : ℕ) × (k ≡ length c.list + i) × (slice_get (y ∷ []) i ≡ Some x)) → P k x
      right_more c y q k x (inl e) = c.right k x e
      right_more c y q k x (inr e) = go e.0 e.1 e.2
        where
          go : (i : ℕ) → k ≡ length c.list + i → slice_get (y ∷ []) i ≡ Some x → P k x
          go zero a b =
              let z : n ≡ k = omega (arith, a, c.count) in
              let w : y ≡ x = cc in
              subst (λ j. P j x) z (subst (P n) w q)
          go (suc i) a b = let z : ⊥ = cc in absurd z

      each_more : (c : Choices n) (y : X) (k : ℕ) → (k < n) ⊎ (n ≤ k) → k < suc n →
          (x : X) × (slice_get (c.list ++ y ∷ []) k ≡ Some x)
      each_more c y k (inl a) h = let e = c.each k a in (e.0, get_front c.list (y ∷ []) k e.0 e.1)
      each_more c y k (inr a) h = (y, slice_get-append c.list (y ∷ []) 0 k (omega (arith, a, h, c.count)))
