-- A set without the end's number: for the reductions by the start.
use Rattle.std.proofs.Common.{◌≡◌, ◌∙◌, ℕ, Bool, true, false, ◌||◌, ◌&&◌, not, List, [], ◌∷◌, length, refl, sym}
use Rattle.std.proofs.Common.{ap, arith}
use Rattle.std.specs.Prelude.{nat_eq}
use Rattle.std.proofs.lemmas.Bool.Decides.{Decides-eqb}
use Rattle.lalrpop_sets.specs.AscendingLists.{has}
use Rattle.lalrpop_grammar_repr.proofs.EqualLemmas.{both_parts}

has_none : (xs : List ℕ) (k : ℕ) → length xs ≡ 0 → has xs k ≡ false
has_none [] k e = refl
has_none (x ∷ xs) k e = absurd (omega (arith, e))

module _ (old new : List ℕ) (end : ℕ) (gone : (j : ℕ) → has new j ≡ (not (nat_eq j end) && has old j)) where
  -- where nothing is left, the set held no other number
  pub empty_alone : length new ≡ 0 → (k : ℕ) → has old k ≡ true → k ≡ end
  empty_alone e k h = go (nat_eq k end) refl
    where
      go : (b : Bool) → nat_eq k end ≡ b → k ≡ end
      go true f = (Decides-eqb k end).0 f
      go false f =
          let both : true ≡ false = sym (ap (λ c. not c && has old k) f ∙ h) ∙ sym (gone k) ∙ has_none new k e in
          let w : ⊥ = cc in absurd w

  -- and the other way round
  pub alone_empty : ((k : ℕ) → has old k ≡ true → k ≡ end) → length new ≡ 0
  alone_empty alone = go new refl
    where
      first_there : (x : ℕ) (xs : List ℕ) → has (x ∷ xs) x ≡ true
      first_there x xs = ap (λ b. b || has xs x) ((Decides-eqb x x).1 refl)

      go : (l : List ℕ) → new ≡ l → length l ≡ 0
      go [] e = refl
      go (x ∷ xs) e =
          let there : has new x ≡ true = ap (λ l. has l x) e ∙ first_there x xs in
          let parts = both_parts (not (nat_eq x end)) (has old x) (sym (gone x) ∙ there) in
          let same : nat_eq x end ≡ true = (Decides-eqb x end).1 (alone x parts.1) in
          let both : true ≡ false = sym parts.0 ∙ ap not same in
          let w : ⊥ = cc in absurd w
