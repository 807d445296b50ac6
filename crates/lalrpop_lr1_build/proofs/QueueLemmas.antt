-- Where a kernel stands that is added to a queue of kernels whose `==` is identity: for edges.
use Rattle.std.proofs.Common.{◌≡◌, ◌∙◌, ℕ, zero, suc, ◌+◌, Bool, true, false, ◌||◌, cond, not, List, []}
use Rattle.std.proofs.Common.{◌∷◌, ◌++◌, length, Some, slice_get}
use Rattle.std.proofs.Common.{refl, sym, ap, arith, inl, inr, ◌⊎◌}
use Rattle.std.specs.List.{list_any}
use Rattle.std.specs.Cmp.Lexicographic.{pointwise}
use Rattle.std.specs.Prelude.{◌&&◌, ◌==◌, if◌then◌else◌}
use Rattle.lalrpop_lr1_theory.proofs.StepLemmas.{some_same}
use Rattle.lalrpop_sets.specs.Queues.{number_in}
use Rattle.lalrpop_lr1_first.proofs.ListLemmas.{both_and, eqb_true}
use Rattle.lalrpop_grammar_symbols.proofs.BoolLemmas.{and_both}
use Rattle.lalrpop_sets.proofs.AscendingListLemmas.{eqb_self}
use Rattle.lalrpop_lr1_build.specs.Edges.{AddsKernel}
use Rattle.lalrpop_lr1_build.specs.declared.states.kernel.StateKernel.{StateKernel}
use Rattle.lalrpop_lr1_theory.proofs.ListLemmas.{get_last}

module _ {K : Type 0} (eq : K → K → Bool) (exact : (a b : K) → eq a b ≡ true → a ≡ b) (same : (a : K) → eq a a
    ≡ true) (k : K) where
  found : (ks : List K) → list_any (eq k) ks ≡ true → slice_get ks (number_in eq ks k) ≡ Some k
  found [] h = let z : ⊥ = cc in absurd z
  found (x ∷ ks) h = go (eq k x) refl h (found ks)
    where
      go : (b : Bool) → eq k x ≡ b → (b || list_any (eq k) ks) ≡ true →
          (list_any (eq k) ks ≡ true → slice_get ks (number_in eq ks k) ≡ Some k) →
          slice_get (x ∷ ks) (cond (not b) (1 + number_in eq ks k) 0) ≡ Some k
      go true e h rec = ap Some (sym (exact k x e))
      go false e h rec =
          ap (slice_get (x ∷ ks)) (let z : 1 + number_in eq ks k ≡ suc (number_in eq ks k) = omega arith in z) ∙ rec h

  past : (ks : List K) → list_any (eq k) ks ≡ false → number_in eq ks k ≡ length ks
  past [] h = refl
  past (x ∷ ks) h = go (eq k x) refl h (past ks)
    where
      go : (b : Bool) → eq k x ≡ b → (b || list_any (eq k) ks) ≡ false →
          (list_any (eq k) ks ≡ false → number_in eq ks k ≡ length ks) →
          cond (not b) (1 + number_in eq ks k) 0 ≡ length (x ∷ ks)
      go true e h rec = let z : ⊥ = cc in absurd z
      go false e h rec = omega (arith, rec h)

  unseen : (ks : List K) (j : ℕ) → list_any (eq k) ks ≡ false → slice_get ks j ≡ Some k → ⊥
  unseen [] j h e = let z : ⊥ = cc in z
  unseen (x ∷ ks) zero h e =
      go (eq k x) (ap (eq k) (some_same x k e) ∙ same k) h
    where
      go : (b : Bool) → b ≡ true → (b || list_any (eq k) ks) ≡ false → ⊥
      go true e h = cc
      go false e h = cc
  unseen (x ∷ ks) (suc j) h e = go (eq k x) h (unseen ks j)
    where
      go : (b : Bool) → (b || list_any (eq k) ks) ≡ false → (list_any (eq k) ks ≡ false → slice_get ks j
          ≡ Some k → ⊥) → ⊥
      go true h rec = cc
      go false h rec = rec h e

-- the `==` of kernels: their items are as many, each at the same place with an equal lookahead
abbrev pub item_eq : {L : Type 0} → (L → L → Bool) → ℕ × L → ℕ × L → Bool
item_eq eq x y = (x.0 == y.0) && eq x.1 y.1

-- kernels are equal where their lists of items are, item by item
abbrev pub kernel_eq : {L : Type 0} → (L → L → Bool) → StateKernel L → StateKernel L → Bool
kernel_eq eq a b = pointwise (item_eq eq) a.items b.items

module _ {L : Type 0} (eq : L → L → Bool) where
  items_exact : ((a b : L) → eq a b ≡ true → a ≡ b) → (xs ys : List (ℕ × L)) → pointwise (item_eq eq) xs ys
      ≡ true → xs ≡ ys
  items_exact exact [] [] e = refl
  items_exact exact [] (y ∷ ys) e = let z : ⊥ = cc in absurd z
  items_exact exact (x ∷ xs) [] e = let z : ⊥ = cc in absurd z
  items_exact exact (x ∷ xs) (y ∷ ys) e =
      let both = and_both (item_eq eq x y) (pointwise (item_eq eq) xs ys) e in
      let parts = and_both (x.0 == y.0) (eq x.1 y.1) both.0 in
      ap (λ (i : ℕ). (i, x.1) ∷ xs) (eqb_true x.0 y.0 parts.0) ∙ ap (λ (l : L). (y.0, l) ∷ xs) (exact x.1 y.1 parts.1)
      ∙ ap (λ zs. y ∷ zs) (items_exact exact xs ys both.1)

  -- equal kernels are one
  pub kernel_exact : ((a b : L) → eq a b ≡ true → a ≡ b) → (a b : StateKernel L) → kernel_eq eq a b ≡ true → a ≡ b
  kernel_exact exact a b e = ap (λ (xs : List (ℕ × L)). record { items = xs }) (items_exact exact a.items b.items e)

  items_self : ((a : L) → eq a a ≡ true) → (xs : List (ℕ × L)) → pointwise (item_eq eq) xs xs ≡ true
  items_self same [] = refl
  items_self same (x ∷ xs) =
      both_and (item_eq eq x x) (pointwise (item_eq eq) xs xs) (both_and (x.0 == x.0) (eq x.1 x.1) (eqb_self x.0) (same x.1))
      (items_self same xs)

  -- each kernel equals itself
  pub kernel_self : ((a : L) → eq a a ≡ true) → (a : StateKernel L) → kernel_eq eq a a ≡ true
  kernel_self same a = items_self same a.items

-- a kernel that is added stands at its number, and either was there or is the last
pub record StandsIn {L : Type 0} (kernel : StateKernel L) (target : ℕ) (old new : List (StateKernel L)) : Type 0 where
  pub at : slice_get new target ≡ Some kernel
  pub kernels : (new ≡ old) ⊎ AddsKernel kernel target old new

-- a kernel that is put behind a queue unless it's there already stands in it at its number
pub stands_in : {L : Type 0} (eq : StateKernel L → StateKernel L → Bool) → ((a b : StateKernel L) → eq a b ≡ true → a ≡ b) →
    ((a : StateKernel L) → eq a a ≡ true) → (kernel : StateKernel L) (old new : List (StateKernel L)) →
    new ≡ (if list_any (eq kernel) old then old else old ++ kernel ∷ []) → StandsIn kernel (number_in eq old kernel) old new
stands_in {L} eq exact same kernel old new e = go (list_any (eq kernel) old) refl e
  where
    go : (b : Bool) → list_any (eq kernel) old ≡ b → new ≡ (if b then old else old ++ kernel ∷ []) →
        StandsIn kernel (number_in eq old kernel) old new
    go true f e = record {
      at = ap (λ ks. slice_get ks (number_in eq old kernel)) e ∙ found eq exact same kernel old f;
      kernels = inl e;
    }
    go false f e = record {
      at = ap (λ ks. slice_get ks (number_in eq old kernel)) e
          ∙ ap (slice_get (old ++ kernel ∷ [])) (past eq exact same kernel old f) ∙ get_last old kernel;
      kernels = inr (record { more = e; last = past eq exact same kernel old f; unseen = λ j h. unseen eq exact same kernel old j f h });
    }
