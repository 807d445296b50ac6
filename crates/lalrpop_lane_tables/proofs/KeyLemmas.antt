-- What sets of states have after inserts.
use Rattle.std.proofs.Common.{◌≡◌, ◌∙◌, ◌↔◌, ◌⊎◌, List, [], ◌∷◌, ◌++◌, refl, sym, subst, inl, inr, ⊎_elim, Contains, ap}
use Rattle.std.specs.BTreeSet.{insert_key}
use Rattle.std.specs.Ordering.{match_ordering}
use Rattle.std.specs.declared.cmp.Ordering.{Ordering}
use Rattle.std.specs.declared.cmp.Ordering.TheVariants.{Less, Equal, Greater}
use Rattle.std.proofs.lemmas.Map.Lookups.{exact_unsigned}
use Rattle.lalrpop_lr1_theory.proofs.ListLemmas.{contains_here, contains_later, contains_split}
use Rattle.lalrpop_lr1_theory.proofs.NameLemmas.{no_element}
use Rattle.lalrpop_lr1_core.specs.Edges.{state_index}
use Rattle.lalrpop_lr1_core.specs.declared.state_index.StateIndex.{StateIndex}
use Rattle.lalrpop_lane_tables.specs.ReachedStates.{index_cmp, states_with}

-- states with one number are one
pub index_exact : (a b : StateIndex) → index_cmp a b ≡ Equal → a ≡ b
index_exact a b e = ap state_index (exact_unsigned a.0 b.0 e)

module _ {K : Type 0} (cmp : K → K → Ordering) (exact : (a b : K) → cmp a b ≡ Equal → a ≡ b) where
  -- one key more
  pub insert_has : (ks : List K) (k s : K) → Contains (insert_key cmp ks k) s ↔ (Contains ks s ⊎ (k ≡ s))
  insert_has [] k s = (
    λ c. ⊎_elim (λ e. inr e) (λ d. absurd (no_element s d)) (contains_split k s [] c),
    λ v. ⊎_elim (λ d. absurd (no_element s d)) (λ e. subst (Contains (k ∷ [])) e (contains_here k [])) v,
  )
  insert_has (x ∷ xs) k s = go (cmp k x) refl (insert_has xs k s)
    where
      go : (o : Ordering) → cmp k x ≡ o → (Contains (insert_key cmp xs k) s ↔ (Contains xs s ⊎ (k ≡ s))) →
          Contains (match_ordering o (k ∷ x ∷ xs) (x ∷ xs) (x ∷ insert_key cmp xs k)) s ↔ (Contains (x ∷ xs) s ⊎ (k ≡ s))
      go Less is rest = (
        λ c. ⊎_elim (λ e. inr e) (λ d. inl d) (contains_split k s (x ∷ xs) c),
        λ v. ⊎_elim (λ d. contains_later k s (x ∷ xs) d) (λ e. subst (Contains (k ∷ x ∷ xs)) e (contains_here k (x ∷ xs))) v,
      )
      go Equal is rest = (
        λ c. inl c,
        λ v. ⊎_elim (λ d. d) (λ e. subst (Contains (x ∷ xs)) (sym (exact k x is) ∙ e) (contains_here x xs)) v,
      )
      go Greater is rest = (
        λ c. ⊎_elim
            (λ e. inl (subst (Contains (x ∷ xs)) e (contains_here x xs)))
            (λ d. ⊎_elim (λ h. inl (contains_later x s xs h)) (λ e. inr e) (rest.0 d)) (contains_split x s (insert_key cmp xs k) c),
        λ v. ⊎_elim
            (λ d. ⊎_elim
            (λ e. subst (Contains (x ∷ insert_key cmp xs k)) e (contains_here x (insert_key cmp xs k)))
            (λ h. contains_later x s (insert_key cmp xs k) (rest.1 (inl h))) (contains_split x s xs d))
            (λ e. contains_later x s (insert_key cmp xs k) (rest.1 (inr e))) v,
      )

-- and all of a list
pub states_have : (ks xs : List StateIndex) (s : StateIndex) → Contains (states_with ks xs) s ↔ (Contains ks s ⊎ Contains xs s)
states_have ks [] s = (λ c. inl c, λ v. ⊎_elim (λ d. d) (λ d. absurd (no_element s d)) v)
states_have ks (x ∷ xs) s =
    let r = states_have (insert_key index_cmp ks x) xs s in
    let i = insert_has index_cmp index_exact ks x s in (
      λ c. ⊎_elim
          (λ a. ⊎_elim (λ o. inl o) (λ e. inr (subst (Contains (x ∷ xs)) e (contains_here x xs))) (i.0 a))
          (λ d. inr (contains_later x s xs d)) (r.0 c),
      λ v. r.1 (⊎_elim
          (λ o. inl (i.1 (inl o)))
          (λ d. ⊎_elim (λ e. inl (i.1 (inr e))) (λ h. inr h) (contains_split x s xs d)) v),
    )

-- one list after another
pub states_with-append : (ks xs ys : List StateIndex) → states_with ks (xs ++ ys) ≡ states_with (states_with ks xs) ys
states_with-append ks [] ys = refl
states_with-append ks (x ∷ xs) ys = states_with-append (insert_key index_cmp ks x) xs ys
