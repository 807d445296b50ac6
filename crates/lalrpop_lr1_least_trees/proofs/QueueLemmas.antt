-- Rules that wait, one pushed and one popped: for the queue.
use Rattle.std.proofs.Common.{◌≡◌, ◌∙◌, ℕ, zero, suc, ◌<◌, Bool, true, false, List, [], ◌∷◌, ◌++◌, length}
use Rattle.std.proofs.Common.{Option, None, Some, get_or, refl, sym, ap, subst, arith, Contains, set, ◌⊎◌, inl, inr}
use Rattle.std.proofs.Common.{⊎_elim, length-append}
use Rattle.std.specs.Prelude.{slice_index_or}
use Rattle.std.proofs.lemmas.List.Elements.{Contains-append_cases, Contains-append_left, Contains-append_right}
use Rattle.lalrpop_lr1_theory.proofs.ListLemmas.{contains_here, contains_later, contains_split}
use Rattle.lalrpop_lr1_least_trees.specs.declared.least_counts.waiting.Worklist.{Worklist}
use Rattle.lalrpop_lr1_least_trees.specs.Searches.{IsPopped, IsPushed, IsQueue, IsRuleTaken}

flags_long : (flags : List Bool) (r : ℕ) (b : Bool) → length (set flags r b) ≡ length flags
flags_long [] r b = refl
flags_long (x ∷ flags) zero b = refl
flags_long (x ∷ flags) (suc r) b = ap suc (flags_long flags r b)

-- a flag that is set after one changed was set, or is the one that was set
flag_from : (flags : List Bool) (r q : ℕ) (b : Bool) → slice_index_or (set flags r b) q false ≡ true →
    ((q ≡ r) × (b ≡ true)) ⊎ ((q ≡ r → ⊥) × (slice_index_or flags q false ≡ true))
flag_from [] r q b e = let w : ⊥ = cc in absurd w
flag_from (x ∷ flags) zero zero b e = inl (refl, e)
flag_from (x ∷ flags) zero (suc q) b e = inr (λ k. omega arith, e)
flag_from (x ∷ flags) (suc r) zero b e = inr (λ k. omega arith, e)
flag_from (x ∷ flags) (suc r) (suc q) b e =
    ⊎_elim (λ h. inl (ap suc h.0, h.1)) (λ h. inr (λ k. h.0 (omega (arith, k)), h.1)) (flag_from flags r q b e)

only_one : (r q : ℕ) → Contains (r ∷ []) q → r ≡ q
only_one r q c = ⊎_elim (λ e. e) (λ d. absurd (omega (arith, d.1))) (contains_split r q [] c)

module _ (r : ℕ) (old new : Worklist) (is : IsQueue (length old.waits.items) old) where
  pub pushed_new : r < length old.waits.items → new.rules.items ≡ old.rules.items ++ r ∷ [] →
      new.waits.items ≡ set old.waits.items r true → IsPushed r old new
  pushed_new within rules waits = record {
    queue = record {
      long = ap length waits ∙ flags_long old.waits.items r true;
      within = λ q c. ⊎_elim (λ d. is.within q d) (λ d. let e = only_one r q d in omega arith)
          (Contains-append_cases old.rules.items (r ∷ []) q (subst (λ l. Contains l q) rules c));
      flagged = λ q e. ⊎_elim (λ h. subst (λ k. Contains new.rules.items k) (sym h.0) there) (λ h. stays q (is.flagged q h.1))
          (flag_from old.waits.items r q true (subst (λ l. slice_index_or l q false ≡ true) waits e));
    };
    kept = stays;
    added = there;
    count = omega (arith, ap length rules, length-append old.rules.items (r ∷ []));
  }
    where
      there : Contains new.rules.items r
      there = subst (λ l. Contains l r) (sym rules) (Contains-append_right old.rules.items (r ∷ []) r (contains_here r []))

      stays : (q : ℕ) → Contains old.rules.items q → Contains new.rules.items q
      stays q c = subst (λ l. Contains l q) (sym rules) (Contains-append_left old.rules.items (r ∷ []) q c)

  pub taken_first : old.rules.items ≡ r ∷ new.rules.items → new.waits.items ≡ set old.waits.items r false → IsRuleTaken r old new
  taken_first rules waits = record {
    within = is.within r (subst (λ l. Contains l r) (sym rules) (contains_here r new.rules.items));
    queue = record {
      long = ap length waits ∙ flags_long old.waits.items r false;
      within = λ q c. is.within q (subst (λ l. Contains l q) (sym rules) (contains_later r q new.rules.items c));
      flagged = λ q e. ⊎_elim (λ h. let b = h.1 in let w : ⊥ = cc in absurd w)
          (λ h. ⊎_elim (λ k. absurd (h.0 (sym k))) (λ c. c)
          (contains_split r q new.rules.items (subst (λ l. Contains l q) rules (is.flagged q h.1))))
          (flag_from old.waits.items r q false (subst (λ l. slice_index_or l q false ≡ true) waits e));
    };
    kept = λ q c. ⊎_elim (λ e. inl (sym e)) (λ d. inr d)
        (contains_split r q new.rules.items (subst (λ l. Contains l q) rules c));
    fewer = sym (ap length rules);
  }

-- one that waits is there already
pub pushed_old : (r : ℕ) (old : Worklist) → IsQueue (length old.waits.items) old → slice_index_or old.waits.items r false ≡ true →
    IsPushed r old old
pushed_old r old is flag = record { queue = is; kept = λ q c. c; added = is.flagged r flag; count = omega arith }

get_any : (xs : List ℕ) (i d e : ℕ) → i < length xs → get_or xs i d ≡ get_or xs i e
get_any [] i d e h = absurd (omega arith)
get_any (x ∷ xs) zero d e h = refl
get_any (x ∷ xs) (suc i) d e h = get_any xs i d e (omega arith)

-- what is in a list is read at its place
pub contains_read : (xs : List ℕ) (x : ℕ) (c : Contains xs x) → get_or xs c.0 0 ≡ x
contains_read xs x c = get_any xs c.0 0 x c.1 ∙ c.2

-- where none was taken, none waits
pub none_taken : (taken : Option ℕ) (old new : Worklist) → IsPopped taken old new → ((r : ℕ) → taken ≡ Some r → ⊥) →
    old.rules.items ≡ []
none_taken None old new popped none = popped
none_taken (Some r) old new popped none = absurd (none r refl)
