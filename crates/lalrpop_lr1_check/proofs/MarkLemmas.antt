-- What marks gain, number by number and element by element: for all that is marked here.
use Rattle.std.proofs.Common.{◌≡◌, ◌∙◌, ◌↔◌, ◌⊎◌, ℕ, ◌+◌, ◌<◌, ◌≤◌, Bool}
use Rattle.std.proofs.Common.{true, false, List, [], ◌∷◌, ◌++◌}
use Rattle.std.proofs.Common.{length, take, get_or, set, refl, sym, subst, inl, inr, ⊎_elim, arith, Contains, Some}
use Rattle.std.proofs.Common.{slice_get}
use Rattle.std.proofs.lemmas.List.{take_all}
use Rattle.std.proofs.lemmas.List.Elements.{Contains-append_cases, Contains-append_left, Contains-append_right}
use Rattle.lalrpop_lr1_theory.proofs.ListLemmas.{contains_here, contains_later, contains_split, get_contains}
use Rattle.lalrpop_lr1_barren.specs.Clauses.{IsMarked, has_mark}
use Rattle.lalrpop_lr1_barren.proofs.ClauseLemmas.{marked_within, set_from, set_kept, set_long, set_there}
use Rattle.lalrpop_lr1_check_lookaheads.proofs.GainLemmas.{taken_one}
use Rattle.lalrpop_lr1_theory.proofs.NameLemmas.{no_element}
use Rattle.lalrpop_lr1_check.specs.MarkGains.{GainsMarks, IsMarkOfSome, marks_with}

-- marks of two lists of numbers, one behind the other
pub marks_with-append : (marks : List Bool) (a b : List ℕ) → marks_with marks (a ++ b) ≡ marks_with (marks_with marks a) b
marks_with-append marks [] b = refl
marks_with-append marks (n ∷ a) b = marks_with-append (set marks n true) a b

with_kept : (marks : List Bool) (ns : List ℕ) (n : ℕ) → IsMarked marks n → IsMarked (marks_with marks ns) n
with_kept marks [] n m = m
with_kept marks (k ∷ ns) n m = with_kept (set marks k true) ns n (set_kept marks k n m)

with_from : (marks : List Bool) (ns : List ℕ) (n : ℕ) → IsMarked (marks_with marks ns) n →
    IsMarked marks n ⊎ ((n < length marks) × Contains ns n)
with_from marks [] n m = inl m
with_from marks (k ∷ ns) n m = go (with_from (set marks k true) ns n m)
  where
    go : IsMarked (set marks k true) n ⊎ ((n < length (set marks k true)) × Contains ns n) →
        IsMarked marks n ⊎ ((n < length marks) × Contains (k ∷ ns) n)
    go (inl d) =
        let within : n < length marks = omega (arith, marked_within (set marks k true) n d, set_long marks k) in
        ⊎_elim (λ e. inr (within, subst (Contains (k ∷ ns)) (sym e) (contains_here k ns))) (λ o. inl o) (set_from marks k n d)
    go (inr d) = inr (omega (arith, d.0, set_long marks k), contains_later k n ns d.1)

with_there : (marks : List Bool) (ns : List ℕ) (n : ℕ) → n < length marks → Contains ns n → IsMarked (marks_with marks ns) n
with_there marks [] n l c = absurd (no_element n c)
with_there marks (k ∷ ns) n l c = ⊎_elim
    (λ e. with_kept (set marks k true) ns n (subst (λ i. IsMarked (set marks i true) n) (sym e) (set_there marks n l)))
    (λ d. with_there (set marks k true) ns n (omega (arith, l, set_long marks k)) d)
    (contains_split k n ns c)

none_marked : (marks : List Bool) → ((n : ℕ) → has_mark marks n ≡ false) → (n : ℕ) → IsMarked marks n → ⊥
none_marked marks empty n m = let both : true ≡ false = sym m ∙ empty n in let w : ⊥ = cc in w

-- marks of numbers, where none was set
pub marks_of : (marks : List Bool) (ns : List ℕ) (count n : ℕ) → ((k : ℕ) → has_mark marks k ≡ false) →
    length marks ≡ count → IsMarked (marks_with marks ns) n ↔ ((n < count) × Contains ns n)
marks_of marks ns count n empty long = (
  λ m. ⊎_elim (λ o. absurd (none_marked marks empty n o)) (λ d. (omega (arith, d.0, long), d.1)) (with_from marks ns n m),
  λ h. with_there marks ns n (omega (arith, h.0, long)) h.1,
)

-- nothing is gained
pub gains_nothing : (marks : List Bool) (Mark : ℕ → Type 0) → ((n : ℕ) → Mark n → ⊥) → GainsMarks marks marks Mark
gains_nothing marks Mark none = record {
  count = refl;
  marks = λ n. (λ m. inl m, λ h. ⊎_elim (λ m. m) (λ p. absurd (none n p)) h);
}

module _ {X : Type 0} (xs : List X) (x : X) where
  -- an element that isn't there marks nothing
  pub gains_missing : (marks : List Bool) → (Contains xs x → ⊥) → GainsMarks marks marks (λ n. slice_get xs n ≡ Some x)
  gains_missing marks missing = gains_nothing marks (λ n. slice_get xs n ≡ Some x) (λ n e. missing (get_contains xs n x e))

-- the same marks by another name
pub gains_same : (old new : List Bool) (Mark Other : ℕ → Type 0) → ((n : ℕ) → Mark n ↔ Other n) → GainsMarks old new Mark →
    GainsMarks old new Other
gains_same old new Mark Other same g = record {
  count = g.count;
  marks = λ n. (
    λ m. ⊎_elim (λ o. inl o) (λ p. inr ((same n).0 p)) ((g.marks n).0 m),
    λ h. (g.marks n).1 (⊎_elim (λ o. inl o) (λ p. inr ((same n).1 p)) h),
  );
}

module _ {X : Type 0} (Mark : X → ℕ → Type 0) (old : List Bool) (xs : List X) where
  -- before the first element
  pub gains_first : GainsMarks old old (IsMarkOfSome Mark [])
  gains_first = gains_nothing old (IsMarkOfSome Mark []) (λ n p. no_element p.0 p.1)

  -- an element more
  pub gains_next : (now new : List Bool) (i : ℕ) (x : X) → i < length xs → x ≡ get_or xs i x →
      GainsMarks old now (IsMarkOfSome Mark (take i xs)) → GainsMarks now new (Mark x) →
      GainsMarks old new (IsMarkOfSome Mark (take (i + 1) xs))
  gains_next now new i x within is before own =
      subst (λ l. GainsMarks old new (IsMarkOfSome Mark l)) (sym (taken_one xs i x within is)) (record {
        count = own.count ∙ before.count;
        marks = λ n. (λ m. ⊎_elim (λ o. earlier n ((before.marks n).0 o)) (λ p. inr (x, last, p)) ((own.marks n).0 m), back n);
      })
    where
      last : Contains (take i xs ++ x ∷ []) x
      last = Contains-append_right (take i xs) (x ∷ []) x (contains_here x [])

      earlier : (n : ℕ) → IsMarked old n ⊎ IsMarkOfSome Mark (take i xs) n →
          IsMarked old n ⊎ IsMarkOfSome Mark (take i xs ++ x ∷ []) n
      earlier n h = ⊎_elim (λ o. inl o) (λ p. inr (p.0, Contains-append_left (take i xs) (x ∷ []) p.0 p.1, p.2)) h

      back : (n : ℕ) → IsMarked old n ⊎ IsMarkOfSome Mark (take i xs ++ x ∷ []) n → IsMarked new n
      back n h = ⊎_elim
          (λ o. (own.marks n).1 (inl ((before.marks n).1 (inl o))))
          (λ p. ⊎_elim (λ c. (own.marks n).1 (inl ((before.marks n).1 (inr (p.0, c, p.2)))))
          (λ c. (own.marks n).1 (inr (subst (λ y. Mark y n) (only p.0 c) p.2)))
          (Contains-append_cases (take i xs) (x ∷ []) p.0 p.1)) h
        where
          only : (y : X) → Contains (x ∷ []) y → y ≡ x
          only y c = ⊎_elim (λ e. sym e) (λ d. absurd (no_element y d)) (contains_split x y [] c)

  -- all elements
  pub gains_whole : (now : List Bool) (i : ℕ) → length xs ≤ i → GainsMarks old now (IsMarkOfSome Mark (take i xs)) →
      GainsMarks old now (IsMarkOfSome Mark xs)
  gains_whole now i end g = subst (λ l. GainsMarks old now (IsMarkOfSome Mark l)) (take_all i xs end) g

-- where none was set, those that were gained are all
pub gained_marks : (old new : List Bool) (Mark : ℕ → Type 0) → ((k : ℕ) → has_mark old k ≡ false) →
    GainsMarks old new Mark → (n : ℕ) → IsMarked new n ↔ Mark n
gained_marks old new Mark empty g n = (
  λ m. ⊎_elim (λ o. absurd (none_marked old empty n o)) (λ p. p) ((g.marks n).0 m),
  λ p. (g.marks n).1 (inr p),
)
