-- Kernels of states: which state is found for a kernel, and how many states there can be. For the states under way.
use Rattle.std.proofs.Common.{◌≡◌, ℕ, zero, suc, ◌+◌, ◌^◌, ◌<◌, ◌≤◌, List, [], ◌∷◌, ◌++◌, length}
use Rattle.std.proofs.Common.{get_or, map, Contains, All}
use Rattle.std.proofs.Common.{Bool, true, false, cond, ap, inl, inr, ◌⊎◌, ⊎_elim, sym, ◌∙◌, refl, subst, arith, eqb}
use Rattle.std.specs.Ordering.{nat_cmp, eq_by_cmp}
use Rattle.std.specs.List.{list_any, range_with_len}
use Rattle.std.specs.List.Sorted.{IsStrictlyIncreasing}
use Rattle.std.proofs.Math.Nat.{two-pow-succ}
use Rattle.std.proofs.lemmas.Bool.{cases_lt, eqb-true, ne_eqb}
use Rattle.std.proofs.lemmas.Cmp.{nat_cmp_total, eq_by_cmp_equiv, nat_eq_equiv}
use Rattle.std.proofs.lemmas.List.{length_push}
use Rattle.std.proofs.lemmas.List.Elements.{All-contains, All-from_get_or}
use Rattle.std.proofs.lemmas.List.Elements.{Contains-get_or}
use Rattle.std.proofs.lemmas.List.FromFn.{length-map-range_with_len, get_or-map-range_with_len}
use Rattle.std.proofs.lemmas.Map.Keys.{sorted_from_strictly_increasing, IsDistinct-from_apart}
use Rattle.std.proofs.lemmas.Map.Lookups.{btree_set_from_contains, exact_unsigned}
use Rattle.std.proofs.lemmas.Map.Steps.{length-le_from_distinct_below}
use Rattle.std.proofs.lemmas.Map.Views.{Contains-from_any, list_any-from_Contains}
use Rattle.lalrpop_lexer_nfa.specs.Paths.{Graph}
use Rattle.lalrpop_lexer_nfa.specs.Sets.{IsEpsilonClosure}
use Rattle.lalrpop_lexer.specs.Subsets.{set_at}
use Rattle.lalrpop_lexer.specs.Kernels.{HasOneKernelMore}
use Rattle.lalrpop_lexer.specs.States.{HaveSameMembers, HasKernel, AreNumbered}
use Rattle.lalrpop_lexer.proofs.StatesLemmas.{IsEpsilonClosure-along, equal_from, set_at-old, set_at-new}
use Rattle.lalrpop_lexer_pattern.proofs.SetLemmas.{same_tests}

-- a list and the test of its members
to_test : (xs : List ℕ) (x : ℕ) → Contains xs x → list_any (eqb x) xs ≡ true
to_test xs x h = list_any-from_Contains nat_eq_equiv x xs h

from_test : (xs : List ℕ) (x : ℕ) → list_any (eqb x) xs ≡ true → Contains xs x
from_test xs x h = Contains-from_any eqb-true x xs h

pub HaveSameMembers-sym : (xs ys : List ℕ) → HaveSameMembers xs ys → HaveSameMembers ys xs
HaveSameMembers-sym xs ys h x = ((h x).1, (h x).0)

pub HaveSameMembers-trans : (xs ys zs : List ℕ) → HaveSameMembers xs ys → HaveSameMembers ys zs → HaveSameMembers xs zs
HaveSameMembers-trans xs ys zs h k x = (λ m. (k x).0 ((h x).0 m), λ m. (h x).1 ((k x).1 m))

-- ascending lists with the same members are the same
same_ascending : (xs ys : List ℕ) → IsStrictlyIncreasing xs → IsStrictlyIncreasing ys → HaveSameMembers xs ys → xs ≡ ys
same_ascending xs ys a b h =
    btree_set_from_contains nat_cmp_total (record { keys = xs }) (record { keys = ys }) (sorted_from_strictly_increasing xs a)
    (sorted_from_strictly_increasing ys b)
    (λ q. same_tests (list_any (eq_by_cmp nat_cmp q) xs) (list_any (eq_by_cmp nat_cmp q) ys) (λ e. over ys q ((h q).0 (back xs q e)))
    (λ e. over xs q ((h q).1 (back ys q e))))
    exact_unsigned
  where
    over : (zs : List ℕ) (q : ℕ) → Contains zs q → list_any (eq_by_cmp nat_cmp q) zs ≡ true
    over zs q m = list_any-from_Contains (eq_by_cmp_equiv nat_cmp_total) q zs m

    back : (zs : List ℕ) (q : ℕ) → list_any (eq_by_cmp nat_cmp q) zs ≡ true → Contains zs q
    back zs q e = Contains-from_any (λ x y is. exact_unsigned x y (equal_from (nat_cmp x y) is)) q zs e

-- ---- how many sets of numbers there are

-- the number whose binary digits say which numbers below n are members
abbrev mask : ℕ → List ℕ → ℕ
mask zero xs = 0
mask (suc n) xs = mask n xs + cond (list_any (eqb n) xs) (2 ^ n) 0

mask_below : (n : ℕ) (xs : List ℕ) → mask n xs < 2 ^ n
mask_below zero xs = omega arith
mask_below (suc n) xs = digit (list_any (eqb n) xs) (mask_below n xs)
  where
    digit : (b : Bool) → mask n xs < 2 ^ n → mask n xs + cond b (2 ^ n) 0 < 2 ^ suc n
    digit true l = omega (arith, two-pow-succ n)
    digit false l = omega (arith, two-pow-succ n)

same_digits : (a b d : ℕ) (x y : Bool) → a < d → b < d → a + cond x d 0 ≡ b + cond y d 0 → (x ≡ y) × (a ≡ b)
same_digits a b d true true k l e = (refl, omega arith)
same_digits a b d true false k l e = absurd (omega arith)
same_digits a b d false true k l e = absurd (omega arith)
same_digits a b d false false k l e = (refl, omega arith)

same_mask : (n : ℕ) (xs ys : List ℕ) → mask n xs ≡ mask n ys → (i : ℕ) → i < n → list_any (eqb i) xs ≡ list_any (eqb i) ys
same_mask zero xs ys e i l = absurd (omega arith)
same_mask (suc n) xs ys e i l =
    let d = same_digits (mask n xs) (mask n ys) (2 ^ n) (list_any (eqb n) xs) (list_any (eqb n) ys) (mask_below n xs) (mask_below n ys) e in
    ⊎_elim (λ (less : i < n). same_mask n xs ys d.1 i less)
    (λ (more : n ≤ i).
    let at : i ≡ n = omega arith in
    let P : ℕ → Type 0 = λ j. list_any (eqb j) xs ≡ list_any (eqb j) ys in
    subst P (sym at) d.0) (cases_lt i n)

-- lists of numbers below n with the same number have the same members
same_set : (n : ℕ) (xs ys : List ℕ) → All (λ q. q < n) xs → All (λ q. q < n) ys → mask n xs ≡ mask n ys
    → HaveSameMembers xs ys
same_set n xs ys a b e x = (
  λ h. from_test ys x (sym (same_mask n xs ys e x (All-contains (λ q. q < n) xs x a h)) ∙ to_test xs x h),
  λ h. from_test xs x (same_mask n xs ys e x (All-contains (λ q. q < n) ys x b h) ∙ to_test ys x h),
)

module _ (t : Graph) (sets : List (List ℕ)) (entries : List (List ℕ × ℕ)) (h : AreNumbered t sets entries) where
  abbrev mask_at : ℕ → ℕ
  mask_at n = ⊎_elim (λ (l : n < length sets). mask t.count (h.some n l).0) (λ (more : length sets ≤ n). 0) (cases_lt n (length sets))

  masked : (n : ℕ) → n < length sets → (kernel : List ℕ) × HasKernel entries n kernel × (mask_at n ≡ mask t.count kernel)
  masked n l = of (cases_lt n (length sets))
    where
      of : (c : (n < length sets) ⊎ (length sets ≤ n)) → (kernel : List ℕ) × HasKernel entries n kernel
          × (⊎_elim (λ (l : n < length sets). mask t.count (h.some n l).0) (λ (more : length sets ≤ n). 0) c ≡ mask t.count kernel)
      of (inl m) = ((h.some n m).0, (h.some n m).1, refl)
      of (inr m) = absurd (omega arith)

  abbrev masks : List ℕ
  masks = map mask_at (range_with_len 0 (length sets))

  mask_of : (i d : ℕ) → i < length sets → get_or masks i d ≡ mask_at i
  mask_of i d l = get_or-map-range_with_len mask_at 0 (length sets) i i d l (omega arith)

  masks_apart : (i j : ℕ) → i < j → j < length sets → mask_at i ≡ mask_at j → ⊥
  masks_apart i j order l e =
      let a = masked i (omega arith) in
      let b = masked j l in
      let same = same_set t.count a.0 b.0 (h.inside i a.0 a.1) (h.inside j b.0 b.1) (sym a.2 ∙ e ∙ b.2) in
      let moved : HasKernel entries i b.0 = (a.1.0, a.1.1, HaveSameMembers-trans a.1.0 a.0 b.0 a.1.2 same) in
      omega (arith, h.apart i j b.0 moved b.1)

  -- there are no more states than sets of states of the other automaton
  pub states_at_most : length sets ≤ 2 ^ t.count
  states_at_most =
      let size = length-map-range_with_len mask_at 0 (length sets) in
      let below : All (λ q. q < 2 ^ t.count) masks =
      All-from_get_or (λ q. q < 2 ^ t.count) masks 0
      (λ i l.
      let within : i < length sets = omega (arith, size) in
      let m = masked i within in
      omega (arith, mask_of i 0 within, m.2, mask_below t.count m.0)) in
      let few = length-le_from_distinct_below masks (2 ^ t.count)
      (IsDistinct-from_apart eqb masks (λ i j d order l.
      let within : j < length sets = omega (arith, size) in
      ne_eqb _ _ (λ e. masks_apart i j order within (sym (mask_of i d (omega arith)) ∙ e ∙ mask_of j d within))))
      (λ q e. All-contains (λ q. q < 2 ^ t.count) masks q below (from_test masks q e)) in
      omega (arith, size, few)

-- ---- the kernels by which states are found

-- a state that was made for a kernel is found by its members in order
pub missed_kernel : (es : List (List ℕ × ℕ)) (key : List ℕ) → All (λ (k : List ℕ × ℕ). IsStrictlyIncreasing k.0) es
    → IsStrictlyIncreasing key → ((n : ℕ) → Contains es (key, n) → ⊥)
    → (kernel : List ℕ) (m : ℕ) → HaveSameMembers key kernel → HasKernel es m kernel → ⊥
missed_kernel es key up rises missed kernel m same (k, there, members) =
    let e : k ≡ key = same_ascending k key
    (All-contains (λ (e : List ℕ × ℕ). IsStrictlyIncreasing e.0) es (k, m) up there) rises
    (HaveSameMembers-trans k kernel key members (HaveSameMembers-sym key kernel same)) in
    let P : List ℕ → Type 0 = λ l. Contains es (l, m) in
    missed m (subst P e there)

-- a state's kernel in another order is its kernel
pub HasKernel-along : (es : List (List ℕ × ℕ)) (n : ℕ) (kernel other : List ℕ) → HaveSameMembers kernel other
    → HasKernel es n kernel → HasKernel es n other
HasKernel-along es n kernel other same (k, there, members) = (k, there, HaveSameMembers-trans k kernel other members same)

-- a kernel that was not seen gets the next number
module _ (t : Graph) (sets : List (List ℕ)) (es grown : List (List ℕ × ℕ)) (key set : List ℕ)
    (h : AreNumbered t sets es) (rises : IsStrictlyIncreasing key) (below : All (λ q. q < t.count) key)
    (missed : (n : ℕ) → Contains es (key, n) → ⊥) (closed : IsEpsilonClosure t key set)
    (more : HasOneKernelMore (key, length sets) es grown) where
  pub kernels_kept : (m : ℕ) (kernel : List ℕ) → HasKernel es m kernel → HasKernel grown m kernel
  kernels_kept m kernel (k, there, members) = (k, (more (k, m)).1 (inl there), members)

  pub kernel_new : (kernel : List ℕ) → HaveSameMembers key kernel → HasKernel grown (length sets) kernel
  kernel_new kernel members = (key, (more (key, length sets)).1 (inr refl), members)

  kernel_cases : (m : ℕ) (kernel : List ℕ) → HasKernel grown m kernel
      → ((m ≡ length sets) × HaveSameMembers key kernel) ⊎ HasKernel es m kernel
  kernel_cases m kernel (k, there, members) =
      ⊎_elim (λ old. inr (k, old, members))
      (λ is. inl (
        ap (λ (e : List ℕ × ℕ). e.1) is,
        let P : List ℕ → Type 0 = λ l. HaveSameMembers l kernel in
            subst P (ap (λ (e : List ℕ × ℕ). e.0) is) members,
      ))
      ((more (k, m)).0 there)

  fresh : (kernel : List ℕ) (m : ℕ) → HaveSameMembers key kernel → HasKernel es m kernel → ⊥
  fresh = missed_kernel es key h.ascending rises missed

  pub numbered_more : AreNumbered t (sets ++ set ∷ []) grown
  numbered_more = record {
    some = λ n l. ⊎_elim
        (λ (less : n < length sets). let old = h.some n less in (old.0, kernels_kept n old.0 old.1))
        (λ (more : length sets ≤ n).
        let at : n ≡ length sets = omega (arith, length_push sets set) in
        let P : ℕ → Type 0 = λ m. HasKernel grown m key in
        (key, subst P (sym at) (kernel_new key (λ x. (λ m. m, λ m. m))))) (cases_lt n (length sets));
    one = λ n kernel other a b. ⊎_elim
        (λ new. ⊎_elim (λ last. HaveSameMembers-trans kernel key other (HaveSameMembers-sym key kernel new.1) last.1)
        (λ old. absurd (omega (arith, new.0, (h.closed n other old).0))) (kernel_cases n other b))
        (λ old. ⊎_elim (λ last. absurd (omega (arith, last.0, (h.closed n kernel old).0)))
        (λ both. h.one n kernel other old both) (kernel_cases n other b)) (kernel_cases n kernel a);
    apart = λ m n kernel a b. ⊎_elim
        (λ new. ⊎_elim (λ last. new.0 ∙ sym last.0) (λ old. absurd (fresh kernel n new.1 old)) (kernel_cases n kernel b))
        (λ old. ⊎_elim (λ last. absurd (fresh kernel m last.1 old)) (λ both. h.apart m n kernel old both) (kernel_cases n kernel b))
        (kernel_cases m kernel a);
    inside = λ n kernel a. ⊎_elim
        (λ new. λ i d l. All-contains (λ q. q < t.count) key (get_or kernel i d) below
        ((new.1 (get_or kernel i d)).1 (Contains-get_or kernel i d l)))
        (λ old. h.inside n kernel old) (kernel_cases n kernel a);
    closed = λ n kernel a. ⊎_elim
        (λ new.
        let P : ℕ → Type 0 = λ m. IsEpsilonClosure t kernel (set_at (sets ++ set ∷ []) m) in
        let last : IsEpsilonClosure t kernel set = IsEpsilonClosure-along t key kernel set (λ x. (new.1 x).0)
        (λ x. (new.1 x).1) closed in
        (omega (arith, new.0, length_push sets set), subst P (sym new.0) (rw (set_at-new sets set) last)))
        (λ old.
        let was = h.closed n kernel old in
        (omega (arith, was.0, length_push sets set), rw (set_at-old sets set n was.0) was.1)) (kernel_cases n kernel a);
    ascending = λ i d l.
        let k = get_or grown i d in
        let P : List ℕ × ℕ → Type 0 = λ e. IsStrictlyIncreasing e.0 in
        ⊎_elim (λ old. All-contains P es k h.ascending old) (λ is. subst P (sym is) rises) ((more k).0 (Contains-get_or grown i d l));
  }

-- before the first state no number is given
pub numbered_none : (t : Graph) → AreNumbered t [] []
numbered_none t = record {
  some = λ n l. absurd (omega arith);
  one = λ n kernel other a b. absurd (omega (arith, a.1.1));
  apart = λ m n kernel a b. absurd (omega (arith, a.1.1));
  inside = λ n kernel a. absurd (omega (arith, a.1.1));
  closed = λ n kernel a. absurd (omega (arith, a.1.1));
  ascending = λ k d l. absurd (omega arith);
}
