-- The alphabet classes of some ranges, each between one cut and the next. For the function `remove_overlap`.
use Rattle.std.proofs.Common.{◌≡◌, ℕ, ◌+◌, ◌-◌, ◌<◌, ◌≤◌, ◌⊎◌, List, [], ◌∷◌, ◌++◌, length}
use Rattle.std.proofs.Common.{get_or, Contains, All, AllPairs, inl, inr, ⊎_elim, sym, ◌∙◌, refl, arith}
use Rattle.std.specs.List.Sorted.{IsNonDecreasing}
use Rattle.std.proofs.lemmas.Bool.{cases_lt}
use Rattle.std.proofs.lemmas.List.{get_or_default, get_or_read}
use Rattle.std.proofs.lemmas.List.Elements.{Contains-push, Contains-append_left, Contains-get_or, All-push, All-contains, All-nil}
use Rattle.std.proofs.lemmas.List.Quantifiers.{all_pairs_push}
use Rattle.lalrpop_lexer_nfa.specs.Ranges.{IsCovered, IsBoundary, IsUndivided, IsAlphabetClass, AreAlphabetClasses}
use Rattle.lalrpop_lexer_nfa.specs.declared.test.Test.{Test}

-- the numbers are just the cuts of the ranges, and ascend
pub record AreCuts (ranges : List Test) (cs : List ℕ) : Type 0 where
  pub all : (n : ℕ) → IsBoundary ranges n → Contains cs n
  pub only : (n : ℕ) → Contains cs n → IsBoundary ranges n
  pub ascending : IsNonDecreasing cs

-- two cuts with none between
pub record IsGap (ranges : List Test) (low high : ℕ) : Type 0 where
  pub order : low < high
  pub none : (n : ℕ) → low < n → n < high → IsBoundary ranges n → ⊥
  pub low_cut : IsBoundary ranges low
  pub high_cut : IsBoundary ranges high

at_zero : (cs : List ℕ) (n : ℕ) (h : Contains cs n) → get_or cs h.0 0 ≡ n
at_zero cs n h = get_or_default cs h.0 0 n h.1 ∙ h.2

-- a cut is no less than the first and no greater than the last
least_cut : (cs : List ℕ) (n : ℕ) → IsNonDecreasing cs → Contains cs n → get_or cs 0 0 ≤ n
least_cut cs n up h = let order = up 0 h.0 0 (omega arith) h.1 in omega (arith, at_zero cs n h)

last_cut : (cs : List ℕ) (n i : ℕ) → IsNonDecreasing cs → (0 < length cs → i ≡ length cs) → Contains cs n
    → n ≤ get_or cs (i - 1) 0
last_cut cs n i up ends h =
    let e : i ≡ length cs = ends (omega (arith, h.1)) in
    let order = up h.0 (i - 1) 0 (omega (arith, h.1)) (omega (arith, h.1)) in
    omega (arith, at_zero cs n h)

pub neighbours : (ranges : List Test) (cs : List ℕ) (i : ℕ) → AreCuts ranges cs → 0 < i → i < length cs →
    get_or cs (i - 1) 0 < get_or cs i 0 → IsGap ranges (get_or cs (i - 1) 0) (get_or cs i 0)
neighbours ranges cs i cuts some within order = record {
  order = order;
  none = λ n above below cut.
      let there = cuts.all n cut in
      let at = at_zero cs n there in
      ⊎_elim
      (λ (before : there.0 < i). let up = cuts.ascending there.0 (i - 1) 0 (omega arith) (omega arith) in omega arith)
      (λ (after : i ≤ there.0). let up = cuts.ascending i there.0 0 after there.1 in omega arith)
      (cases_lt there.0 i);
  low_cut = cuts.only _ (Contains-get_or cs (i - 1) 0 (omega arith));
  high_cut = cuts.only _ (Contains-get_or cs i 0 within);
}

pub gap_undivided : (ranges : List Test) (low high end : ℕ) → IsGap ranges low high → end + 1 ≡ high → IsUndivided ranges low end
gap_undivided ranges low high end gap e t among m n am bm an bn h = (
  ⊎_elim (λ (ok : t.start ≤ low). omega arith)
      (λ (inside : low < t.start). absurd (gap.none t.start inside (omega arith) (t, among, omega arith, inl refl)))
      (flip (cases_lt low t.start)),
  ⊎_elim (λ (inside : t.end + 1 < high). absurd (gap.none (t.end + 1) (omega arith) inside (t, among, omega arith, inr refl)))
      (λ (ok : high ≤ t.end + 1). omega arith)
      (cases_lt (t.end + 1) high),
)
  where
    flip : {A B : Type 0} → A ⊎ B → B ⊎ A
    flip s = ⊎_elim inr inl s

-- the numbers on both sides of a cut aren't both in an undivided range
cut_divides : (ranges : List Test) (start end cut : ℕ) → IsUndivided ranges start end → IsBoundary ranges cut → start < cut
    → cut ≤ end → ⊥
cut_divides ranges start end cut whole (t, among, some, at) below above =
    ⊎_elim
    (λ (e : cut ≡ t.start). let held =
    whole t among cut (cut - 1) (omega arith) above (omega arith) (omega arith) (omega arith, omega arith) in omega arith)
    (λ (e : cut ≡ t.end + 1). let held =
    whole t among (cut - 1) cut (omega arith) (omega arith) (omega arith) above (omega arith, omega arith) in omega arith)
    at

pub gap_piece : (ranges : List Test) (low high : ℕ) (p : Test) → IsGap ranges low high → IsCovered ranges low →
    p.start ≡ low → p.end + 1 ≡ high → IsAlphabetClass ranges p
gap_piece ranges low high p gap covered s e = record {
  nonempty = omega (arith, gap.order);
  covered = rw s covered;
  undivided = rw s (gap_undivided ranges low high p.end gap e);
  greatest = λ start end above below whole. (
    ⊎_elim (λ (less : start < p.start). absurd
        (cut_divides ranges start end low whole gap.low_cut (omega arith) (omega (arith, gap.order))))
        (λ (ge : p.start ≤ start). omega arith) (cases_lt start p.start),
    ⊎_elim (λ (more : p.end < end). absurd
        (cut_divides ranges start end high whole gap.high_cut (omega (arith, gap.order)) (omega arith)))
        (λ (le : end ≤ p.end). omega arith) (cases_lt p.end end),
  );
}

-- the alphabet classes of what lies below the bound
pub record Splits (ranges pieces : List Test) (bound : ℕ) : Type 0 where
  pub each : All (IsAlphabetClass ranges) pieces
  pub ascending : AllPairs (λ p q. p.end < q.start) pieces
  pub below : All (λ p. p.end < bound) pieces
  pub all : (n : ℕ) → n < bound → IsCovered ranges n → IsCovered pieces n

more_covered : (pieces : List Test) (p : Test) (n : ℕ) → IsCovered pieces n → IsCovered (pieces ++ p ∷ []) n
more_covered pieces p n h = (h.0, Contains-append_left pieces (p ∷ []) h.0 h.1, h.2)

-- below the first cut no number is covered
pub split_start : (ranges : List Test) (cs : List ℕ) → AreCuts ranges cs → Splits ranges [] (get_or cs 0 0)
split_start ranges cs cuts = record {
  each = All-nil _;
  ascending = λ i j d order within. absurd (omega arith);
  below = All-nil _;
  all = λ n below covered.
      absurd (let least = least_cut cs covered.0.start cuts.ascending
      (cuts.all covered.0.start (covered.0, covered.1, omega (arith, covered.2.0, covered.2.1), inl refl)) in
      omega (arith, covered.2.0));
}

pub split_push : (ranges pieces : List Test) (low high : ℕ) (p : Test) → IsGap ranges low high → IsCovered ranges low →
    p.start ≡ low → p.end + 1 ≡ high → Splits ranges pieces low → Splits ranges (pieces ++ p ∷ []) high
split_push ranges pieces low high p gap covered s e before = record {
  each = All-push (IsAlphabetClass ranges) pieces p before.each (gap_piece ranges low high p gap covered s e);
  ascending = all_pairs_push (λ a b. a.end < b.start) pieces p before.ascending (λ k d h. omega (arith, before.below k d h));
  below = All-push (λ q. q.end < high) pieces p (λ k d h. omega (arith, before.below k d h, gap.order)) (omega arith);
  all = λ n below here.
      ⊎_elim (λ (old : n < low). more_covered pieces p n (before.all n old here))
      (λ (new : low ≤ n). (p, Contains-push pieces p, (omega arith, omega arith)))
      (cases_lt n low);
}

pub split_skip : (ranges pieces : List Test) (low high : ℕ) → IsGap ranges low high → (IsCovered ranges low → ⊥) →
    Splits ranges pieces low → Splits ranges pieces high
split_skip ranges pieces low high gap bare before = record {
  each = before.each;
  ascending = before.ascending;
  below = λ k d h. omega (arith, before.below k d h, gap.order);
  all = λ n below here.
      ⊎_elim (λ (old : n < low). before.all n old here)
      (λ (new : low ≤ n). absurd
      (bare (
        here.0,
        here.1,
        gap_undivided ranges low high (high - 1) gap (omega (arith, gap.order)) here.0 here.1 n low new
            (omega arith) (omega arith) (omega (arith, gap.order)) here.2,
      )))
      (cases_lt n low);
}

-- once all cuts are passed, the ranges are split
pub split_end : (ranges pieces : List Test) (cs : List ℕ) (i : ℕ) → AreCuts ranges cs → (0 < length cs → i ≡ length cs) →
    Splits ranges pieces (get_or cs (i - 1) 0) → AreAlphabetClasses ranges pieces
split_end ranges pieces cs i cuts e before = record {
  each = before.each;
  ascending = before.ascending;
  all = λ n here.
      let last = last_cut cs (here.0.end + 1) i cuts.ascending e
      (cuts.all (here.0.end + 1) (here.0, here.1, omega (arith, here.2.0, here.2.1), inr refl)) in
      before.all n (omega (arith, here.2.1)) here;
  only = λ n here.
      let piece = All-contains (IsAlphabetClass ranges) pieces here.0 before.each here.1 in (
        piece.covered.0,
        piece.covered.1,
        piece.undivided piece.covered.0 piece.covered.1 here.0.start n (omega arith) piece.nonempty here.2.0 here.2.1 piece.covered.2,
      );
}

-- one turn of the loop
module _ (ranges pieces : List Test) (cs : List ℕ) (i low high : ℕ) (cuts : AreCuts ranges cs) (some : 1 ≤ i) (within : i < length cs)
    (is_low : low ≡ get_or cs (i - 1) low) (is_high : high ≡ get_or cs i high)
    (before : Splits ranges pieces (get_or cs (i - 1) 0)) where
  here : get_or cs (i + 1 - 1) 0 ≡ high
  here = let e : i + 1 - 1 ≡ i = omega arith in rw e (sym (get_or_read cs i high within is_high 0))

  there : low ≡ get_or cs (i - 1) 0
  there = get_or_read cs (i - 1) low (omega arith) is_low 0

  gap : low < high → IsGap ranges low high
  gap order =
      rw (there, get_or_read cs i high within is_high 0)
      (neighbours ranges cs i cuts (omega arith) within (rw (← there, ← get_or_read cs i high within is_high 0) order))

  -- between two cuts lie covered numbers: one more range
  pub turn_push : (p : Test) → low < high → IsCovered ranges low → p.start ≡ low → p.end + 1 ≡ high →
      Splits ranges (pieces ++ p ∷ []) (get_or cs (i + 1 - 1) 0)
  turn_push p order covered s e = rw here (split_push ranges pieces low high p (gap order) covered s e (rw there before))

  -- between two cuts lie numbers that no range covers: none more
  pub turn_skip : low < high → (IsCovered ranges low → ⊥) → Splits ranges pieces (get_or cs (i + 1 - 1) 0)
  turn_skip order bare = rw here (split_skip ranges pieces low high (gap order) bare (rw there before))

  -- the same cut twice: none more
  pub turn_same : high ≤ low → Splits ranges pieces (get_or cs (i + 1 - 1) 0)
  turn_same order =
      let up = cuts.ascending (i - 1) i 0 (omega arith) within in
      let e : high ≡ low = omega (arith, there, get_or_read cs i high within is_high 0) in
      rw (here, e, there) before
