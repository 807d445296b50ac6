-- Walks over two lists of ranges at once: what both have, and what one of them lacks; for common.
use Rattle.std.proofs.Common.{◌≡◌, ℕ, suc, ◌+◌, ◌<◌, ◌≤◌, Bool, true, false, cond, ◌||◌, ◌&&◌, List, [], ◌∷◌, ◌++◌}
use Rattle.std.proofs.Common.{length, max, min, nat_lt, refl, sym, ap, ◌∙◌, subst, arith, ◌⊎◌, inl, inr, IsTrue, IsFalse, Option, Some, None}
use Rattle.std.proofs.lemmas.Bool.{cases_lt}
use Rattle.std.proofs.lemmas.Bool.Decides.{nat_tests}
use Rattle.std.specs.Option.{MatchOption, is_some}
use Rattle.lalrpop_sets.specs.Ranges.{RangesFrom, covers, is_covered, left_behind, numbers_in_ranges, range_of}
use Rattle.lalrpop_sets.specs.RangeWalks.{IsBothPassed, IsCommonFirst, IsOnePassed, from_head}
use Rattle.lalrpop_sets.specs.declared.token_range.TokenRange.{TokenRange}
use Rattle.lalrpop_sets.proofs.JoinedLemmas.{end_of, end_push, ranges_push}
use Rattle.lalrpop_sets.proofs.OrderLemmas.{left_none, left_shorter, numbers_fewer}
use Rattle.lalrpop_sets.proofs.RangeEditLemmas.{covered_append, left_covered, left_ranges}
use Rattle.lalrpop_sets.proofs.RangeLemmas.{and_false, covered_from, covers_above, covers_below, covers_cases, covers_within, lacks_below, or_assoc, or_false, ranges_weaken}

both_true : (a b : Bool) → (a && b) ≡ true → (a ≡ true) × (b ≡ true)
both_true true b e = (refl, e)
both_true false b e = let z : ⊥ = cc in absurd z

-- two walks, where nothing that both have was passed
pub record CommonTo (ps qs ps' qs' : List TokenRange) : Type 0 where
  pub one : RangesFrom 1 0 ps'
  pub other : RangesFrom 1 0 qs'
  pub same : (k : ℕ) → (is_covered ps k && is_covered qs k) ≡ (is_covered ps' k && is_covered qs' k)
  pub fewer : length ps' + length qs' ≤ length ps + length qs

pub common_start : (ps qs : List TokenRange) → RangesFrom 1 0 ps → RangesFrom 1 0 qs → CommonTo ps qs ps qs
common_start ps qs h g = record { one = h; other = g; same = λ k. refl; fewer = omega arith }

-- a range that ends before the others begin
module _ (r s : TokenRange) (rs ss : List TokenRange) (l : r.last < s.first) (h : RangesFrom 1 0 (s ∷ ss)) where
  lacks_first : (k : ℕ) → k < s.first → is_covered (s ∷ ss) k ≡ false
  lacks_first k m = lacks_below 1 s.first (s ∷ ss) k (omega arith, h.1, h.2) m

  nothing_passed : (k : ℕ) → (covers r k ≡ false) ⊎ (is_covered (s ∷ ss) k ≡ false)
  nothing_passed k = go (covers_cases r k)
    where
      go : ((r.first ≤ k) × (k ≤ r.last)) ⊎ ((k < r.first) ⊎ (r.last < k)) → (covers r k ≡ false) ⊎ (is_covered (s ∷ ss) k ≡ false)
      go (inl c) = let y : k ≤ r.last = c.1 in inr (lacks_first k (omega arith))
      go (inr (inl c)) = inl (covers_below r k c)
      go (inr (inr c)) = inl (covers_above r k c)

  pub pass_one : (k : ℕ) → (is_covered (r ∷ rs) k && is_covered (s ∷ ss) k) ≡ (is_covered rs k && is_covered (s ∷ ss) k)
  pass_one k = go (nothing_passed k)
    where
      go : (covers r k ≡ false) ⊎ (is_covered (s ∷ ss) k ≡ false)
          → (is_covered (r ∷ rs) k && is_covered (s ∷ ss) k) ≡ (is_covered rs k && is_covered (s ∷ ss) k)
      go (inl e) = ap (λ b. (b || is_covered rs k) && is_covered (s ∷ ss) k) e
      go (inr e) =
          ap (λ b. is_covered (r ∷ rs) k && b) e ∙ and_false (is_covered (r ∷ rs) k)
          ∙ sym (ap (λ b. is_covered rs k && b) e ∙ and_false (is_covered rs k))

  pub pass_other : (k : ℕ) → (is_covered (s ∷ ss) k && is_covered (r ∷ rs) k) ≡ (is_covered (s ∷ ss) k && is_covered rs k)
  pass_other k = go (nothing_passed k)
    where
      go : (covers r k ≡ false) ⊎ (is_covered (s ∷ ss) k ≡ false)
          → (is_covered (s ∷ ss) k && is_covered (r ∷ rs) k) ≡ (is_covered (s ∷ ss) k && is_covered rs k)
      go (inl e) = ap (λ b. is_covered (s ∷ ss) k && (b || is_covered rs k)) e
      go (inr e) = ap (λ b. b && is_covered (r ∷ rs) k) e ∙ sym (ap (λ b. b && is_covered rs k) e)

module _ (ps qs : List TokenRange) (r s : TokenRange) (rs ss : List TokenRange) (c : CommonTo ps qs (r ∷ rs) (s ∷ ss)) where
  pub common_one : r.last < s.first → CommonTo ps qs rs (s ∷ ss)
  common_one l = record {
    one = ranges_weaken 1 (r.last + 1) 0 rs (omega arith) c.one.2;
    other = c.other;
    same = λ k. c.same k ∙ pass_one r s rs ss l c.other k;
    fewer = (let f = c.fewer in omega (arith, f));
  }

  pub common_other : s.last < r.first → CommonTo ps qs (r ∷ rs) ss
  common_other l = record {
    one = c.one;
    other = ranges_weaken 1 (s.last + 1) 0 ss (omega arith) c.other.2;
    same = λ k. c.same k ∙ pass_other s r ss rs l c.one k;
    fewer = (let f = c.fewer in omega (arith, f));
  }

-- what is in both up to the smaller last, and what is left
module _ (r s v : TokenRange) (rs ss : List TokenRange) (h : RangesFrom 1 0 (r ∷ rs)) (g : RangesFrom 1 0 (s ∷ ss)) (a : s.first ≤ r.last) (b : r.first ≤ s.last) (f : v.first ≡ max r.first s.first) (l : v.last ≡ min r.last s.last) where
  in-one : v.last ≤ r.last
  in-one = omega (arith, l)

  in-other : v.last ≤ s.last
  in-other = omega (arith, l)

  ordered : v.first ≤ v.last
  ordered = let x : r.first ≤ r.last = h.1 in let y : s.first ≤ s.last = g.1 in omega (arith, x, y, a, b, f, l)

  from-one : r.first ≤ v.last
  from-one = let x : r.first ≤ r.last = h.1 in omega (arith, x, b, l)

  from-other : s.first ≤ v.last
  from-other = let y : s.first ≤ s.last = g.1 in omega (arith, y, a, l)

  left-one : RangesFrom 1 (v.last + 1) (left_behind v.last r rs)
  left-one = left_ranges 1 v.last r rs (omega arith) in-one h.2

  left-other : RangesFrom 1 (v.last + 1) (left_behind v.last s ss)
  left-other = left_ranges 1 v.last s ss (omega arith) in-other g.2

  up-to : (k : ℕ) → k ≤ v.last → (covers (range_of r.first v.last) k && covers (range_of s.first v.last) k) ≡ covers v k
  up-to k m = go (cases_lt k r.first) (cases_lt k s.first)
    where
      go : (k < r.first) ⊎ (r.first ≤ k) → (k < s.first) ⊎ (s.first ≤ k)
          → (covers (range_of r.first v.last) k && covers (range_of s.first v.last) k) ≡ covers v k
      go (inl x) y =
          ap (λ t. t && covers (range_of s.first v.last) k) (covers_below (range_of r.first v.last) k x) ∙ sym (covers_below v k (omega (arith, f, x)))
      go (inr x) (inl y) =
          ap (λ t. covers (range_of r.first v.last) k && t) (covers_below (range_of s.first v.last) k y)
          ∙ and_false (covers (range_of r.first v.last) k) ∙ sym (covers_below v k (omega (arith, f, y)))
      go (inr x) (inr y) =
          ap (λ t. t && covers (range_of s.first v.last) k) (covers_within (range_of r.first v.last) k x m)
          ∙ covers_within (range_of s.first v.last) k y m ∙ sym (covers_within v k (omega (arith, f, x, y)) m)

  parted_same : (k : ℕ) → (is_covered (r ∷ rs) k && is_covered (s ∷ ss) k)
      ≡ (covers v k || (is_covered (left_behind v.last r rs) k && is_covered (left_behind v.last s ss) k))
  parted_same k =
      ap (λ t. t && is_covered (s ∷ ss) k) (left_covered v.last r rs k from-one in-one)
      ∙ ap (λ t. (covers (range_of r.first v.last) k || is_covered (left_behind v.last r rs) k) && t) (left_covered v.last s ss k from-other in-other)
      ∙ go (cases_lt v.last k)
    where
      go : (v.last < k) ⊎ (k ≤ v.last)
          → ((covers (range_of r.first v.last) k || is_covered (left_behind v.last r rs) k)
          && (covers (range_of s.first v.last) k || is_covered (left_behind v.last s ss) k))
          ≡ (covers v k || (is_covered (left_behind v.last r rs) k && is_covered (left_behind v.last s ss) k))
      go (inl x) =
          ap (λ t. (t || is_covered (left_behind v.last r rs) k) && (covers (range_of s.first v.last) k || is_covered (left_behind v.last s ss) k))
          (covers_above (range_of r.first v.last) k x)
          ∙ ap (λ t. is_covered (left_behind v.last r rs) k && (t || is_covered (left_behind v.last s ss) k)) (covers_above (range_of s.first v.last) k x)
          ∙ sym (ap (λ t. t || (is_covered (left_behind v.last r rs) k && is_covered (left_behind v.last s ss) k)) (covers_above v k x))
      go (inr x) =
          let p : is_covered (left_behind v.last r rs) k ≡ false = lacks_below 1 (v.last + 1) (left_behind v.last r rs) k left-one (omega arith) in
          let q : is_covered (left_behind v.last s ss) k ≡ false = lacks_below 1 (v.last + 1) (left_behind v.last s ss) k left-other (omega arith) in
          ap (λ t. (covers (range_of r.first v.last) k || t) && (covers (range_of s.first v.last) k || is_covered (left_behind v.last s ss) k)) p
          ∙ ap (λ t. t && (covers (range_of s.first v.last) k || is_covered (left_behind v.last s ss) k)) (or_false (covers (range_of r.first v.last) k))
          ∙ ap (λ t. covers (range_of r.first v.last) k && (covers (range_of s.first v.last) k || t)) q
          ∙ ap (λ t. covers (range_of r.first v.last) k && t) (or_false (covers (range_of s.first v.last) k)) ∙ up-to k x
          ∙ sym (ap (λ t. covers v k || (t && is_covered (left_behind v.last s ss) k)) p ∙ or_false (covers v k))

  one-fewer : length (left_behind v.last r rs) + length (left_behind v.last s ss) < suc (length rs) + suc (length ss)
  one-fewer = go (cases_lt s.last r.last)
    where
      go : (s.last < r.last) ⊎ (r.last ≤ s.last) → length (left_behind v.last r rs) + length (left_behind v.last s ss) < suc (length rs) + suc (length ss)
      go (inl x) = let p = left_shorter v.last r rs in let q = ap length (left_none v.last s ss (omega (arith, l, x))) in omega (arith, p, q)
      go (inr x) = let p = ap length (left_none v.last r rs (omega (arith, l, x))) in let q = left_shorter v.last s ss in omega (arith, p, q)

  both_passed : (ps qs ps' qs' : List TokenRange) → CommonTo ps qs (r ∷ rs) (s ∷ ss) → ps' ≡ left_behind v.last r rs
      → qs' ≡ left_behind v.last s ss → IsCommonFirst ps qs v ps' qs'
  both_passed ps qs ps' qs' c e d =
      subst (λ x. IsCommonFirst ps qs v x qs') (sym e)
      (subst (λ y. IsCommonFirst ps qs v (left_behind v.last r rs) y) (sym d) (record {
        ordered = ordered;
        one = left-one;
        other = left-other;
        same = λ k. c.same k ∙ parted_same k;
        fewer = (let f = c.fewer in let g = one-fewer in omega (arith, f, g));
      }))

-- a step of two walks: one range is passed, or what both have is found
module _ (ps qs ps' qs' : List TokenRange) (c : CommonTo ps qs ps' qs') (r s : TokenRange) (rs ss ps'' qs'' : List TokenRange) (e : ps' ≡ r ∷ rs) (d : qs' ≡ s ∷ ss) where
  at : CommonTo ps qs (r ∷ rs) (s ∷ ss)
  at = subst (λ x. CommonTo ps qs x (s ∷ ss)) e (subst (CommonTo ps qs ps') d c)

  pub common_found : (o : Option TokenRange)
      → MatchOption o (IsOnePassed r s ps' rs qs' ss ps'' qs'') (λ v. IsBothPassed r s v rs ss ps'' qs'') → is_some o ≡ true
      → MatchOption o ((k : ℕ) → (is_covered ps k && is_covered qs k) ≡ false) (λ v. IsCommonFirst ps qs v ps'' qs'')
  common_found None m t = let z : ⊥ = cc in absurd z
  common_found (Some v) m t =
      both_passed r s v rs ss at.one at.other m.meets m.met m.first m.last ps qs ps'' qs'' at m.one m.other

  pub common_passed : (o : Option TokenRange)
      → MatchOption o (IsOnePassed r s ps' rs qs' ss ps'' qs'') (λ v. IsBothPassed r s v rs ss ps'' qs'') → is_some o ≡ false
      → CommonTo ps qs ps'' qs'' × (length ps'' + length qs'' < length ps' + length qs')
  common_passed (Some v) m t = let z : ⊥ = cc in absurd z
  common_passed None m t = go m
    where
      go : IsOnePassed r s ps' rs qs' ss ps'' qs'' → CommonTo ps qs ps'' qs'' × (length ps'' + length qs'' < length ps' + length qs')
      go (inl h) =
          let x : ps'' ≡ rs = h.1 in
          let y : qs'' ≡ s ∷ ss = h.2 ∙ d in (
            subst (λ l. CommonTo ps qs l qs'') (sym x) (subst (CommonTo ps qs rs) (sym y) (common_one ps qs r s rs ss at h.0)),
            (let a = ap length x in let b = ap length y in let p = ap length e in let q = ap length d in omega (arith, a, b, p, q)),
          )
      go (inr h) =
          let x : ps'' ≡ r ∷ rs = h.1 ∙ e in
          let y : qs'' ≡ ss = h.2 in (
            subst (λ l. CommonTo ps qs l qs'') (sym x) (subst (CommonTo ps qs (r ∷ rs)) (sym y) (common_other ps qs r s rs ss at h.0)),
            (let a = ap length x in let b = ap length y in let p = ap length e in let q = ap length d in omega (arith, a, b, p, q)),
          )

-- one walk has come to its end
pub common_none : (ps qs ps' qs' : List TokenRange) → CommonTo ps qs ps' qs' → (ps' ≡ []) ⊎ (qs' ≡ []) → (k : ℕ)
    → (is_covered ps k && is_covered qs k) ≡ false
common_none ps qs ps' qs' c (inl e) k = c.same k ∙ ap (λ l. is_covered l k && is_covered qs' k) e
common_none ps qs ps' qs' c (inr e) k = c.same k ∙ ap (λ l. is_covered ps' k && is_covered l k) e ∙ and_false (is_covered ps' k)

common_here : (ps qs : List TokenRange) (v : TokenRange) (ps' qs' : List TokenRange) → IsCommonFirst ps qs v ps' qs'
    → (is_covered ps v.first ≡ true) × (is_covered qs v.first ≡ true)
common_here ps qs v ps' qs' c =
    both_true (is_covered ps v.first) (is_covered qs v.first)
    (c.same v.first ∙ ap (λ b. b || (is_covered ps' v.first && is_covered qs' v.first)) (covers_within v v.first (omega arith) c.ordered))

-- whether there is a range that both have says whether they meet
module _ (ps qs ps' qs' : List TokenRange) where
  pub meets_yes : (o : Option TokenRange)
      → MatchOption o ((k : ℕ) → (is_covered ps k && is_covered qs k) ≡ false) (λ v. IsCommonFirst ps qs v ps' qs')
      → IsTrue (is_some o) → (k : ℕ) × (is_covered ps k ≡ true) × (is_covered qs k ≡ true)
  meets_yes None m e = let z : ⊥ = cc in absurd z
  meets_yes (Some v) m e = let h = common_here ps qs v ps' qs' m in (v.first, h.0, h.1)

  pub meets_no : (o : Option TokenRange)
      → MatchOption o ((k : ℕ) → (is_covered ps k && is_covered qs k) ≡ false) (λ v. IsCommonFirst ps qs v ps' qs')
      → IsFalse (is_some o) → (k : ℕ) → (is_covered ps k && is_covered qs k) ≡ false
  meets_no None m e = m
  meets_no (Some v) m e = let z : ⊥ = cc in absurd z

-- the list of what both have, in the making
pub record ListedTo (ps qs list ps' qs' : List TokenRange) : Type 0 where
  pub covered : (k : ℕ) → (is_covered list k || (is_covered ps' k && is_covered qs' k)) ≡ (is_covered ps k && is_covered qs k)
  pub ordered : RangesFrom 1 0 list
  pub one : RangesFrom 1 (end_of 1 0 list) ps'
  pub other : RangesFrom 1 (end_of 1 0 list) qs'

pub listed_start : (ps qs : List TokenRange) → RangesFrom 1 0 ps → RangesFrom 1 0 qs → ListedTo ps qs [] ps qs
listed_start ps qs h g = record { covered = λ k. refl; ordered = tt; one = h; other = g }

module _ (ps qs list ps' qs' : List TokenRange) (j : ListedTo ps qs list ps' qs') where
  pub listed_one : RangesFrom 1 0 ps'
  listed_one = ranges_weaken 1 (end_of 1 0 list) 0 ps' (omega arith) j.one

  pub listed_other : RangesFrom 1 0 qs'
  listed_other = ranges_weaken 1 (end_of 1 0 list) 0 qs' (omega arith) j.other

  pub listed_more : (v : TokenRange) (ps'' qs'' : List TokenRange) → IsCommonFirst ps' qs' v ps'' qs'' → ListedTo ps qs (list ++ v ∷ []) ps'' qs''
  listed_more v ps'' qs'' c =
      let from : end_of 1 0 list ≤ v.first = covered_from 1 (end_of 1 0 list) ps' v.first j.one (common_here ps' qs' v ps'' qs'' c).0 in
      let e : end_of 1 0 (list ++ v ∷ []) ≡ v.last + 1 = end_push 1 0 list v in
      record {
        covered = λ k. ap (λ b. b || (is_covered ps'' k && is_covered qs'' k)) (covered_append list (v ∷ []) k
            ∙ ap (λ b. is_covered list k || b) (or_false (covers v k)))
            ∙ or_assoc (is_covered list k) (covers v k) (is_covered ps'' k && is_covered qs'' k)
            ∙ ap (λ b. is_covered list k || b) (sym (c.same k)) ∙ j.covered k;
        ordered = ranges_push 1 0 list v j.ordered from c.ordered;
        one = subst (λ n. RangesFrom 1 n ps'') (sym e) c.one;
        other = subst (λ n. RangesFrom 1 n qs'') (sym e) c.other;
      }

  pub listed_end : ((k : ℕ) → (is_covered ps' k && is_covered qs' k) ≡ false) → (k : ℕ) → is_covered list k ≡ (is_covered ps k && is_covered qs k)
  listed_end e k = sym (ap (λ b. is_covered list k || b) (e k) ∙ or_false (is_covered list k)) ∙ j.covered k

-- what the second walk has passed is in the first
pub record MissingTo (ps qs ps' qs' : List TokenRange) : Type 0 where
  pub one : RangesFrom 1 0 ps'
  pub other : RangesFrom 1 0 qs'
  pub had : (k : ℕ) → is_covered qs k ≡ true → (is_covered ps k ≡ true) ⊎ (is_covered qs' k ≡ true)
  pub part : (k : ℕ) → is_covered qs' k ≡ true → is_covered qs k ≡ true
  pub kept : (k : ℕ) → is_covered qs' k ≡ true → is_covered ps' k ≡ is_covered ps k

pub missing_start : (ps qs : List TokenRange) → RangesFrom 1 0 ps → RangesFrom 1 0 qs → MissingTo ps qs ps qs
missing_start ps qs h g = record { one = h; other = g; had = λ k e. inr e; part = λ k e. e; kept = λ k e. refl }

pub missing_none : (ps qs ps' qs' : List TokenRange) → MissingTo ps qs ps' qs' → qs' ≡ [] → (k : ℕ) → is_covered qs k ≡ true → is_covered ps k ≡ true
missing_none ps qs ps' qs' m e k h = go (m.had k h)
  where
    go : (is_covered ps k ≡ true) ⊎ (is_covered qs' k ≡ true) → is_covered ps k ≡ true
    go (inl y) = y
    go (inr y) = let z : ⊥ = let i : false ≡ true = sym (ap (λ l. is_covered l k) e) ∙ y in cc in absurd z

head_has : (w : TokenRange) (ws : List TokenRange) → RangesFrom 1 0 (w ∷ ws) → is_covered (w ∷ ws) w.first ≡ true
head_has w ws h = ap (λ b. b || is_covered ws w.first) (covers_within w w.first (omega arith) h.1)

-- the least number of the second walk is before all of the first
pub missing_found : (ps qs ps' : List TokenRange) (w : TokenRange) (ws : List TokenRange) → MissingTo ps qs ps' (w ∷ ws)
    → is_covered ps' w.first ≡ false → (is_covered qs w.first ≡ true) × (is_covered ps w.first ≡ false)
missing_found ps qs ps' w ws m e =
    let h = head_has w ws m.other in (m.part w.first h, sym (m.kept w.first h) ∙ e)

module _ (ps qs : List TokenRange) (r w : TokenRange) (rs ws : List TokenRange) (m : MissingTo ps qs (r ∷ rs) (w ∷ ws)) where
  -- a range that ends before the least number of the second walk is passed
  pub missing_one : r.last < w.first → MissingTo ps qs rs (w ∷ ws)
  missing_one l = record {
    one = ranges_weaken 1 (r.last + 1) 0 rs (omega arith) m.one.2;
    other = m.other;
    had = m.had;
    part = m.part;
    kept = λ k e.
        let f : w.first ≤ k = covered_from 1 w.first (w ∷ ws) k (omega arith, m.other.1, m.other.2) e in
        sym (ap (λ b. b || is_covered rs k) (covers_above r k (omega arith))) ∙ m.kept k e;
  }

  -- else the numbers up to its last are all there
  pub missing_other : r.first ≤ w.first → w.first ≤ r.last → MissingTo ps qs (r ∷ rs) (left_behind r.last w ws)
  missing_other f l = go (cases_lt r.last w.last)
    where
      inside : (k : ℕ) → w.first ≤ k → k ≤ r.last → is_covered (w ∷ ws) k ≡ true → is_covered ps k ≡ true
      inside k x y e = sym (m.kept k e) ∙ ap (λ b. b || is_covered rs k) (covers_within r k (omega arith) y)

      by_parts : (front : TokenRange) (left : List TokenRange) → w.first ≤ front.first → front.last ≤ r.last → RangesFrom 1 0 left
          → ((k : ℕ) → is_covered (w ∷ ws) k ≡ (covers front k || is_covered left k)) → MissingTo ps qs (r ∷ rs) left
      by_parts front left a b o same = record {
        one = m.one;
        other = o;
        had = λ k e. side k (m.had k e) (covers_cases front k);
        part = λ k e. m.part k (back k e);
        kept = λ k e. m.kept k (back k e);
      }
        where
          or_true : (x y : Bool) → y ≡ true → (x || y) ≡ true
          or_true true y e = refl
          or_true false y e = e

          back : (k : ℕ) → is_covered left k ≡ true → is_covered (w ∷ ws) k ≡ true
          back k e = same k ∙ or_true (covers front k) (is_covered left k) e

          side : (k : ℕ) → (is_covered ps k ≡ true) ⊎ (is_covered (w ∷ ws) k ≡ true)
              → ((front.first ≤ k) × (k ≤ front.last)) ⊎ ((k < front.first) ⊎ (front.last < k)) → (is_covered ps k ≡ true) ⊎ (is_covered left k ≡ true)
          side k (inl y) c = inl y
          side k (inr y) (inl c) = let x : front.first ≤ k = c.0 in let z : k ≤ front.last = c.1 in inl (inside k (omega arith) (omega arith) y)
          side k (inr y) (inr (inl c)) = inr (sym (ap (λ b. b || is_covered left k) (covers_below front k c)) ∙ sym (same k) ∙ y)
          side k (inr y) (inr (inr c)) = inr (sym (ap (λ b. b || is_covered left k) (covers_above front k c)) ∙ sym (same k) ∙ y)

      go : (r.last < w.last) ⊎ (w.last ≤ r.last) → MissingTo ps qs (r ∷ rs) (left_behind r.last w ws)
      go (inl x) =
          by_parts (range_of w.first r.last) (left_behind r.last w ws) (omega arith) (omega arith)
          (ranges_weaken 1 (r.last + 1) 0 (left_behind r.last w ws) (omega arith) (left_ranges 1 r.last w ws (omega arith) (omega arith) m.other.2))
          (λ k. left_covered r.last w ws k l (omega arith))
      go (inr x) =
          subst (MissingTo ps qs (r ∷ rs)) (sym (left_none r.last w ws x))
          (by_parts w ws (omega arith) x (ranges_weaken 1 (w.last + 1) 0 ws (omega arith) m.other.2) (λ k. refl))

-- a step of the two walks
module _ (ps qs ps' qs' : List TokenRange) (m : MissingTo ps qs ps' qs') (r w : TokenRange) (rs ws : List TokenRange) (e : ps' ≡ r ∷ rs) (d : qs' ≡ w ∷ ws) where
  here : MissingTo ps qs (r ∷ rs) (w ∷ ws)
  here = subst (λ l. MissingTo ps qs l (w ∷ ws)) e (subst (MissingTo ps qs ps') d m)

  -- the least number of the second walk is before all of the first
  pub missing_before : w.first < r.first → (is_covered qs w.first ≡ true) × (is_covered ps w.first ≡ false)
  missing_before l =
      missing_found ps qs (r ∷ rs) w ws here (lacks_below 1 r.first (r ∷ rs) w.first (omega arith, here.one.1, here.one.2) l)

  pub missing_step : (ps'' qs'' : List TokenRange) → r.first ≤ w.first → ps'' ≡ cond (nat_lt r.last w.first) rs ps'
      → qs'' ≡ cond (nat_lt r.last w.first) qs' (left_behind r.last w ws)
      → MissingTo ps qs ps'' qs'' × (length ps'' + length (numbers_in_ranges qs'') < length ps' + length (numbers_in_ranges qs'))
  missing_step ps'' qs'' f p q = go (nat_lt r.last w.first) refl p q
    where
      go : (b : Bool) → nat_lt r.last w.first ≡ b → ps'' ≡ cond b rs ps' → qs'' ≡ cond b qs' (left_behind r.last w ws)
          → MissingTo ps qs ps'' qs'' × (length ps'' + length (numbers_in_ranges qs'') < length ps' + length (numbers_in_ranges qs'))
      go true u i j =
          let l : r.last < w.first = grind (arith, nat_tests) in
          let y : qs'' ≡ w ∷ ws = j ∙ d in (
            subst (λ s. MissingTo ps qs s qs'') (sym i) (subst (MissingTo ps qs rs) (sym y) (missing_one ps qs r w rs ws here l)),
            (let a = ap length i in let b = ap (λ s. length (numbers_in_ranges s)) j in let c = ap length e in omega (arith, a, b, c)),
          )
      go false u i j =
          let l : w.first ≤ r.last = grind (arith, nat_tests) in
          let y : ps'' ≡ r ∷ rs = i ∙ e in (
            subst (λ s. MissingTo ps qs s qs'') (sym y)
                (subst (MissingTo ps qs (r ∷ rs)) (sym j) (missing_other ps qs r w rs ws here f l)),
            (let a = ap length i in let b = ap (λ s. length (numbers_in_ranges s)) j in let c = ap (λ s. length (numbers_in_ranges s)) d in
                let n = numbers_fewer r.last w ws (here.other.1) l in omega (arith, a, b, c, n)),
          )

-- the first walk has come to its end, or the second
pub missing_last : (ps qs : List TokenRange) (x y : Option TokenRange) (rs ws : List TokenRange) (w : TokenRange)
    → MissingTo ps qs (from_head x rs) (from_head y ws) → (from_head x rs ≡ []) ⊎ (from_head y ws ≡ []) → y ≡ Some w
    → (is_covered qs w.first ≡ true) × (is_covered ps w.first ≡ false)
missing_last ps qs x y rs ws w m (inl h) e =
    missing_found ps qs (from_head x rs) w ws (subst (λ o. MissingTo ps qs (from_head x rs) (from_head o ws)) e m)
    (ap (λ l. is_covered l w.first) h)
missing_last ps qs x y rs ws w m (inr h) e =
    let z : ⊥ = let i : [] ≡ w ∷ ws = sym h ∙ ap (λ o. from_head o ws) e in cc in absurd z

pub missing_all : (ps qs ps' : List TokenRange) (y : Option TokenRange) (ws : List TokenRange) → MissingTo ps qs ps' (from_head y ws)
    → y ≡ None → (k : ℕ) → is_covered qs k ≡ true → is_covered ps k ≡ true
missing_all ps qs ps' y ws m e = missing_none ps qs ps' (from_head y ws) m (ap (λ o. from_head o ws) e)
