-- Lists of the numbers of ranges: how two of them compare, how many numbers there are, and what they feed a hasher; for order.
use Rattle.std.proofs.Common.{◌≡◌, ℕ, zero, suc, ◌+◌, ◌-◌, ◌<◌, ◌≤◌, Bool, true, false, cond, List, [], ◌∷◌, ◌++◌, eqb, nat_lt}
use Rattle.std.proofs.Common.{length, length-append, min, refl, sym, ap, ◌∙◌, subst, arith, ◌⊎◌, inl, inr, Option, Some, None}
use Rattle.std.proofs.lemmas.Bool.{cases_lt}
use Rattle.std.proofs.lemmas.Bool.Decides.{nat_tests}
use Rattle.std.specs.Cmp.Lexicographic.{slice_cmp}
use Rattle.std.specs.Hash as fed
use Rattle.std.specs.List.{flat_map, range_with_len}
use Rattle.std.specs.Prelude.{fold}
use Rattle.std.specs.Ordering.{nat_cmp, ordering_then}
use Rattle.std.specs.declared.cmp.Ordering.{Ordering}
use Rattle.std.specs.declared.cmp.Ordering.TheVariants.{Less, Equal, Greater}
use Rattle.lalrpop_sets.specs.Ranges.{RangesFrom, left_behind, numbers_in_ranges, range_numbers, range_of}
use Rattle.lalrpop_sets.specs.RangeWalks.{both_of, ended_order, from_head}
use Rattle.lalrpop_sets.specs.declared.token_range.TokenRange.{TokenRange}
use Rattle.lalrpop_sets.proofs.RangeLemmas.{ranges_weaken}
use Rattle.lalrpop_sets.proofs.RangeEditLemmas.{left_ranges}

nat_same : (x : ℕ) → nat_cmp x x ≡ Equal
nat_same x = grind arith

-- the numbers of a range in two parts
pub interval_parts : (a n m : ℕ) → range_with_len a (n + m) ≡ range_with_len a n ++ range_with_len (a + n) m
interval_parts a zero m = ap (range_with_len a) (let z : 0 + m ≡ m = omega arith in z) ∙ ap (λ b. range_with_len b m) (let z : a ≡ a + 0 = omega arith in z)
interval_parts a (suc n) m =
    ap (range_with_len a) (let z : suc n + m ≡ suc (n + m) = omega arith in z)
    ∙ ap (λ l. a ∷ l) (interval_parts (a + 1) n m ∙ ap (λ b. range_with_len (a + 1) n ++ range_with_len b m) (let z : a + 1 + n ≡ a + suc n = omega arith in z))

append_assoc : (xs ys zs : List ℕ) → (xs ++ ys) ++ zs ≡ xs ++ (ys ++ zs)
append_assoc [] ys zs = refl
append_assoc (x ∷ xs) ys zs = ap (λ l. x ∷ l) (append_assoc xs ys zs)

-- the numbers of a range up to one of them, and what is left
pub numbers_behind : (k : ℕ) (r : TokenRange) (rs : List TokenRange) → r.first ≤ k → k ≤ r.last
    → numbers_in_ranges (r ∷ rs) ≡ range_with_len r.first (k - r.first + 1) ++ numbers_in_ranges (left_behind k r rs)
numbers_behind k r rs f l = go (nat_lt k r.last) refl
  where
    go : (b : Bool) → nat_lt k r.last ≡ b
        → range_numbers r ++ numbers_in_ranges rs
        ≡ range_with_len r.first (k - r.first + 1) ++ numbers_in_ranges (cond b (range_of (k + 1) r.last ∷ rs) rs)
    go true e =
        let z : k < r.last = grind (arith, nat_tests) in
        let n : r.last - r.first + 1 ≡ (k - r.first + 1) + (r.last - (k + 1) + 1) = omega arith in
        let m : r.first + (k - r.first + 1) ≡ k + 1 = omega arith in
        ap (λ c. range_with_len r.first c ++ numbers_in_ranges rs) n
        ∙ ap (λ s. s ++ numbers_in_ranges rs) (interval_parts r.first (k - r.first + 1) (r.last - (k + 1) + 1)
        ∙ ap (λ c. range_with_len r.first (k - r.first + 1) ++ range_with_len c (r.last - (k + 1) + 1)) m)
        ∙ append_assoc (range_with_len r.first (k - r.first + 1)) (range_with_len (k + 1) (r.last - (k + 1) + 1)) (numbers_in_ranges rs)
    go false e =
        let z : r.last ≡ k = grind (arith, nat_tests) in
        ap (λ c. range_with_len r.first (c - r.first + 1) ++ numbers_in_ranges rs) z

-- lists that begin alike
same_front : (cs xs ys : List ℕ) → slice_cmp nat_cmp (cs ++ xs) (cs ++ ys) ≡ slice_cmp nat_cmp xs ys
same_front [] xs ys = refl
same_front (c ∷ cs) xs ys = ap (λ o. ordering_then o (slice_cmp nat_cmp (cs ++ xs) (cs ++ ys))) (nat_same c) ∙ same_front cs xs ys

-- ranges that begin with the same number compare by what is behind the numbers that both have
pub order_behind : (k : ℕ) (r s : TokenRange) (rs ss : List TokenRange) → r.first ≡ s.first → r.first ≤ k → k ≤ r.last → k ≤ s.last
    → slice_cmp nat_cmp (numbers_in_ranges (left_behind k r rs)) (numbers_in_ranges (left_behind k s ss))
    ≡ slice_cmp nat_cmp (numbers_in_ranges (r ∷ rs)) (numbers_in_ranges (s ∷ ss))
order_behind k r s rs ss e f l m =
    let front = range_with_len r.first (k - r.first + 1) in
    sym (ap (λ x. slice_cmp nat_cmp x (numbers_in_ranges (s ∷ ss))) (numbers_behind k r rs f l)
    ∙ ap (slice_cmp nat_cmp (front ++ numbers_in_ranges (left_behind k r rs)))
    (numbers_behind k s ss (omega arith) m ∙ ap (λ a. range_with_len a (k - a + 1) ++ numbers_in_ranges (left_behind k s ss)) (sym e))
    ∙ same_front front (numbers_in_ranges (left_behind k r rs)) (numbers_in_ranges (left_behind k s ss)))

equal_is : (x y : ℕ) → nat_cmp x y ≡ Equal → x ≡ y
equal_is x y e = go (nat_lt x y) (eqb x y) refl e
  where
    go : (a b : Bool) → eqb x y ≡ b → cond a Less (cond b Equal Greater) ≡ Equal → x ≡ y
    go true b h e = let z : ⊥ = cc in absurd z
    go false true h e = grind (arith, nat_tests)
    go false false h e = let z : ⊥ = cc in absurd z

-- ranges that begin with different numbers compare as these
first_number : (r : TokenRange) (rs : List TokenRange) → numbers_in_ranges (r ∷ rs) ≡ r.first ∷ (range_with_len (r.first + 1) (r.last - r.first) ++ numbers_in_ranges rs)
first_number r rs = ap (λ n. range_with_len r.first n ++ numbers_in_ranges rs) (let z : r.last - r.first + 1 ≡ suc (r.last - r.first) = omega arith in z)

pub order_first : (r s : TokenRange) (rs ss : List TokenRange) → (r.first ≡ s.first → ⊥)
    → nat_cmp r.first s.first ≡ slice_cmp nat_cmp (numbers_in_ranges (r ∷ rs)) (numbers_in_ranges (s ∷ ss))
order_first r s rs ss n =
    sym (ap (λ x. slice_cmp nat_cmp x (numbers_in_ranges (s ∷ ss))) (first_number r rs)
    ∙ ap (slice_cmp nat_cmp (r.first ∷ more-r)) (first_number s ss) ∙ decided (nat_cmp r.first s.first) (slice_cmp nat_cmp more-r more-s) differ)
  where
    more-r : List ℕ
    more-r = range_with_len (r.first + 1) (r.last - r.first) ++ numbers_in_ranges rs

    more-s : List ℕ
    more-s = range_with_len (s.first + 1) (s.last - s.first) ++ numbers_in_ranges ss

    decided : (o p : Ordering) → (o ≡ Equal → ⊥) → ordering_then o p ≡ o
    decided Less p d = refl
    decided Equal p d = absurd (d refl)
    decided Greater p d = refl

    differ : nat_cmp r.first s.first ≡ Equal → ⊥
    differ e = n (equal_is r.first s.first e)

no_numbers : (r : TokenRange) (rs : List TokenRange) → slice_cmp nat_cmp [] (numbers_in_ranges (r ∷ rs)) ≡ Less
no_numbers r rs = ap (slice_cmp nat_cmp []) (first_number r rs)

more_numbers : (r : TokenRange) (rs : List TokenRange) → slice_cmp nat_cmp (numbers_in_ranges (r ∷ rs)) [] ≡ Greater
more_numbers r rs = ap (λ l. slice_cmp nat_cmp l []) (first_number r rs)

-- the ranges that two walks are at
pub heads_some : (x y : Option TokenRange) (ps qs : List TokenRange) (r s : TokenRange) → Some (r, s) ≡ both_of x y
    → (from_head x ps ≡ r ∷ ps) × (from_head y qs ≡ s ∷ qs)
heads_some None y ps qs r s e = let z : ⊥ = cc in absurd z
heads_some (Some p) None ps qs r s e = let z : ⊥ = cc in absurd z
heads_some (Some p) (Some q) ps qs r s e =
    let i : (r, s) ≡ (p, q) = pair_of (r, s) (p, q) e in
    (ap (λ (h : TokenRange × TokenRange). h.0 ∷ ps) (sym i), ap (λ (h : TokenRange × TokenRange). h.1 ∷ qs) (sym i))
  where
    pair_of : (a b : TokenRange × TokenRange) → Some a ≡ Some b → a ≡ b
    pair_of a b e = cc

pub heads_none : (x y : Option TokenRange) (ps qs : List TokenRange) → None ≡ both_of x y → (from_head x ps ≡ []) ⊎ (from_head y qs ≡ [])
heads_none None y ps qs e = inl refl
heads_none (Some p) None ps qs e = inr refl
heads_none (Some p) (Some q) ps qs e = let z : ⊥ = cc in absurd z

-- a list that has ended comes before one that goes on
pub order_ended : (x y : Option TokenRange) (ps qs : List TokenRange) → (from_head x ps ≡ []) ⊎ (from_head y qs ≡ [])
    → ended_order x y ≡ slice_cmp nat_cmp (numbers_in_ranges (from_head x ps)) (numbers_in_ranges (from_head y qs))
order_ended None None ps qs h = refl
order_ended None (Some s) ps qs h = sym (no_numbers s qs)
order_ended (Some r) None ps qs h = sym (more_numbers r ps)
order_ended (Some r) (Some s) ps qs (inl h) = let z : ⊥ = let i : (r ∷ ps) ≡ [] = h in cc in absurd z
order_ended (Some r) (Some s) ps qs (inr h) = let z : ⊥ = let i : (s ∷ qs) ≡ [] = h in cc in absurd z

-- fewer ranges are left behind a number of the first
pub left_shorter : (k : ℕ) (r : TokenRange) (rs : List TokenRange) → length (left_behind k r rs) ≤ suc (length rs)
left_shorter k r rs = go (nat_lt k r.last)
  where
    go : (b : Bool) → length (cond b (range_of (k + 1) r.last ∷ rs) rs) ≤ suc (length rs)
    go true = omega arith
    go false = omega arith

pub left_none : (k : ℕ) (r : TokenRange) (rs : List TokenRange) → r.last ≤ k → left_behind k r rs ≡ rs
left_none k r rs l = let z : nat_lt k r.last ≡ false = grind (arith, nat_tests) in ap (λ b. cond b (range_of (k + 1) r.last ∷ rs) rs) z

-- how many numbers ranges have
pub counted : (r : TokenRange) (rs : List TokenRange) → length (numbers_in_ranges (r ∷ rs)) ≡ r.last - r.first + 1 + length (numbers_in_ranges rs)
counted r rs = length-append (range_numbers r) (numbers_in_ranges rs) ∙ ap (λ n. n + length (numbers_in_ranges rs)) (len r.first (r.last - r.first + 1))
  where
    len : (a n : ℕ) → length (range_with_len a n) ≡ n
    len a zero = refl
    len a (suc n) = ap suc (len (a + 1) n)

-- fewer numbers are left behind a number from the first on
pub numbers_fewer : (k : ℕ) (r : TokenRange) (rs : List TokenRange) → r.first ≤ r.last → r.first ≤ k
    → length (numbers_in_ranges (left_behind k r rs)) < length (numbers_in_ranges (r ∷ rs))
numbers_fewer k r rs o f = go (cases_lt k r.last)
  where
    go : (k < r.last) ⊎ (r.last ≤ k) → length (numbers_in_ranges (left_behind k r rs)) < length (numbers_in_ranges (r ∷ rs))
    go (inl l) =
        let t : nat_lt k r.last ≡ true = grind (arith, nat_tests) in
        let e = ap (λ b. length (numbers_in_ranges (cond b (range_of (k + 1) r.last ∷ rs) rs))) t in
        let a = counted (range_of (k + 1) r.last) rs in
        let b = counted r rs in
        omega (arith, e, a, b, l, f)
    go (inr l) = let e = ap (λ s. length (numbers_in_ranges s)) (left_none k r rs l) in let b = counted r rs in omega (arith, e, b)

-- so many numbers were counted, all before those to come
pub record CountedTo (all : ℕ) (rs : List TokenRange) (n : ℕ) : Type 0 where
  pub from : ℕ
  pub few : n ≤ from
  pub small : from ≤ 4294967296
  pub ordered : RangesFrom 1 from rs
  pub left : n + length (numbers_in_ranges rs) ≡ all

pub counted_start : (rs : List TokenRange) → RangesFrom 1 0 rs → CountedTo (length (numbers_in_ranges rs)) rs 0
counted_start rs h = record { from = 0; few = omega arith; small = omega arith; ordered = h; left = omega arith }

pub counted_more : (all n : ℕ) (ps : List TokenRange) (r : TokenRange) (rs : List TokenRange) → CountedTo all ps n → ps ≡ r ∷ rs → r.last < 4294967296
    → CountedTo all rs (n + (r.last - r.first + 1))
counted_more all n ps r rs c e l =
    let h : RangesFrom 1 c.from (r ∷ rs) = subst (RangesFrom 1 c.from) e c.ordered in
    let x : c.from ≤ r.first = h.0 in
    let y : r.first ≤ r.last = h.1 in
    let f = c.few in
    record {
      from = r.last + 1;
      few = omega (arith, x, y, f);
      small = omega arith;
      ordered = h.2;
      left = (let g = c.left in let m = ap (λ s. length (numbers_in_ranges s)) e in let d = counted r rs in omega (arith, g, m, d));
    }

pub counted_ordered : (all n : ℕ) (ps : List TokenRange) (r : TokenRange) (rs : List TokenRange) → CountedTo all ps n → ps ≡ r ∷ rs → r.first ≤ r.last
counted_ordered all n ps r rs c e = (subst (RangesFrom 1 c.from) e c.ordered).1

pub counted_end : (all n : ℕ) (ps : List TokenRange) → CountedTo all ps n → ps ≡ [] → n ≡ all
counted_end all n ps c e = let g = c.left in let m = ap (λ s. length (numbers_in_ranges s)) e in omega (arith, g, m)

-- two walks that have passed the same numbers
pub record ComparedTo (o : Ordering) (ps qs : List TokenRange) : Type 0 where
  pub one : RangesFrom 1 0 ps
  pub other : RangesFrom 1 0 qs
  pub same : slice_cmp nat_cmp (numbers_in_ranges ps) (numbers_in_ranges qs) ≡ o

pub compared_more : (o : Ordering) (ps qs ps' qs' : List TokenRange) (k : ℕ) (r s : TokenRange) (rs ss : List TokenRange)
    → ComparedTo o (r ∷ rs) (s ∷ ss) → r.first ≡ s.first → k ≡ min r.last s.last → ps' ≡ left_behind k r rs → qs' ≡ left_behind k s ss
    → ComparedTo o ps' qs'
compared_more o ps qs ps' qs' k r s rs ss c e m p q =
    let x : r.first ≤ r.last = c.one.1 in
    let y : s.first ≤ s.last = c.other.1 in
    let inside : (r.first ≤ k) × (k ≤ r.last) × (k ≤ s.last) = (omega (arith, x, y, e, m), omega (arith, m), omega (arith, m)) in
    subst (λ l. ComparedTo o l qs') (sym p) (subst (ComparedTo o (left_behind k r rs)) (sym q) (record {
      one = ranges_weaken 1 (k + 1) 0 (left_behind k r rs) (omega arith) (left_ranges 1 k r rs (omega arith) inside.1 c.one.2);
      other = ranges_weaken 1 (k + 1) 0 (left_behind k s ss) (omega arith) (left_ranges 1 k s ss (omega arith) inside.2 c.other.2);
      same = order_behind k r s rs ss e inside.0 inside.1 inside.2 ∙ c.same;
    }))

-- at least one of two ranges is passed
pub both_fewer : (k : ℕ) (r s : TokenRange) (rs ss : List TokenRange) → k ≡ min r.last s.last
    → length (left_behind k r rs) + length (left_behind k s ss) < suc (length rs) + suc (length ss)
both_fewer k r s rs ss m = go (cases_lt s.last r.last)
  where
    go : (s.last < r.last) ⊎ (r.last ≤ s.last) → length (left_behind k r rs) + length (left_behind k s ss) < suc (length rs) + suc (length ss)
    go (inl x) = let p = left_shorter k r rs in let q = ap length (left_none k s ss (omega arith)) in omega (arith, p, q)
    go (inr x) = let p = ap length (left_none k r rs (omega arith)) in let q = left_shorter k s ss in omega (arith, p, q)

-- the hash
module _ {S : Type 0} (w : S → List ℕ → S) where
  -- what numbers feed
  abbrev pub feeds : List ℕ → S → S
  feeds ns s = fold w s (flat_map fed.usize ns)

  pub feeds_more : (s t : S) (all left : List ℕ) (k : ℕ) → all ≡ k ∷ left → t ≡ fold w s (fed.usize k) → feeds left t ≡ feeds all s
  feeds_more s t all left k e f = ap (feeds left) f ∙ sym (ap (λ ns. feeds ns s) e)

  pub feeds_all : (s t : S) (n : ℕ) (ns : List ℕ) → n ≡ length ns → t ≡ fold w s (fed.usize n)
      → feeds ns t ≡ fold w s (fed.slice fed.usize ns)
  feeds_all s t n ns e f = ap (feeds ns) f ∙ ap (λ m. feeds ns (fold w s (fed.usize m))) e

-- a step of two walks that begin with the same number, and the answer where they don't
module _ (o : Ordering) (ps qs : List TokenRange) where
  pub compared_first : (r s : TokenRange) (rs ss : List TokenRange) → ComparedTo o ps qs → ps ≡ r ∷ rs → qs ≡ s ∷ ss
      → (r.first ≡ s.first → ⊥) → nat_cmp r.first s.first ≡ o
  compared_first r s rs ss c e d n =
      order_first r s rs ss n
      ∙ sym (ap (λ l. slice_cmp nat_cmp (numbers_in_ranges l) (numbers_in_ranges qs)) e
      ∙ ap (λ l. slice_cmp nat_cmp (numbers_in_ranges (r ∷ rs)) (numbers_in_ranges l)) d) ∙ c.same

  pub compared_step : (ps' qs' : List TokenRange) (k : ℕ) (r s : TokenRange) (rs ss : List TokenRange) → ComparedTo o ps qs → ps ≡ r ∷ rs
      → qs ≡ s ∷ ss → r.first ≡ s.first → k ≡ min r.last s.last → ps' ≡ left_behind k r rs → qs' ≡ left_behind k s ss
      → ComparedTo o ps' qs' × (length ps' + length qs' < length ps + length qs)
  compared_step ps' qs' k r s rs ss c e d f m p q = (
    compared_more o ps qs ps' qs' k r s rs ss (subst (λ l. ComparedTo o l (s ∷ ss)) e (subst (ComparedTo o ps) d c)) f m p q,
    (let a = ap length p in let b = ap length q in let x = ap length e in let y = ap length d in let z = both_fewer k r s rs ss m in
        omega (arith, a, b, x, y, z)),
  )
