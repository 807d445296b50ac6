-- Walks over two lists of ranges at once: which range is next, and what is joined up to it; for joined.
use Rattle.std.proofs.Common.{◌≡◌, ℕ, ◌+◌, ◌-◌, ◌/◌, ◌*◌, ◌<◌, ◌≤◌, Bool, true, false, ◌||◌, List, [], ◌∷◌, ◌++◌}
use Rattle.std.proofs.Common.{nat_le, length, refl, sym, ap, ◌∙◌, subst, arith, ◌⊎◌, inl, inr, Option, Some, None}
use Rattle.std.proofs.lemmas.Bool.Decides.{nat_tests}
use Rattle.std.specs.Option.{MatchOption}
use Rattle.lalrpop_sets.specs.Ranges.{RangesFrom, covers, is_covered, most_ranges, range_of}
use Rattle.lalrpop_sets.specs.RangeWalks.{BeginFrom, IsJoinedFirst, IsOneTaken, begins_within, from_head, goes_first}
use Rattle.lalrpop_sets.specs.declared.token_range.TokenRange.{TokenRange}
use Rattle.lalrpop_sets.proofs.RangeEditLemmas.{covered_append, few_ranges, most_append}
use Rattle.lalrpop_sets.proofs.RangeLemmas.{covered_from, covers_above, covers_below, covers_cases, covers_parts, covers_within, or_assoc, or_false, or_swap, ranges_weaken}

-- what is next in one of two walks is first in both, or begins early enough
module _ (x y : Option TokenRange) (ps qs left : List TokenRange) where
  pub first_one : (o : Option TokenRange) → goes_first x y ≡ true
      → MatchOption o ((from_head x ps ≡ []) × (left ≡ [])) (λ r. from_head x ps ≡ r ∷ left)
      → MatchOption o ((from_head x ps ≡ []) × (from_head y qs ≡ []))
      (λ r. IsOneTaken (from_head x ps) (from_head y qs) r left (from_head y qs) × BeginFrom r.first (from_head x ps)
      × BeginFrom r.first (from_head y qs))
  first_one o e m = go x y o e m
    where
      go : (x y o : Option TokenRange) → goes_first x y ≡ true
          → MatchOption o ((from_head x ps ≡ []) × (left ≡ [])) (λ r. from_head x ps ≡ r ∷ left)
          → MatchOption o ((from_head x ps ≡ []) × (from_head y qs ≡ []))
          (λ r. IsOneTaken (from_head x ps) (from_head y qs) r left (from_head y qs) × BeginFrom r.first (from_head x ps)
          × BeginFrom r.first (from_head y qs))
      go None y o e m = let z : ⊥ = cc in absurd z
      go (Some p) y None e m = let z : ⊥ = let i : (p ∷ ps) ≡ [] = m.0 in cc in absurd z
      go (Some p) None (Some r) e m =
          let i : (p ∷ ps) ≡ r ∷ left = m in
          let q : p ≡ r = cc in
          (inl (i, refl), subst (λ (s : TokenRange). s.first ≤ p.first) q (omega arith), tt)
      go (Some p) (Some s) (Some r) e m =
          let i : (p ∷ ps) ≡ r ∷ left = m in
          let q : p ≡ r = cc in
          let l : p.first ≤ s.first = grind (arith, nat_tests) in
          (inl (i, refl), subst (λ (t : TokenRange). t.first ≤ p.first) q (omega arith), subst (λ (t : TokenRange). t.first ≤ s.first) q l)

  pub first_other : (o : Option TokenRange) → goes_first x y ≡ false
      → MatchOption o ((from_head y qs ≡ []) × (left ≡ [])) (λ r. from_head y qs ≡ r ∷ left)
      → MatchOption o ((from_head x ps ≡ []) × (from_head y qs ≡ []))
      (λ r. IsOneTaken (from_head x ps) (from_head y qs) r (from_head x ps) left × BeginFrom r.first (from_head x ps)
      × BeginFrom r.first (from_head y qs))
  first_other o e m = go x y o e m
    where
      go : (x y o : Option TokenRange) → goes_first x y ≡ false
          → MatchOption o ((from_head y qs ≡ []) × (left ≡ [])) (λ r. from_head y qs ≡ r ∷ left)
          → MatchOption o ((from_head x ps ≡ []) × (from_head y qs ≡ []))
          (λ r. IsOneTaken (from_head x ps) (from_head y qs) r (from_head x ps) left × BeginFrom r.first (from_head x ps)
          × BeginFrom r.first (from_head y qs))
      go None None None e m = (refl, refl)
      go (Some p) None None e m = let z : ⊥ = cc in absurd z
      go x (Some s) None e m = let z : ⊥ = let i : (s ∷ qs) ≡ [] = m.0 in cc in absurd z
      go x None (Some r) e m = let z : ⊥ = let i : [] ≡ r ∷ left = m in cc in absurd z
      go None (Some s) (Some r) e m =
          let i : (s ∷ qs) ≡ r ∷ left = m in
          let q : s ≡ r = cc in
          (inr (refl, i), tt, subst (λ (t : TokenRange). t.first ≤ s.first) q (omega arith))
      go (Some p) (Some s) (Some r) e m =
          let i : (s ∷ qs) ≡ r ∷ left = m in
          let q : s ≡ r = cc in
          let n : nat_le p.first s.first ≡ false = e in
          let l : s.first ≤ p.first = grind (arith, nat_tests) in
          (inr (refl, i), subst (λ (t : TokenRange). t.first ≤ p.first) q l, subst (λ (t : TokenRange). t.first ≤ s.first) q (omega arith))

pub near : (x : Option TokenRange) (ps left : List TokenRange) (most : ℕ) (r : TokenRange) → begins_within x most ≡ true
    → from_head x ps ≡ r ∷ left → r.first ≤ most
near None ps left most r e m = let z : ⊥ = cc in absurd z
near (Some p) ps left most r e m =
    let i : (p ∷ ps) ≡ r ∷ left = m in
    let q : p ≡ r = cc in
    let l : p.first ≤ most = grind (arith, nat_tests) in
    subst (λ (t : TokenRange). t.first ≤ most) q l

pub not_none : (x : Option TokenRange) (ps : List TokenRange) (most : ℕ) → begins_within x most ≡ true → from_head x ps ≡ [] → ⊥
not_none None ps most e m = cc
not_none (Some p) ps most e m = let i : (p ∷ ps) ≡ [] = m in cc

pub far : (x : Option TokenRange) (ps : List TokenRange) (most : ℕ) → begins_within x most ≡ false → BeginFrom (most + 1) (from_head x ps)
far None ps most e = tt
far (Some p) ps most e = let l : most < p.first = grind (arith, nat_tests) in omega arith

-- what the range that is taken leaves
pub taken_same : (ps qs : List TokenRange) (r : TokenRange) (ps' qs' : List TokenRange) → IsOneTaken ps qs r ps' qs' → (k : ℕ)
    → (is_covered ps k || is_covered qs k) ≡ (covers r k || (is_covered ps' k || is_covered qs' k))
taken_same ps qs r ps' qs' (inl h) k =
    ap (λ l. is_covered l k || is_covered qs k) h.0 ∙ ap (λ l. is_covered (r ∷ ps') k || is_covered l k) (sym h.1)
    ∙ or_assoc (covers r k) (is_covered ps' k) (is_covered qs' k)
taken_same ps qs r ps' qs' (inr h) k =
    ap (λ l. is_covered l k || is_covered qs k) (sym h.0) ∙ ap (λ l. is_covered ps' k || is_covered l k) h.1
    ∙ or_swap (is_covered ps' k) (covers r k) (is_covered qs' k)

pub record TakenRanges (a : ℕ) (r : TokenRange) (ps' qs' : List TokenRange) : Type 0 where
  pub from : a ≤ r.first
  pub ordered : r.first ≤ r.last
  pub one : RangesFrom 1 a ps'
  pub other : RangesFrom 1 a qs'

rest_from : (a : ℕ) (r : TokenRange) (rs : List TokenRange) → RangesFrom 1 a (r ∷ rs) → RangesFrom 1 a rs
rest_from a r rs h =
    let x : a ≤ r.first = h.0 in let y : r.first ≤ r.last = h.1 in ranges_weaken 1 (r.last + 1) a rs (omega arith) h.2

pub taken_ranges : (a : ℕ) (ps qs : List TokenRange) (r : TokenRange) (ps' qs' : List TokenRange) → IsOneTaken ps qs r ps' qs'
    → RangesFrom 1 a ps → RangesFrom 1 a qs → TakenRanges a r ps' qs'
taken_ranges a ps qs r ps' qs' (inl t) h g =
    let p : RangesFrom 1 a (r ∷ ps') = subst (RangesFrom 1 a) t.0 h in
    record { from = p.0; ordered = p.1; one = rest_from a r ps' p; other = subst (RangesFrom 1 a) (sym t.1) g }
taken_ranges a ps qs r ps' qs' (inr t) h g =
    let q : RangesFrom 1 a (r ∷ qs') = subst (RangesFrom 1 a) t.1 g in
    record { from = q.0; ordered = q.1; one = subst (RangesFrom 1 a) (sym t.0) h; other = rest_from a r qs' q }

pub taken_fewer : (ps qs : List TokenRange) (r : TokenRange) (ps' qs' : List TokenRange) → IsOneTaken ps qs r ps' qs'
    → length ps' + length qs' < length ps + length qs
taken_fewer ps qs r ps' qs' (inl t) = let a = ap length t.0 in let b = ap length t.1 in omega (arith, a, b)
taken_fewer ps qs r ps' qs' (inr t) = let a = ap length t.0 in let b = ap length t.1 in omega (arith, a, b)

pub begin_ranges : (n a : ℕ) (rs : List TokenRange) → BeginFrom n rs → RangesFrom 1 a rs → RangesFrom 1 n rs
begin_ranges n a [] b h = tt
begin_ranges n a (r ∷ rs) b h = (b, h.1, h.2)

-- a range that grows by ranges of both lists that begin in it or right behind it
pub record JoiningTo (ps qs : List TokenRange) (r : TokenRange) (ps' qs' : List TokenRange) : Type 0 where
  pub ordered : r.first ≤ r.last
  pub one : RangesFrom 1 r.first ps'
  pub other : RangesFrom 1 r.first qs'
  pub same : (k : ℕ) → (is_covered ps k || is_covered qs k) ≡ (covers r k || (is_covered ps' k || is_covered qs' k))
  pub fewer : length ps' + length qs' < length ps + length qs

pub joining_start : (ps qs : List TokenRange) (r : TokenRange) (ps' qs' : List TokenRange) → RangesFrom 1 0 ps → RangesFrom 1 0 qs
    → IsOneTaken ps qs r ps' qs' × BeginFrom r.first ps × BeginFrom r.first qs → JoiningTo ps qs r ps' qs'
joining_start ps qs r ps' qs' h g t =
    let k = taken_ranges r.first ps qs r ps' qs' t.0 (begin_ranges r.first 0 ps t.1 h) (begin_ranges r.first 0 qs t.2 g) in
    record { ordered = k.ordered; one = k.one; other = k.other; same = taken_same ps qs r ps' qs' t.0; fewer = taken_fewer ps qs r ps' qs' t.0 }

widened_covers : (r s : TokenRange) (k : ℕ) → r.first ≤ s.first → s.first ≤ r.last + 1 → r.last < s.last → r.first ≤ r.last
    → covers (range_of r.first s.last) k ≡ (covers r k || covers s k)
widened_covers r s k f t l o =
    covers_parts r.first r.last s.last k (omega arith) (omega arith) ∙ inside
  where
    -- what s has up to the last of r is in r
    inside : (covers r k || covers (range_of (r.last + 1) s.last) k) ≡ (covers r k || covers s k)
    inside = go (covers_cases r k)
      where
        go : ((r.first ≤ k) × (k ≤ r.last)) ⊎ ((k < r.first) ⊎ (r.last < k))
            → (covers r k || covers (range_of (r.last + 1) s.last) k) ≡ (covers r k || covers s k)
        go (inl c) =
            let e : covers r k ≡ true = covers_within r k c.0 c.1 in
            ap (λ b. b || covers (range_of (r.last + 1) s.last) k) e ∙ sym (ap (λ b. b || covers s k) e)
        go (inr (inl c)) =
            ap (λ b. covers r k || b) (covers_below (range_of (r.last + 1) s.last) k (omega arith) ∙ sym (covers_below s k (omega arith)))
        go (inr (inr c)) = ap (λ b. covers r k || b) (behind (covers_cases s k) c)
          where
            behind : ((s.first ≤ k) × (k ≤ s.last)) ⊎ ((k < s.first) ⊎ (s.last < k)) → r.last < k
                → covers (range_of (r.last + 1) s.last) k ≡ covers s k
            behind (inl d) c = covers_within (range_of (r.last + 1) s.last) k (omega arith) d.1 ∙ sym (covers_within s k d.0 d.1)
            behind (inr (inl d)) c = absurd (omega arith)
            behind (inr (inr d)) c = covers_above (range_of (r.last + 1) s.last) k d ∙ sym (covers_above s k d)

inner_covers : (r s : TokenRange) (k : ℕ) → r.first ≤ s.first → s.last ≤ r.last → covers r k ≡ (covers r k || covers s k)
inner_covers r s k f l = go (covers_cases s k)
  where
    go : ((s.first ≤ k) × (k ≤ s.last)) ⊎ ((k < s.first) ⊎ (s.last < k)) → covers r k ≡ (covers r k || covers s k)
    go (inl c) =
        let x : s.first ≤ k = c.0 in
        let y : k ≤ s.last = c.1 in
        let e : covers r k ≡ true = covers_within r k (omega arith) (omega arith) in
        e ∙ sym (ap (λ b. b || covers s k) e)
    go (inr (inl c)) = sym (ap (λ b. covers r k || b) (covers_below s k c) ∙ or_false (covers r k))
    go (inr (inr c)) = sym (ap (λ b. covers r k || b) (covers_above s k c) ∙ or_false (covers r k))

module _ (ps qs : List TokenRange) (r s : TokenRange) (ps' qs' ps'' qs'' : List TokenRange) (j : JoiningTo ps qs r ps' qs') (t : IsOneTaken ps' qs' s ps'' qs'') where
  shared : (v : TokenRange) (k : ℕ) → covers v k ≡ (covers r k || covers s k)
      → (is_covered ps k || is_covered qs k) ≡ (covers v k || (is_covered ps'' k || is_covered qs'' k))
  shared v k e =
      j.same k ∙ ap (λ b. covers r k || b) (taken_same ps' qs' s ps'' qs'' t k)
      ∙ sym (or_assoc (covers r k) (covers s k) (is_covered ps'' k || is_covered qs'' k))
      ∙ ap (λ b. b || (is_covered ps'' k || is_covered qs'' k)) (sym e)

  less : length ps'' + length qs'' < length ps + length qs
  less = let a = taken_fewer ps' qs' s ps'' qs'' t in let b = j.fewer in omega (arith, a, b)

  pub joining_wider : s.first ≤ r.last + 1 → r.last < s.last → JoiningTo ps qs (range_of r.first s.last) ps'' qs''
  joining_wider m l =
      let k = taken_ranges r.first ps' qs' s ps'' qs'' t j.one j.other in
      record {
        ordered = (let a = j.ordered in omega (arith, a));
        one = k.one;
        other = k.other;
        same = λ n. shared (range_of r.first s.last) n (widened_covers r s n k.from m l j.ordered);
        fewer = less;
      }

  pub joining_inner : s.last ≤ r.last → JoiningTo ps qs r ps'' qs''
  joining_inner l =
      let k = taken_ranges r.first ps' qs' s ps'' qs'' t j.one j.other in
      record {
        ordered = j.ordered;
        one = k.one;
        other = k.other;
        same = λ n. shared r n (inner_covers r s n k.from l);
        fewer = less;
      }

pub joining_end : (ps qs : List TokenRange) (r : TokenRange) (ps' qs' : List TokenRange) → JoiningTo ps qs r ps' qs'
    → BeginFrom (r.last + 1 + 1) ps' → BeginFrom (r.last + 1 + 1) qs' → IsJoinedFirst ps qs r ps' qs'
joining_end ps qs r ps' qs' j b d =
    let e : r.last + 1 + 1 ≡ r.last + 2 = omega arith in
    record {
      ordered = j.ordered;
      one = subst (λ n. RangesFrom 1 n ps') e (begin_ranges (r.last + 1 + 1) r.first ps' b j.one);
      other = subst (λ n. RangesFrom 1 n qs') e (begin_ranges (r.last + 1 + 1) r.first qs' d j.other);
      same = j.same;
      fewer = j.fewer;
    }

-- where a list of ranges may go on
abbrev pub end_of : ℕ → ℕ → List TokenRange → ℕ
end_of gap a [] = a
end_of gap a (r ∷ rs) = end_of gap (r.last + gap) rs

pub end_push : (gap a : ℕ) (rs : List TokenRange) (r : TokenRange) → end_of gap a (rs ++ r ∷ []) ≡ r.last + gap
end_push gap a [] r = refl
end_push gap a (s ∷ rs) r = end_push gap (s.last + gap) rs r

pub ranges_push : (gap a : ℕ) (rs : List TokenRange) (r : TokenRange) → RangesFrom gap a rs → end_of gap a rs ≤ r.first → r.first ≤ r.last
    → RangesFrom gap a (rs ++ r ∷ [])
ranges_push gap a [] r h f o = (f, o, tt)
ranges_push gap a (s ∷ rs) r h f o = (h.0, h.1, ranges_push gap (s.last + gap) rs r h.2 f o)

most_bound : (a : ℕ) (rs : List TokenRange) → RangesFrom 2 a rs → 2 * most_ranges rs + a ≤ end_of 2 a rs
most_bound a [] h = omega arith
most_bound a (r ∷ rs) h =
    let x : a ≤ r.first = h.0 in
    let y : r.first ≤ r.last = h.1 in
    let z = most_bound (r.last + 2) rs h.2 in
    omega (arith, x, y, z)

pub record JoinedTo (ps qs : List TokenRange) (list ps' qs' : List TokenRange) (n : ℕ) : Type 0 where
  pub covered : (k : ℕ) → (is_covered list k || (is_covered ps' k || is_covered qs' k)) ≡ (is_covered ps k || is_covered qs k)
  pub apart : RangesFrom 2 0 list
  pub one : RangesFrom 1 (end_of 2 0 list) ps'
  pub other : RangesFrom 1 (end_of 2 0 list) qs'
  pub room : n ≡ most_ranges list
  pub bound : end_of 2 0 list ≤ 4294967297

pub joined_start : (ps qs : List TokenRange) → RangesFrom 1 0 ps → RangesFrom 1 0 qs → JoinedTo ps qs [] ps qs 0
joined_start ps qs h g = record { covered = λ k. refl; apart = tt; one = h; other = g; room = refl; bound = omega arith }

module _ (ps qs list ps' qs' : List TokenRange) (room : ℕ) (j : JoinedTo ps qs list ps' qs' room) where
  one-from-0 : RangesFrom 1 0 ps'
  one-from-0 = ranges_weaken 1 (end_of 2 0 list) 0 ps' (omega arith) j.one

  pub joined_one : RangesFrom 1 0 ps'
  joined_one = one-from-0

  pub joined_other : RangesFrom 1 0 qs'
  joined_other = ranges_weaken 1 (end_of 2 0 list) 0 qs' (omega arith) j.other

  -- how much room there is to be, at most
  pub joined_few : 2 * room ≤ 4294967297
  joined_few = let a = most_bound 0 list j.apart in let b = j.room in let c = j.bound in omega (arith, a, b, c)

  pub joined_short : length list ≤ room
  joined_short = let a = few_ranges list in let b = j.room in omega (arith, a, b)

  pub joined_more : (r : TokenRange) (ps'' qs'' : List TokenRange) → IsJoinedFirst ps' qs' r ps'' qs'' → r.last < 4294967296
      → JoinedTo ps qs (list ++ r ∷ []) ps'' qs'' (room + ((r.last - r.first) / 2 + 1))
  joined_more r ps'' qs'' f l =
      let here : (is_covered ps' r.first || is_covered qs' r.first) ≡ true =
      f.same r.first ∙ ap (λ b. b || (is_covered ps'' r.first || is_covered qs'' r.first)) (covers_within r r.first (omega arith) f.ordered) in
      let from : end_of 2 0 list ≤ r.first = side (is_covered ps' r.first) (is_covered qs' r.first) refl refl here in
      let e : end_of 2 0 (list ++ r ∷ []) ≡ r.last + 2 = end_push 2 0 list r in
      record {
        covered = λ k. ap (λ b. b || (is_covered ps'' k || is_covered qs'' k)) (covered_append list (r ∷ []) k
            ∙ ap (λ b. is_covered list k || b) (or_false (covers r k)))
            ∙ or_assoc (is_covered list k) (covers r k) (is_covered ps'' k || is_covered qs'' k)
            ∙ ap (λ b. is_covered list k || b) (sym (f.same k)) ∙ j.covered k;
        apart = ranges_push 2 0 list r j.apart from f.ordered;
        one = subst (λ n. RangesFrom 1 n ps'') (sym e) f.one;
        other = subst (λ n. RangesFrom 1 n qs'') (sym e) f.other;
        room = (let a = most_append list (r ∷ []) in let b = j.room in omega (arith, a, b));
        bound = omega (arith, e, l);
      }
    where
      side : (x y : Bool) → is_covered ps' r.first ≡ x → is_covered qs' r.first ≡ y → (is_covered ps' r.first || is_covered qs' r.first) ≡ true
          → end_of 2 0 list ≤ r.first
      side true y p q h = covered_from 1 (end_of 2 0 list) ps' r.first j.one p
      side false true p q h = covered_from 1 (end_of 2 0 list) qs' r.first j.other q
      side false false p q h = let z : ⊥ = let i : false ≡ true = sym (ap (λ b. b || is_covered qs' r.first) p ∙ q) ∙ h in cc in absurd z

  pub joined_end : ps' ≡ [] → qs' ≡ [] → (k : ℕ) → is_covered list k ≡ (is_covered ps k || is_covered qs k)
  joined_end e g k =
      sym (ap (λ b. is_covered list k || b) (ap (λ l. is_covered l k || is_covered qs' k) e ∙ ap (λ l. is_covered l k) g)
      ∙ or_false (is_covered list k)) ∙ j.covered k
