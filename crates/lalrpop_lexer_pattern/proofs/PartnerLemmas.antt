-- The steps of a walk over pairs in order, and what a set with the partners of its ranges holds: for the folding of a set.
use Rattle.std.proofs.Common.{◌≡◌, ℕ, zero, suc, ◌+◌, ◌<◌, ◌≤◌, ◌⊎◌, Bool, true, false, cond, not, ◌&&◌}
use Rattle.std.proofs.Common.{◌||◌, nat_le, nat_lt}
use Rattle.std.proofs.Common.{List, [], ◌∷◌, ◌++◌, map, length, get_or, drop, flat_map, Contains, refl, sym, ap, ◌∙◌}
use Rattle.std.proofs.Common.{inl, inr, arith}
use Rattle.std.proofs.Common.{append_assoc, le_of_suc-le-suc, suc-le-suc, not-suc-le-zero, zero-lt-suc, true≢false, leb-true}
use Rattle.std.proofs.Common.{le_trans, le_refl, subst, ◌==◌, eq-eqb, eqb-true, lt-ltb}
use Rattle.std.proofs.lemmas.Bool.{cases_Bool, both_ways, and_parts, or_cases, or_left, or_right}
use Rattle.std.proofs.lemmas.Bool.Decides.{nat_tests}
use Rattle.std.proofs.lemmas.List.{append-nil}
use Rattle.std.proofs.lemmas.List.Elements.{All-weaker, filter_passes}
use Rattle.std.proofs.lemmas.List.Kept.{IsNonDecreasingBy-filter}
use Rattle.std.specs.List.{All, filter}
use Rattle.std.specs.List.Sorted.{IsNonDecreasingBy}
use Rattle.unicode.specs.CaseFolding.{fold_pairs}
use Rattle.unicode.proofs.BoundLemmas.{pairs_rise, pairs_rise-fold_pairs}
use Rattle.lalrpop_lexer_pattern.specs.declared.class.Range.{Range}
use Rattle.lalrpop_lexer_pattern.specs.Sets.{in_range, in_ranges, IsRising}
use Rattle.lalrpop_lexer_pattern.specs.Partners.{partners_of}
use Rattle.lalrpop_lexer_pattern.proofs.SetLemmas.{range_from, range_at, in_range_tells, in_ranges-nil, in_ranges-cons, in_range-one}
use Rattle.lalrpop_lexer_pattern.proofs.SetLemmas.{in_ranges-append, rises_from-gap}
use Rattle.lalrpop_lexer_pattern.proofs.FoldLemmas.{Leads, Gathers}

abbrev pub Pairs : Type 0
Pairs = List (ℕ × ℕ)

-- the first characters of the pairs never fall
abbrev pub AreInOrder : Pairs → Type 0
AreInOrder = IsNonDecreasingBy (λ (p : ℕ × ℕ). p.0)

no_lower : (a b c d : ℕ) → (nat_lt a b || ((a == b) && nat_lt c d)) ≡ true → a ≤ b
no_lower a b c d h = grind (arith, nat_tests)

rise_parts : (low p : ℕ × ℕ) (ps : Pairs) → pairs_rise low (p ∷ ps) ≡ true → (low.0 ≤ p.0) × (pairs_rise p ps ≡ true)
unfolding pairs_rise
rise_parts low p ps h =
    let parts = and_parts (nat_lt low.0 p.0 || ((low.0 == p.0) && nat_lt low.1 p.1)) (pairs_rise p ps) h in
    (no_lower low.0 p.0 low.1 p.1 parts.0, parts.1)

rises_later : (low : ℕ × ℕ) (ps : Pairs) → pairs_rise low ps ≡ true → (j : ℕ) (d : ℕ × ℕ) → j < length ps
    → low.0 ≤ (get_or ps j d).0
rises_later low [] h j d hj = absurd (not-suc-le-zero hj)
rises_later low (p ∷ ps) h zero d hj = (rise_parts low p ps h).0
rises_later low (p ∷ ps) h (suc j) d hj =
    let parts = rise_parts low p ps h in
    le_trans parts.0 (rises_later p ps parts.1 j d (le_of_suc-le-suc hj))

in_order_from : (low : ℕ × ℕ) (ps : Pairs) → pairs_rise low ps ≡ true → AreInOrder ps
in_order_from low [] h i j d le hj = absurd (not-suc-le-zero hj)
in_order_from low (p ∷ ps) h zero zero d le hj = le_refl p.0
in_order_from low (p ∷ ps) h zero (suc j) d le hj =
    rises_later p ps (rise_parts low p ps h).1 j d (le_of_suc-le-suc hj)
in_order_from low (p ∷ ps) h (suc i) zero d le hj = absurd (not-suc-le-zero le)
in_order_from low (p ∷ ps) h (suc i) (suc j) d le hj =
    in_order_from p ps (rise_parts low p ps h).1 i j d (le_of_suc-le-suc le) (le_of_suc-le-suc hj)

-- the table of pairs is in order
pub AreInOrder-fold_pairs : AreInOrder fold_pairs
AreInOrder-fold_pairs = in_order_from (0, 0) fold_pairs pairs_rise-fold_pairs

-- pairs behind others in order are in order
pub AreInOrder-rest : (whole ps : Pairs) (p : ℕ × ℕ) → whole ≡ p ∷ ps → AreInOrder whole → AreInOrder ps
AreInOrder-rest whole ps p e h i j d le hj =
    let all = subst (λ l. AreInOrder l) e h in all (suc i) (suc j) d (suc-le-suc le) (suc-le-suc hj)

-- a test that the elements pass from an index on, and none before
pub filter-drop : {X : Type 0} (p : X → Bool) (xs : List X) (k : ℕ)
    → ((i : ℕ) (d : X) → i < k → i < length xs → p (get_or xs i d) ≡ false)
    → ((i : ℕ) (d : X) → k ≤ i → i < length xs → p (get_or xs i d) ≡ true) → filter p xs ≡ drop k xs
filter-drop p [] zero low high = refl
filter-drop p [] (suc k) low high = refl
filter-drop p (x ∷ xs) zero low high =
    let here : p x ≡ true = high zero x (omega arith) (zero-lt-suc _) in
    let rest : filter p xs ≡ drop zero xs =
    filter-drop p xs zero (λ i d h _. absurd (not-suc-le-zero h)) (λ i d h hi. high (suc i) d (omega arith) (suc-le-suc hi)) in
    rw here (ap (λ l. x ∷ l) rest)
filter-drop p (x ∷ xs) (suc k) low high =
    let here : p x ≡ false = low zero x (zero-lt-suc _) (zero-lt-suc _) in
    let rest : filter p xs ≡ drop k xs =
    filter-drop p xs k (λ i d h hi. low (suc i) d (suc-le-suc h) (suc-le-suc hi))
    (λ i d h hi. high (suc i) d (suc-le-suc h) (suc-le-suc hi)) in
    rw here rest

-- what a stronger test keeps of what a weaker one keeps
pub filter-weaker : {X : Type 0} (p q : X → Bool) → ((x : X) → q x ≡ true → p x ≡ true) → (xs : List X)
    → filter q (filter p xs) ≡ filter q xs
filter-weaker p q h [] = refl
filter-weaker p q h (x ∷ xs) = elim (cases_Bool (p x)) [
  | inl t ↦ rw t (ap (λ l. cond (q x) (x ∷ l) l) (filter-weaker p q h xs))
  | inr f ↦ elim (cases_Bool (q x)) [
    | inl t ↦ absurd (both_ways _ f (h x t))
    | inr g ↦ rw (f, g) (filter-weaker p q h xs)
  ]
]

-- a test that each element passes, and one that none does
pub filter-all : {X : Type 0} (p : X → Bool) (xs : List X) → All (λ x. p x ≡ true) xs → filter p xs ≡ xs
filter-all p xs h = filter-drop p xs zero (λ i d low _. absurd (not-suc-le-zero low)) (λ i d _ hi. h i d hi)

pub filter-none : {X : Type 0} (p : X → Bool) (xs : List X) → All (λ x. p x ≡ false) xs → filter p xs ≡ []
filter-none p [] h = refl
filter-none p (x ∷ xs) h =
    let here : p x ≡ false = h zero x (zero-lt-suc _) in
    rw here (filter-none p xs (λ i d hi. h (suc i) d (suc-le-suc hi)))

-- how far a walk over pairs has come: what is left of them, and what has been added for a range
pub record IsUnderWay (r : Range) (pairs rest : Pairs) (before now : List Range) : Type 0 where
  pub in_order : AreInOrder rest
  pub above : All (λ (p : ℕ × ℕ). r.start ≤ p.0) rest
  pub added : now ++ partners_of r rest ≡ before ++ partners_of r pairs
  pub behind : filter (λ (p : ℕ × ℕ). nat_lt r.end p.0) rest ≡ filter (λ (p : ℕ × ℕ). nat_lt r.end p.0) pairs

-- a source in the range, or behind it, lies at or after its start
partner_above : (r : Range) (a b : ℕ) → (in_range r a && not (in_range r b)) ≡ true → nat_le r.start a ≡ true
partner_above r a b h =
    let inside = (and_parts (in_range r a) (not (in_range r b)) h).0 in grind (arith, nat_tests, in_range_tells r a)

behind_above : (s e a : ℕ) → s ≤ e → nat_lt e a ≡ true → nat_le s a ≡ true
behind_above s e a le h = grind (arith, nat_tests)

-- before the first pair is looked at, those from the start of the range on are left
pub walk_starts : (r : Range) (pairs rest : Pairs) (now : List Range) → AreInOrder pairs → r.start ≤ r.end
    → rest ≡ filter (λ (p : ℕ × ℕ). nat_le r.start p.0) pairs → IsUnderWay r pairs rest now now
walk_starts r pairs rest now h le e =
    let first = λ (p : ℕ × ℕ). nat_le r.start p.0 in
    let leads = λ (p : ℕ × ℕ). in_range r p.0 && not (in_range r p.1) in
    rw e (record {
      in_order = IsNonDecreasingBy-filter (λ (p : ℕ × ℕ). p.0) first pairs h;
      above = All-weaker (λ (p : ℕ × ℕ). first p ≡ true) (λ (p : ℕ × ℕ). r.start ≤ p.0) (λ p t. leb-true r.start p.0 t) _
          (filter_passes first pairs);
      added = ap (λ l. now ++ map (λ (p : ℕ × ℕ). range_from p.1 p.1) l)
          (filter-weaker first leads (λ p t. partner_above r p.0 p.1 t) pairs);
      behind = filter-weaker first (λ (p : ℕ × ℕ). nat_lt r.end p.0) (λ p t. behind_above r.start r.end p.0 le t) pairs;
    })

module _ (r : Range) (pairs rest more : Pairs) (before now new : List Range) (a b : ℕ) (e : rest ≡ (a, b) ∷ more) where
  held : IsUnderWay r pairs rest before now → a ≤ r.end → in_range r a ≡ true
  held w le =
      let above = subst (λ l. All (λ (p : ℕ × ℕ). r.start ≤ p.0) l) e w.above in
      let low : r.start ≤ a = above zero (a, b) (zero-lt-suc _) in
      grind (arith, in_range_tells r a)

  above_more : IsUnderWay r pairs rest before now → All (λ (p : ℕ × ℕ). r.start ≤ p.0) more
  above_more w =
      let above = subst (λ l. All (λ (p : ℕ × ℕ). r.start ≤ p.0) l) e w.above in
      λ k d h. above (suc k) d (suc-le-suc h)

  behind_more : IsUnderWay r pairs rest before now → a ≤ r.end
      → filter (λ (p : ℕ × ℕ). nat_lt r.end p.0) more ≡ filter (λ (p : ℕ × ℕ). nat_lt r.end p.0) pairs
  behind_more w le =
      let out : nat_lt r.end a ≡ false = grind (arith, nat_tests) in
      let here : filter (λ (p : ℕ × ℕ). nat_lt r.end p.0) ((a, b) ∷ more) ≡ filter (λ (p : ℕ × ℕ). nat_lt r.end p.0) more =
      rw out refl in
      sym here ∙ ap (filter (λ (p : ℕ × ℕ). nat_lt r.end p.0)) (sym e) ∙ w.behind

  -- one more pair, whose partner lies outside the range
  pub walk_adds : IsUnderWay r pairs rest before now → a ≤ r.end → in_range r b ≡ false → new ≡ now ++ range_from b b ∷ []
      → IsUnderWay r pairs more before new
  walk_adds w le out is =
      let inside = held w le in
      let here : partners_of r ((a, b) ∷ more) ≡ range_from b b ∷ partners_of r more = rw (inside, out) refl in
      record {
        in_order = AreInOrder-rest rest more (a, b) e w.in_order;
        above = above_more w;
        added = ap (λ l. l ++ partners_of r more) is ∙ append_assoc now (range_from b b ∷ []) (partners_of r more)
            ∙ ap (λ l. now ++ l) (sym here) ∙ ap (λ l. now ++ partners_of r l) (sym e) ∙ w.added;
        behind = behind_more w le;
      }

  -- one more pair, whose partner the range holds
  pub walk_skips : IsUnderWay r pairs rest before now → a ≤ r.end → in_range r b ≡ true → IsUnderWay r pairs more before now
  walk_skips w le in_it =
      let inside = held w le in
      let here : partners_of r ((a, b) ∷ more) ≡ partners_of r more = rw (inside, in_it) refl in
      record {
        in_order = AreInOrder-rest rest more (a, b) e w.in_order;
        above = above_more w;
        added = ap (λ l. now ++ l) (sym here) ∙ ap (λ l. now ++ partners_of r l) (sym e) ∙ w.added;
        behind = behind_more w le;
      }

  -- all pairs that are left begin behind the range where the first one does
  pub all_behind : IsUnderWay r pairs rest before now → r.end < a → All (λ (p : ℕ × ℕ). r.end < p.0) rest
  all_behind w lt k d hk =
      let whole = subst AreInOrder e w.in_order in
      let inside : k < length ((a, b) ∷ more) = subst (λ (l : Pairs). k < length l) e hk in
      let from : a ≤ (get_or ((a, b) ∷ more) k d).0 = whole zero k d (omega arith) inside in
      subst (λ (l : Pairs). r.end < (get_or l k d).0) (sym e) (omega arith)

-- a walk that has come to the pairs behind the range is over
pub record IsWalked (r : Range) (pairs rest : Pairs) (before now : List Range) : Type 0 where
  pub added : now ≡ before ++ partners_of r pairs
  pub others : rest ≡ filter (λ (p : ℕ × ℕ). nat_lt r.end p.0) pairs

behind_leads : (r : Range) (a b : ℕ) → r.end < a → (in_range r a && not (in_range r b)) ≡ false
behind_leads r a b lt = let out : in_range r a ≡ false = grind (arith, in_range_tells r a) in rw out refl

-- once the pairs that are left begin behind the range, all partners of the range were gathered
pub walk_ends : (r : Range) (pairs rest : Pairs) (before now : List Range) → IsUnderWay r pairs rest before now
    → All (λ (p : ℕ × ℕ). r.end < p.0) rest → IsWalked r pairs rest before now
walk_ends r pairs rest before now w behind =
    let none : partners_of r rest ≡ [] = ap (map (λ (p : ℕ × ℕ). range_from p.1 p.1))
    (filter-none (λ (p : ℕ × ℕ). in_range r p.0 && not (in_range r p.1)) rest
    (λ k d hk. behind_leads r (get_or rest k d).0 (get_or rest k d).1 (behind k d hk))) in
    let all : filter (λ (p : ℕ × ℕ). nat_lt r.end p.0) rest ≡ rest =
    filter-all (λ (p : ℕ × ℕ). nat_lt r.end p.0) rest (λ k d hk. lt-ltb _ _ (behind k d hk)) in
    record {
      added = sym (append-nil now) ∙ ap (λ l. now ++ l) (sym none) ∙ w.added;
      others = sym all ∙ w.behind;
    }

-- what is left of the table of pairs gives the ranges from an index on the same partners as the whole table
pub record AreLeft (rs : List Range) (i : ℕ) (pairs : Pairs) : Type 0 where
  pub in_order : AreInOrder pairs
  pub same : (k : ℕ) → i ≤ k → k < length rs → partners_of (range_at rs k) pairs ≡ partners_of (range_at rs k) fold_pairs

-- before the first range all pairs are left
pub all_left : (rs : List Range) (pairs : Pairs) → pairs ≡ fold_pairs → AreLeft rs 0 pairs
all_left rs pairs e = rw e (record { in_order = AreInOrder-fold_pairs; same = λ k le hk. refl })

partner_behind : (r : Range) (e a b : ℕ) → e < r.start → (in_range r a && not (in_range r b)) ≡ true → nat_lt e a ≡ true
partner_behind r e a b lt h =
    let inside = (and_parts (in_range r a) (not (in_range r b)) h).0 in grind (arith, nat_tests, in_range_tells r a)

-- behind a range those pairs are left that begin behind its end
pub fewer_left : (rs : List Range) (i : ℕ) (pairs rest : Pairs) → IsRising rs → i < length rs → AreLeft rs i pairs
    → rest ≡ filter (λ (p : ℕ × ℕ). nat_lt (range_at rs i).end p.0) pairs → AreLeft rs (i + 1) rest
fewer_left rs i pairs rest rising hi w e =
    let after = λ (p : ℕ × ℕ). nat_lt (range_at rs i).end p.0 in
    rw e (record {
      in_order = IsNonDecreasingBy-filter (λ (p : ℕ × ℕ). p.0) after pairs w.in_order;
      same = λ k le hk.
          let gap = rises_from-gap 0 rs i k rising (omega arith) hk in
          let leads = λ (p : ℕ × ℕ). in_range (range_at rs k) p.0 && not (in_range (range_at rs k) p.1) in
          ap (map (λ (p : ℕ × ℕ). range_from p.1 p.1))
          (filter-weaker after leads (λ p t. partner_behind (range_at rs k) (range_at rs i).end p.0 p.1 (omega arith) t) pairs)
          ∙ w.same k (omega arith) hk;
    })

later : (p x : ℕ × ℕ) (ps : Pairs) → Contains ps x → Contains (p ∷ ps) x
later p x ps (k, lt, at) = (suc k, suc-le-suc lt, at)

partner_from_pair : (r : Range) (ps : Pairs) (s c : ℕ) → Contains ps (s, c) → in_range r s ≡ true → in_range r c ≡ false
    → in_ranges (partners_of r ps) c ≡ true
partner_from_pair r [] s c (k, lt, at) h out = absurd (not-suc-le-zero lt)
partner_from_pair r (p ∷ ps) s c (zero, lt, at) h out =
    let first : in_range r p.0 ≡ true = ap (λ (q : ℕ × ℕ). in_range r q.0) at ∙ h in
    let second : in_range r p.1 ≡ false = ap (λ (q : ℕ × ℕ). in_range r q.1) at ∙ out in
    let is : (c == p.1) ≡ true = eq-eqb c p.1 (sym (ap (λ (q : ℕ × ℕ). q.1) at)) in
    rw (first, second) (in_ranges-cons (range_from p.1 p.1) _ c ∙ or_left _ _ (in_range-one p.1 c ∙ is))
partner_from_pair r (p ∷ ps) s c (suc k, lt, at) h out =
    let rest = partner_from_pair r ps s c (k, le_of_suc-le-suc lt, at) h out in
    elim (cases_Bool (in_range r p.0 && not (in_range r p.1))) [
      | inl t ↦ rw t (in_ranges-cons (range_from p.1 p.1) _ c ∙ or_right _ _ rest)
      | inr f ↦ rw f rest
    ]

pair_from_partner : (r : Range) (ps : Pairs) (c : ℕ) → in_ranges (partners_of r ps) c ≡ true
    → (s : ℕ) × Contains ps (s, c) × (in_range r s ≡ true)
pair_from_partner r [] c h = absurd (true≢false (sym h ∙ in_ranges-nil c))
pair_from_partner r (p ∷ ps) c h = elim (cases_Bool (in_range r p.0 && not (in_range r p.1))) [
  | inl t ↦
      let h2 : in_ranges (range_from p.1 p.1 ∷ partners_of r ps) c ≡ true = rw t at h in
      elim (or_cases _ _ (sym (in_ranges-cons (range_from p.1 p.1) _ c) ∙ h2)) [
        | inl one ↦
            let is : c ≡ p.1 = eqb-true c p.1 (sym (in_range-one p.1 c) ∙ one) in
            (p.0, (zero, zero-lt-suc _, ap (λ (x : ℕ). (p.0, x)) (sym is)), (and_parts _ _ t).0)
        | inr more ↦ let rest = pair_from_partner r ps c more in (rest.0, later p (rest.0, c) ps rest.1, rest.2)
      ]
  | inr f ↦
      let h2 : in_ranges (partners_of r ps) c ≡ true = rw f at h in
      let rest = pair_from_partner r ps c h2 in (rest.0, later p (rest.0, c) ps rest.1, rest.2)
]

-- ranges with their partners hold what some pair leads to from a member
reached : (pairs : Pairs) (rs : List Range) (s c : ℕ) → Contains pairs (s, c) → in_ranges rs s ≡ true
    → (in_ranges rs c ≡ true) ⊎ (in_ranges (flat_map (λ r. partners_of r pairs) rs) c ≡ true)
reached pairs [] s c listed h = absurd (true≢false (sym h ∙ in_ranges-nil s))
reached pairs (r ∷ rs) s c listed h = elim (or_cases _ _ (sym (in_ranges-cons r rs s) ∙ h)) [
  | inl here ↦ elim (cases_Bool (in_range r c)) [
    | inl t ↦ inl (in_ranges-cons r rs c ∙ or_left _ _ t)
    | inr f ↦ inr (in_ranges-append (partners_of r pairs) _ c ∙ or_left _ _ (partner_from_pair r pairs s c listed here f))
  ]
  | inr more ↦ elim (reached pairs rs s c listed more) [
    | inl own ↦ inl (in_ranges-cons r rs c ∙ or_right _ _ own)
    | inr other ↦ inr (in_ranges-append (partners_of r pairs) _ c ∙ or_right _ _ other)
  ]
]

led : (pairs : Pairs) (rs : List Range) (c : ℕ) → in_ranges (flat_map (λ r. partners_of r pairs) rs) c ≡ true → Leads pairs rs c
led pairs [] c h = absurd (true≢false (sym h ∙ in_ranges-nil c))
led pairs (r ∷ rs) c h = elim (or_cases _ _ (sym (in_ranges-append (partners_of r pairs) _ c) ∙ h)) [
  | inl here ↦
      let p = pair_from_partner r pairs c here in
      record { source = p.0; listed = p.1; member = in_ranges-cons r rs p.0 ∙ or_left _ _ p.2 }
  | inr more ↦
      let l = led pairs rs c more in
      record { source = l.source; listed = l.listed; member = in_ranges-cons r rs l.source ∙ or_right _ _ l.member }
]

-- what was gathered are the ranges and the partners of each, and nothing else
pub gathers_partners : (pairs : Pairs) (rs gathered : List Range) → gathered ≡ rs ++ flat_map (λ r. partners_of r pairs) rs
    → Gathers pairs rs gathered
gathers_partners pairs rs gathered e =
    let at : (c : ℕ) → in_ranges gathered c ≡ (in_ranges rs c || in_ranges (flat_map (λ r. partners_of r pairs) rs) c) =
    λ c. ap (λ l. in_ranges l c) e ∙ in_ranges-append rs _ c in
    record {
      kept = λ c h. at c ∙ or_left _ _ h;
      reached = λ c l. elim (reached pairs rs l.source c l.listed l.member) [
        | inl own ↦ at c ∙ or_left _ _ own
        | inr other ↦ at c ∙ or_right _ _ other
      ];
      only = λ c h. elim (or_cases _ _ (sym (at c) ∙ h)) [ inl own ↦ inl own | inr other ↦ inr (led pairs rs c other) ];
    }
