-- Ranges that are put behind others, or joined to the last, one after another: for ranges that are joined in place.
use Rattle.std.proofs.Common.{◌≡◌, ◌∙◌, ◌↔◌, ◌⊎◌, ℕ, zero, suc, ◌+◌, ◌<◌, ◌≤◌, Bool, true, false, List, [], ◌∷◌, ◌++◌}
use Rattle.std.proofs.Common.{length, take, drop, set, get_or, refl, sym, ap, subst, inl, inr, ⊎_elim, arith, nat_eq}
use Rattle.std.specs.Prelude.{⊤, if◌then◌else◌}
use Rattle.std.proofs.lemmas.Bool.Decides.{Decides-eqb}
use Rattle.std.proofs.lemmas.List.{take_all, take_more}
use Rattle.lalrpop_lexer_pattern.specs.declared.class.Range.{Range}
use Rattle.lalrpop_lexer_pattern.specs.Ranges.{HasRisingRanges, InRanges, IsCanonical}
use Rattle.lalrpop_lexer_pattern.specs.TouchingRanges.{EndsBelow, joined_range, kept_with}

-- what a range and one of some ranges hold
abbrev Within : Range → ℕ → Type 0
Within r n = (r.start ≤ n) × (n ≤ r.end)

abbrev InSome : List Range → ℕ → Type 0
InSome [] n = ⊥
InSome (r ∷ rs) n = Within r n ⊎ InSome rs n

-- each has a member, and ends at least two below the start of the next
abbrev AreApart : List Range → Type 0
AreApart [] = ⊤
AreApart (r ∷ []) = r.start ≤ r.end
AreApart (r ∷ s ∷ rs) = (r.start ≤ r.end) × (r.end + 1 < s.start) × AreApart (s ∷ rs)

some_there : (rs : List Range) (n : ℕ) → InSome rs n → InRanges rs n
some_there [] n h = absurd h
some_there (r ∷ rs) n (inl w) = (r, (0, omega arith, refl), w.0, w.1)
some_there (r ∷ rs) n (inr h) =
    let m = some_there rs n h in (m.0, (suc m.1.0, omega (arith, m.1.1), m.1.2), m.2, m.3)

there_some : (rs : List Range) (k n : ℕ) (r : Range) → k < length rs → get_or rs k r ≡ r → Within r n → InSome rs n
there_some [] k n r h e w = absurd (omega (arith, h))
there_some (s ∷ rs) zero n r h e w = inl (subst (λ x. Within x n) (sym e) w)
there_some (s ∷ rs) (suc k) n r h e w = inr (there_some rs k n r (omega (arith, h)) e w)

ranges_some : (rs : List Range) (n : ℕ) → InRanges rs n → InSome rs n
ranges_some rs n m = there_some rs m.1.0 n m.0 m.1.1 m.1.2 (m.2, m.3)

some_append : (rs ss : List Range) (n : ℕ) → InSome (rs ++ ss) n ↔ (InSome rs n ⊎ InSome ss n)
some_append [] ss n = (λ h. inr h, λ h. ⊎_elim (λ z. absurd z) (λ g. g) h)
some_append (r ∷ rs) ss n =
    let rest = some_append rs ss n in (
      λ h. ⊎_elim (λ w. inl (inl w)) (λ g. ⊎_elim (λ a. inl (inr a)) (λ b. inr b) (rest.0 g)) h,
      λ h. ⊎_elim (λ a. ⊎_elim (λ w. inl w) (λ g. inr (rest.1 (inl g))) a) (λ b. inr (rest.1 (inr b))) h,
    )

-- one range more
first_start : (t : Range) (rs : List Range) (r : Range) → (u : Range) × (us : List Range) × (kept_with (t ∷ rs) r ≡ u ∷ us)
    × (u.start ≡ t.start)
first_start t [] r = go (nat_eq (t.end + 1) r.start)
  where
    go : (b : Bool) → (u : Range) × (us : List Range) × ((if b then joined_range t r ∷ [] else t ∷ r ∷ []) ≡ u ∷ us)
        × (u.start ≡ t.start)
    go true = (joined_range t r, [], refl, refl)
    go false = (t, r ∷ [], refl, refl)
first_start t (s ∷ rs) r = (t, kept_with (s ∷ rs) r, refl, refl)

not_next : (a b : ℕ) → nat_eq a b ≡ false → a ≡ b → ⊥
not_next a b e same = let both : true ≡ false = sym ((Decides-eqb a b).1 same) ∙ e in let w : ⊥ = cc in w

behind_apart : (s : Range) (us : List Range) (a : ℕ) (u : Range) (more : List Range) → us ≡ u ∷ more → u.start ≡ a →
    s.start ≤ s.end → s.end + 1 < a → AreApart us → AreApart (s ∷ us)
behind_apart s us a u more is start_is full gap apart =
    subst (λ l. AreApart (s ∷ l)) (sym is) (full, omega (arith, gap, start_is), subst AreApart is apart)

less_or : (a b : ℕ) → a ≤ b → (a < b) ⊎ (a ≡ b)
less_or zero zero l = inr refl
less_or zero (suc b) l = inl (omega arith)
less_or (suc a) zero l = absurd (omega (arith, l))
less_or (suc a) (suc b) l = ⊎_elim (λ c. inl (omega (arith, c))) (λ c. inr (ap suc c)) (less_or a b (omega (arith, l)))

kept_apart : (q : List Range) (r : Range) → AreApart q → r.start ≤ r.end → EndsBelow q r.start → AreApart (kept_with q r)
kept_apart [] r apart full below = full
kept_apart (s ∷ []) r apart full below = go (nat_eq (s.end + 1) r.start) refl
  where
    go : (b : Bool) → nat_eq (s.end + 1) r.start ≡ b → AreApart (if b then joined_range s r ∷ [] else s ∷ r ∷ [])
    go true e = omega (arith, apart, full, below)
    go false e = (apart, apart_by (not_next (s.end + 1) r.start e), full)
      where
        apart_by : (s.end + 1 ≡ r.start → ⊥) → s.end + 1 < r.start
        apart_by other = ⊎_elim (λ l. l) (λ z. absurd (other z)) (less_or (s.end + 1) r.start (omega (arith, below)))
kept_apart (s ∷ t ∷ q) r apart full below =
    let f = first_start t q r in
    behind_apart s (kept_with (t ∷ q) r) t.start f.0 f.1 f.2 f.3 apart.0 apart.1 (kept_apart (t ∷ q) r apart.2 full below)

kept_members : (q : List Range) (r : Range) (n : ℕ) → AreApart q → r.start ≤ r.end → EndsBelow q r.start →
    InSome (kept_with q r) n ↔ (InSome q n ⊎ Within r n)
kept_members [] r n apart full below = (λ h. ⊎_elim (λ w. inr w) (λ z. absurd z) h, λ h. ⊎_elim (λ z. absurd z) (λ w. inl w) h)
kept_members (s ∷ []) r n apart full below = go (nat_eq (s.end + 1) r.start) refl
  where
    cases : (a b : ℕ) → (a ≤ b) ⊎ (b < a)
    cases zero b = inl (omega arith)
    cases (suc a) zero = inr (omega arith)
    cases (suc a) (suc b) = ⊎_elim (λ l. inl (omega (arith, l))) (λ l. inr (omega (arith, l))) (cases a b)

    go : (b : Bool) → nat_eq (s.end + 1) r.start ≡ b →
        InSome (if b then joined_range s r ∷ [] else s ∷ r ∷ []) n ↔ (InSome (s ∷ []) n ⊎ Within r n)
    go true e =
        let next : s.end + 1 ≡ r.start = (Decides-eqb (s.end + 1) r.start).0 e in (
          λ h. ⊎_elim
              (λ w. ⊎_elim
              (λ l. inl (inl (w.0, l)))
              (λ l. inr (omega (arith, next, l), w.1)) (cases n s.end))
              (λ z. absurd z) h,
          λ h. ⊎_elim
              (λ a. ⊎_elim (λ w. inl (w.0, omega (arith, w.1, next, full))) (λ z. absurd z) a)
              (λ w. inl (omega (arith, w.0, next, apart), w.1)) h,
        )
    go false e = (
      λ h. ⊎_elim (λ w. inl (inl w)) (λ a. ⊎_elim (λ w. inr w) (λ z. absurd z) a) h,
      λ h. ⊎_elim (λ a. ⊎_elim (λ w. inl w) (λ z. absurd z) a) (λ w. inr (inl w)) h,
    )
kept_members (s ∷ t ∷ q) r n apart full below =
    let rest = kept_members (t ∷ q) r n apart.2 full below in (
      λ h. ⊎_elim (λ w. inl (inl w)) (λ g. ⊎_elim (λ a. inl (inr a)) (λ w. inr w) (rest.0 g)) h,
      λ h. ⊎_elim (λ a. ⊎_elim (λ w. inl w) (λ g. inr (rest.1 (inl g))) a) (λ w. inr (rest.1 (inr w))) h,
    )

kept_ends : (q : List Range) (r : Range) (b : ℕ) → r.end < b → EndsBelow (kept_with q r) b
kept_ends [] r b l = l
kept_ends (s ∷ []) r b l = go (nat_eq (s.end + 1) r.start)
  where
    go : (c : Bool) → EndsBelow (if c then joined_range s r ∷ [] else s ∷ r ∷ []) b
    go true = l
    go false = l
kept_ends (s ∷ t ∷ q) r b l = go (kept_with (t ∷ q) r) (first_start t q r) (kept_ends (t ∷ q) r b l)
  where
    go : (us : List Range) → (u : Range) × (more : List Range) × (us ≡ u ∷ more) × (u.start ≡ t.start) → EndsBelow us b →
        EndsBelow (s ∷ us) b
    go us f h = subst (λ l. EndsBelow (s ∷ l) b) (sym f.2) (subst (λ l. EndsBelow l b) f.2 h)

-- the first of the ranges, joined where they touch
pub record AreJoined (first kept : List Range) : Type 0 where
  pub apart : AreApart kept
  pub members : (n : ℕ) → InSome kept n ↔ InSome first n
  pub ends : (b : ℕ) → EndsBelow first b → EndsBelow kept b

pub joined_none : AreJoined [] []
joined_none = record { apart = tt; members = λ n. (λ h. h, λ h. h); ends = λ b h. h }

pub joined_more : (first kept : List Range) (r : Range) → AreJoined first kept → r.start ≤ r.end → EndsBelow first r.start →
    AreJoined (first ++ r ∷ []) (kept_with kept r)
joined_more first kept r j full below = record {
  apart = kept_apart kept r j.apart full (j.ends r.start below);
  members = λ n.
      let k = kept_members kept r n j.apart full (j.ends r.start below) in
      let a = some_append first (r ∷ []) n in (
        λ h. a.1 (⊎_elim (λ g. inl ((j.members n).0 g)) (λ w. inr (inl w)) (k.0 h)),
        λ h. k.1 (⊎_elim (λ g. inl ((j.members n).1 g)) (λ g. ⊎_elim (λ w. inr w) (λ z. absurd z) g) (a.0 h)),
      );
  ends = λ b h. kept_ends kept r b (last_below first r b h);
}
  where
    last_below : (rs : List Range) (x : Range) (b : ℕ) → EndsBelow (rs ++ x ∷ []) b → x.end < b
    last_below [] x b h = h
    last_below (s ∷ []) x b h = h
    last_below (s ∷ t ∷ rs) x b h = last_below (t ∷ rs) x b h

gap_from : (r : Range) (rs : List Range) (j : ℕ) (d : Range) → AreApart (r ∷ rs) → j < length rs → r.end + 1 < (get_or rs j d).start
gap_from r [] j d h l = absurd (omega (arith, l))
gap_from r (s ∷ rs) zero d h l = h.1
gap_from r (s ∷ []) (suc j) d h l = absurd (omega (arith, l))
gap_from r (s ∷ t ∷ rs) (suc j) d h l =
    let far = gap_from s (t ∷ rs) j d h.2 (omega (arith, l)) in omega (arith, far, h.1, h.2.0)

rest_apart : (r : Range) (rs : List Range) → AreApart (r ∷ rs) → AreApart rs
rest_apart r [] h = tt
rest_apart r (s ∷ rs) h = h.2

full_first : (r : Range) (rs : List Range) → AreApart (r ∷ rs) → r.start ≤ r.end
full_first r [] h = h
full_first r (s ∷ rs) h = h.0

-- what is joined to the end is canonical, and has the same members
pub joined_canonical : (first kept : List Range) → AreJoined first kept → IsCanonical kept
joined_canonical first kept j = record { nonempty = full kept j.apart; apart = gaps kept j.apart }
  where
    full : (rs : List Range) → AreApart rs → (k : ℕ) (d : Range) → k < length rs → (get_or rs k d).start ≤ (get_or rs k d).end
    full [] h k d l = absurd (omega (arith, l))
    full (r ∷ rs) h zero d l = full_first r rs h
    full (r ∷ rs) h (suc k) d l = full rs (rest_apart r rs h) k d (omega (arith, l))

    gaps : (rs : List Range) → AreApart rs → (i k : ℕ) (d : Range) → i < k → k < length rs →
        (get_or rs i d).end + 1 < (get_or rs k d).start
    gaps [] h i k d l m = absurd (omega (arith, m))
    gaps (r ∷ rs) h i zero d l m = absurd (omega (arith, l))
    gaps (r ∷ rs) h zero (suc k) d l m = gap_from r rs k d h (omega (arith, m))
    gaps (r ∷ rs) h (suc i) (suc k) d l m = gaps rs (rest_apart r rs h) i k d (omega (arith, l)) (omega (arith, m))

pub joined_members : (first kept : List Range) → AreJoined first kept → (n : ℕ) → InRanges kept n ↔ InRanges first n
joined_members first kept j n = (
  λ m. some_there first n ((j.members n).0 (ranges_some kept n m)),
  λ m. some_there kept n ((j.members n).1 (ranges_some first n m)),
)

-- the last of the first ranges
pub ends_taken : (rs : List Range) (k b : ℕ) (d : Range) → k < length rs → EndsBelow (take (suc k) rs) b ↔ ((get_or rs k d).end < b)
ends_taken [] k b d l = absurd (omega (arith, l))
ends_taken (r ∷ rs) zero b d l = (λ h. h, λ h. h)
ends_taken (r ∷ []) (suc k) b d l = absurd (omega (arith, l))
ends_taken (r ∷ s ∷ rs) (suc k) b d l = ends_taken (s ∷ rs) k b d (omega (arith, l))

-- of ascending ranges the first ones end below the next
pub ascending_below : (rs : List Range) (i : ℕ) (d : Range) → HasRisingRanges rs → i < length rs →
    EndsBelow (take i rs) (get_or rs i d).start
ascending_below rs zero d h l = tt
ascending_below rs (suc i) d h l =
    (ends_taken rs i (get_or rs (suc i) d).start d (omega (arith, l))).1 (h.apart i (suc i) d (omega arith) l)

-- a range is joined to the last of the first ones, or put behind them
pub last_joined : (rs : List Range) (k : ℕ) (s r : Range) → k < length rs → s ≡ get_or rs k s → s.end + 1 ≡ r.start →
    take (suc k) (set rs k (joined_range s r)) ≡ kept_with (take (suc k) rs) r
last_joined [] k s r l e next = absurd (omega (arith, l))
last_joined (x ∷ rs) zero s r l e next =
    let touching : nat_eq (x.end + 1) r.start ≡ true =
    (Decides-eqb (x.end + 1) r.start).1 (ap (λ (y : Range). y.end + 1) (sym e) ∙ next) in
    ap (λ (y : Range). joined_range y r ∷ []) e
    ∙ ap (λ b. if b then joined_range x r ∷ [] else x ∷ r ∷ []) (sym touching)
last_joined (x ∷ []) (suc k) s r l e next = absurd (omega (arith, l))
last_joined (x ∷ y ∷ rs) (suc k) s r l e next = ap (λ q. x ∷ q) (last_joined (y ∷ rs) k s r (omega (arith, l)) e next)

pub last_apart : (rs : List Range) (k : ℕ) (s r : Range) → k < length rs → s ≡ get_or rs k s → (s.end + 1 ≡ r.start → ⊥) →
    kept_with (take (suc k) rs) r ≡ take (suc k) rs ++ r ∷ []
last_apart [] k s r l e other = absurd (omega (arith, l))
last_apart (x ∷ rs) zero s r l e other = go (nat_eq (x.end + 1) r.start) refl
  where
    go : (b : Bool) → nat_eq (x.end + 1) r.start ≡ b → (if b then joined_range x r ∷ [] else x ∷ r ∷ []) ≡ x ∷ r ∷ []
    go true f = absurd (other (ap (λ (y : Range). y.end + 1) e ∙ (Decides-eqb (x.end + 1) r.start).0 f))
    go false f = refl
last_apart (x ∷ []) (suc k) s r l e other = absurd (omega (arith, l))
last_apart (x ∷ y ∷ rs) (suc k) s r l e other = ap (λ q. x ∷ q) (last_apart (y ∷ rs) k s r (omega (arith, l)) e other)

drop_none : (n : ℕ) → drop {A = Range} n [] ≡ []
drop_none zero = refl
drop_none (suc n) = refl

-- what is left behind more of two lists is equal where it is behind fewer
rest_further : (xs ys : List Range) (k n : ℕ) → k ≤ n → drop k xs ≡ drop k ys → drop n xs ≡ drop n ys
rest_further xs ys zero n l e = ap (drop n) e
rest_further xs ys (suc k) zero l e = absurd (omega (arith, l))
rest_further [] [] (suc k) (suc n) l e = refl
rest_further [] (y ∷ ys) (suc k) (suc n) l e =
    sym (drop_none n) ∙ rest_further [] ys k n (omega (arith, l)) (drop_none k ∙ e)
rest_further (x ∷ xs) [] (suc k) (suc n) l e =
    rest_further xs [] k n (omega (arith, l)) (e ∙ sym (drop_none k)) ∙ drop_none n
rest_further (x ∷ xs) (y ∷ ys) (suc k) (suc n) l e = rest_further xs ys k n (omega (arith, l)) e

-- what is read behind equal fronts
pub read_rest : (xs ys : List Range) (k : ℕ) (d : Range) → k < length xs → k < length ys → drop k xs ≡ drop k ys →
    get_or xs k d ≡ get_or ys k d
read_rest [] ys k d l m e = absurd (omega (arith, l))
read_rest (x ∷ xs) [] k d l m e = absurd (omega (arith, m))
read_rest (x ∷ xs) (y ∷ ys) zero d l m e = let same : x ≡ y = cc in same
read_rest (x ∷ xs) (y ∷ ys) (suc k) d l m e = read_rest xs ys k d (omega (arith, l)) (omega (arith, m)) e

-- the first ranges are joined at the front, and the others are as they were
pub record AreKept (given now : List Range) (kept index : ℕ) : Type 0 where
  pub fewer : kept ≤ index
  pub count : length now ≡ length given
  pub rest : drop index now ≡ drop index given
  pub joined : AreJoined (take index given) (take kept now)

module _ (given : List Range) (ascending : HasRisingRanges given) where
  pub kept_none : AreKept given given 0 0
  kept_none = record { fewer = omega arith; count = refl; rest = refl; joined = joined_none }

  module _ (now : List Range) (kept index : ℕ) (r : Range) (k : AreKept given now kept index) (inside : index < length now)
      (read : r ≡ get_or now index r) where
    same : get_or given index r ≡ r
    same = sym (read_rest now given index r inside (omega (arith, inside, k.count)) k.rest) ∙ sym read

    below : EndsBelow (take index given) r.start
    below = subst (λ (x : Range). EndsBelow (take index given) x.start) same
        (ascending_below given index r ascending (omega (arith, inside, k.count)))

    -- the next range starts above the last that is kept
    pub kept_below : EndsBelow (take kept now) r.start
    kept_below = k.joined.ends r.start below

    -- with it one more of the first is joined
    pub kept_more : (new : List Range) (more : ℕ) → length new ≡ length now → more ≤ kept + 1 →
        drop (kept + 1) new ≡ drop (kept + 1) now → take more new ≡ kept_with (take kept now) r → AreKept given new more (index + 1)
    kept_more new more count few rest is = record {
      fewer = omega (arith, few, k.fewer);
      count = count ∙ k.count;
      rest = rest_further new now (kept + 1) (index + 1) (omega (arith, k.fewer)) rest
          ∙ rest_further now given index (index + 1) (omega arith) k.rest;
      joined = subst (λ q. AreJoined (take (index + 1) given) q) (sym is)
          (subst (λ p. AreJoined p (kept_with (take kept now) r)) (sym taken)
          (joined_more (take index given) (take kept now) r k.joined full below));
    }
      where
        taken : take (index + 1) given ≡ take index given ++ r ∷ []
        taken = take_more given index r (omega (arith, inside, k.count)) ∙ ap (λ x. take index given ++ x ∷ []) same

        full : r.start ≤ r.end
        full = subst (λ (x : Range). x.start ≤ x.end) same (ascending.nonempty index r (omega (arith, inside, k.count)))

  -- all ranges are joined
  pub kept_joined : (now : List Range) (kept index : ℕ) → AreKept given now kept index → length given ≤ index →
      AreJoined given (take kept now)
  kept_joined now kept index k past = subst (λ p. AreJoined p (take kept now)) (take_all index given past) k.joined
