-- Sets as ranges and an end: what they have, and that they stay such when numbers come and go; for token_set.
use Rattle.std.proofs.Common.{◌≡◌, ℕ, ◌+◌, ◌-◌, ◌≤◌, Bool, true, false, not, ◌||◌, ◌&&◌, List, [], ◌∷◌, eqb}
use Rattle.std.proofs.Common.{refl, sym, ap, ◌∙◌, subst, arith, ◌⊎◌, inl, inr, Option, Some, None}
use Rattle.std.proofs.lemmas.Bool.Decides.{nat_tests}
use Rattle.std.specs.List.{range_with_len}
use Rattle.std.specs.Option.{MatchOption, is_some}
use Rattle.lalrpop_sets.specs.AscendingLists.{has, Ascends}
use Rattle.lalrpop_sets.specs.Ranges.{AreRanges, RangesFrom, covers, covers_end, is_covered, numbers_in_ranges, most_ranges, range_of, token_numbers, with_end}
use Rattle.lalrpop_sets.specs.RangeWalks.{from_head}
use Rattle.lalrpop_sets.specs.Tokens.{is_number}
use Rattle.lalrpop_sets.specs.declared.token_range.TokenRange.{TokenRange}
use Rattle.lalrpop_sets.proofs.RangeLemmas.{and_false, asc_tokens, covered_end, has_of_range, has_tokens, neither, or_false, or_swap, ranges_end}
use Rattle.lalrpop_sets.proofs.AscendingListLemmas.{asc_range, asc_same, cases_eq, eqb_flip, eqb_not, eqb_self}

-- nothing is in no ranges without an end
pub tokens_nil : token_numbers [] None ≡ []
unfolding token_numbers
tokens_nil = refl

pub no_ranges : (rs : List TokenRange) (capacity : ℕ) → rs ≡ [] → AreRanges rs None capacity
no_ranges rs capacity e =
    subst (λ l. AreRanges l None capacity) (sym e) (record { apart = tt; free = refl; room = omega arith })

pub same_ranges : (rs rs' : List TokenRange) (end : Option ℕ) (capacity capacity' : ℕ) → AreRanges rs end capacity → rs' ≡ rs
    → capacity ≤ capacity' → AreRanges rs' end capacity'
same_ranges rs rs' end capacity capacity' a e l =
    subst (λ x. AreRanges x end capacity') (sym e)
    (record { apart = a.apart; free = a.free; room = (let r = a.room in omega (arith, r, l)) })

pub kept_ranges : (rs rs' : List TokenRange) (end : Option ℕ) (capacity capacity' : ℕ) → AreRanges rs end capacity → rs' ≡ rs
    → most_ranges rs' ≤ capacity' → AreRanges rs' end capacity'
kept_ranges rs rs' end capacity capacity' a e l =
    record { apart = subst (RangesFrom 2 0) (sym e) a.apart; free = ap (λ x. covers_end x end) e ∙ a.free; room = l }

-- a walk over the ranges and the end
pub walk_numbers : (rs ps : List TokenRange) (end : Option ℕ) → ps ≡ with_end end rs → numbers_in_ranges ps ≡ token_numbers rs end
unfolding token_numbers
walk_numbers rs ps end e = ap numbers_in_ranges e

module _ (rs : List TokenRange) (end : Option ℕ) (capacity : ℕ) (a : AreRanges rs end capacity) where
  pub has_set : (k : ℕ) → has (token_numbers rs end) k ≡ (is_number end k || is_covered rs k)
  has_set k = has_tokens rs end k a.apart a.free ∙ covered_end end rs k

  pub asc_set : Ascends (token_numbers rs end)
  asc_set = asc_tokens rs end a.apart a.free

  pub walk_covered : (ps : List TokenRange) → ps ≡ with_end end rs → (k : ℕ) → is_covered ps k ≡ has (token_numbers rs end) k
  walk_covered ps e k = ap (λ l. is_covered l k) e ∙ sym (has_tokens rs end k a.apart a.free)

  pub walk_ordered : (ps : List TokenRange) → ps ≡ with_end end rs → RangesFrom 1 0 ps
  walk_ordered ps e = subst (RangesFrom 1 0) (sym e) (ranges_end end rs a.apart a.free)

  pub lacked : (k : ℕ) → has (token_numbers rs end) k ≡ false → (is_number end k ≡ false) × (is_covered rs k ≡ false)
  lacked k e = neither (is_number end k) (is_covered rs k) (sym (has_set k) ∙ e)

  -- a number that comes into the ranges
  module _ (rs' : List TokenRange) (capacity' k : ℕ) (apart : RangesFrom 2 0 rs') (put : (j : ℕ) → is_covered rs' j ≡ (eqb j k || is_covered rs j)) (room : most_ranges rs' ≤ capacity') (lacks : has (token_numbers rs end) k ≡ false) where
    still_free : covers_end rs' end ≡ false
    still_free = go end a.free (lacked k lacks).0
      where
        go : (o : Option ℕ) → covers_end rs o ≡ false → is_number o k ≡ false → covers_end rs' o ≡ false
        go None f n = refl
        go (Some e) f n = put e ∙ ap (λ b. b || is_covered rs e) (eqb_flip e k ∙ n) ∙ f

    pub put_ranges : AreRanges rs' end capacity'
    put_ranges = record { apart = apart; free = still_free; room = room }

  pub put_has : (rs' : List TokenRange) (capacity' k : ℕ) → AreRanges rs' end capacity'
      → ((j : ℕ) → is_covered rs' j ≡ (eqb j k || is_covered rs j)) → (j : ℕ)
      → has (token_numbers rs' end) j ≡ (eqb j k || has (token_numbers rs end) j)
  put_has rs' capacity' k b put j =
      has_tokens rs' end j b.apart b.free ∙ covered_end end rs' j ∙ ap (λ c. is_number end j || c) (put j)
      ∙ or_swap (is_number end j) (eqb j k) (is_covered rs j) ∙ ap (λ c. eqb j k || c) (sym (has_set j))

  -- an end that goes
  pub endless : AreRanges rs None capacity
  endless = record { apart = a.apart; free = refl; room = a.room }

  pub endless_has : (k : ℕ) → is_number end k ≡ true → (j : ℕ)
      → has (token_numbers rs None) j ≡ (not (eqb j k) && has (token_numbers rs end) j)
  endless_has k e j =
      has_tokens rs None j a.apart refl ∙ go end a.free e ∙ sym (ap (λ c. not (eqb j k) && c) (has_set j))
    where
      go : (o : Option ℕ) → covers_end rs o ≡ false → is_number o k ≡ true → is_covered rs j ≡ (not (eqb j k) && (is_number o j || is_covered rs j))
      go None f n = let z : ⊥ = cc in absurd z
      go (Some e) f n = side (cases_eq j k)
        where
          same : k ≡ e
          same = grind (arith, nat_tests)

          side : (j ≡ k) ⊎ (j ≡ k → ⊥) → is_covered rs j ≡ (not (eqb j k) && (eqb j e || is_covered rs j))
          side (inl i) =
              ap (is_covered rs) (i ∙ same) ∙ f ∙ sym (ap (λ b. not b && (eqb j e || is_covered rs j)) (ap (λ x. eqb x k) i ∙ eqb_self k))
          side (inr i) =
              sym (ap (λ b. not b && (eqb j e || is_covered rs j)) (eqb_not j k i)
              ∙ ap (λ b. b || is_covered rs j) (ap (eqb j) (sym same) ∙ eqb_not j k i))

  pub end_taken : (k : ℕ) → is_number end k ≡ true → has (token_numbers rs end) k ≡ true
  end_taken k e = has_set k ∙ ap (λ b. b || is_covered rs k) e

  -- a number that goes out of the ranges
  pub out_ranges : (rs' : List TokenRange) (capacity' k : ℕ) → RangesFrom 2 0 rs'
      → ((j : ℕ) → is_covered rs' j ≡ (not (eqb j k) && is_covered rs j)) → most_ranges rs' ≤ capacity' → AreRanges rs' end capacity'
  out_ranges rs' capacity' k apart gone room = record { apart = apart; free = go end a.free; room = room }
    where
      go : (o : Option ℕ) → covers_end rs o ≡ false → covers_end rs' o ≡ false
      go None f = refl
      go (Some e) f = gone e ∙ ap (λ c. not (eqb e k) && c) f ∙ and_false (not (eqb e k))

  pub out_has : (rs' : List TokenRange) (capacity' k : ℕ) → is_number end k ≡ false → AreRanges rs' end capacity'
      → ((j : ℕ) → is_covered rs' j ≡ (not (eqb j k) && is_covered rs j)) → (j : ℕ)
      → has (token_numbers rs' end) j ≡ (not (eqb j k) && has (token_numbers rs end) j)
  out_has rs' capacity' k n b gone j =
      has_tokens rs' end j b.apart b.free ∙ covered_end end rs' j ∙ ap (λ c. is_number end j || c) (gone j) ∙ go (cases_eq j k)
      ∙ sym (ap (λ c. not (eqb j k) && c) (has_set j))
    where
      go : (j ≡ k) ⊎ (j ≡ k → ⊥)
          → (is_number end j || (not (eqb j k) && is_covered rs j)) ≡ (not (eqb j k) && (is_number end j || is_covered rs j))
      go (inl i) =
          let t : eqb j k ≡ true = ap (λ x. eqb x k) i ∙ eqb_self k in
          ap (λ c. is_number end j || (not c && is_covered rs j)) t ∙ or_false (is_number end j) ∙ ap (is_number end) i ∙ n
          ∙ sym (ap (λ c. not c && (is_number end j || is_covered rs j)) t)
      go (inr i) =
          let t : eqb j k ≡ false = eqb_not j k i in
          ap (λ c. is_number end j || (not c && is_covered rs j)) t ∙ sym (ap (λ c. not c && (is_number end j || is_covered rs j)) t)

  pub out_was : (k : ℕ) → is_number end k ≡ false → is_covered rs k ≡ has (token_numbers rs end) k
  out_was k n = sym (has_set k ∙ ap (λ c. c || is_covered rs k) n)

-- an end that comes
pub ended : (rs : List TokenRange) (capacity k : ℕ) → AreRanges rs None capacity → has (token_numbers rs None) k ≡ false
    → AreRanges rs (Some k) capacity
ended rs capacity k a e = record { apart = a.apart; free = (lacked rs None capacity a k e).1; room = a.room }

pub ended_has : (rs : List TokenRange) (capacity k : ℕ) → AreRanges rs None capacity → AreRanges rs (Some k) capacity → (j : ℕ)
    → has (token_numbers rs (Some k)) j ≡ (eqb j k || has (token_numbers rs None) j)
ended_has rs capacity k a b j =
    has_set rs (Some k) capacity b j ∙ ap (λ c. eqb j k || c) (sym (has_set rs None capacity a j))

-- a number that is there comes not again
pub comes_not : (s : List ℕ) (k : ℕ) → has s k ≡ true → (j : ℕ) → has s j ≡ (eqb j k || has s j)
comes_not s k e j = go (cases_eq j k)
  where
    go : (j ≡ k) ⊎ (j ≡ k → ⊥) → has s j ≡ (eqb j k || has s j)
    go (inl i) =
        ap (has s) i ∙ e ∙ sym (ap (λ b. b || has s j) (ap (λ x. eqb x k) i ∙ eqb_self k))
    go (inr i) = sym (ap (λ b. b || has s j) (eqb_not j k i))

-- all terminals and the end
pub full_apart : (n : ℕ) (rs : List TokenRange) → rs ≡ range_of 0 n ∷ [] → RangesFrom 2 0 rs
full_apart n rs e = subst (RangesFrom 2 0) (sym e) (omega arith, omega arith, tt)

full_has : (n k : ℕ) → is_covered (range_of 0 n ∷ []) k ≡ has (range_with_len 0 (n + 1)) k
full_has n k =
    or_false (covers (range_of 0 n) k) ∙ sym (has_of_range (range_of 0 n) k (omega arith))
    ∙ ap (λ m. has (range_with_len 0 m) k) (let z : n - 0 + 1 ≡ n + 1 = omega arith in z)

pub full_numbers : (n capacity : ℕ) (rs full : List TokenRange) (end : Option ℕ) → AreRanges rs end capacity → full ≡ range_of 0 n ∷ []
    → ((k : ℕ) → (is_number end k || is_covered rs k) ≡ is_covered full k) → token_numbers rs end ≡ range_with_len 0 (n + 1)
full_numbers n capacity rs full end a e same =
    asc_same 0 0 (token_numbers rs end) (range_with_len 0 (n + 1)) (asc_set rs end capacity a) (asc_range 0 (n + 1))
    (λ k. has_set rs end capacity a k ∙ same k ∙ ap (λ l. is_covered l k) e ∙ full_has n k)

-- of an answer that may be none
pub some_found : (o : Option ℕ) (A : Type 0) (B : ℕ → Type 0) → MatchOption o A B → is_some o ≡ true → (k : ℕ) × B k
some_found None A B m e = let z : ⊥ = cc in absurd z
some_found (Some k) A B m e = (k, m)

pub none_found : (o : Option ℕ) (A : Type 0) (B : ℕ → Type 0) → MatchOption o A B → is_some o ≡ false → A
none_found None A B m e = m
none_found (Some k) A B m e = let z : ⊥ = cc in absurd z

-- a walk that is at no range has nothing to come
pub head_gone : (h : Option TokenRange) (rs : List TokenRange) → is_some h ≡ false → (k : ℕ) → is_covered (from_head h rs) k ≡ false
head_gone None rs e k = refl
head_gone (Some r) rs e k = let z : ⊥ = cc in absurd z

-- what has all of the other is the union
pub union_all : (x y : Bool) → (y ≡ true → x ≡ true) → x ≡ (x || y)
union_all true y f = refl
union_all false true f = let z : ⊥ = let e = f refl in cc in absurd z
union_all false false f = refl

-- the number of the end, where the ranges had it
took_same : (e : ℕ) (old new : List TokenRange) → is_covered old e ≡ true → ((j : ℕ) → is_covered new j ≡ (not (eqb j e) && is_covered old j))
    → (k : ℕ) → (eqb k e || is_covered new k) ≡ is_covered old k
took_same e old new h gone k = go (cases_eq k e)
  where
    go : (k ≡ e) ⊎ (k ≡ e → ⊥) → (eqb k e || is_covered new k) ≡ is_covered old k
    go (inl i) = ap (λ b. b || is_covered new k) (ap (λ x. eqb x e) i ∙ eqb_self e) ∙ sym (ap (is_covered old) i ∙ h)
    go (inr i) =
        ap (λ b. b || is_covered new k) (eqb_not k e i) ∙ gone k ∙ ap (λ b. not b && is_covered old k) (eqb_not k e i)

pub took_end : (e : ℕ) (old new : List TokenRange) (answer : Bool) → answer ≡ is_covered old e → answer ≡ true
    → ((j : ℕ) → is_covered new j ≡ (not (eqb j e) && is_covered old j)) → (k : ℕ) → (eqb k e || is_covered new k) ≡ is_covered old k
took_end e old new answer w h gone = took_same e old new (sym w ∙ h) gone

pub took_free : (e : ℕ) (old new : List TokenRange) → ((j : ℕ) → is_covered new j ≡ (not (eqb j e) && is_covered old j)) → is_covered new e ≡ false
took_free e old new gone = gone e ∙ ap (λ b. not b && is_covered old e) (eqb_self e)

pub none_is : (o : Option ℕ) → is_some o ≡ false → o ≡ None
none_is None e = refl
none_is (Some k) e = let z : ⊥ = cc in absurd z

-- a new end where there was none, and its number was nowhere
module _ (rs : List TokenRange) (end : Option ℕ) (capacity k : ℕ) (s : List ℕ) (a : AreRanges rs end capacity) (none : end ≡ None) (view : token_numbers rs end ≡ s) (lacks : has s k ≡ false) where
  without_end : AreRanges rs None capacity
  without_end = subst (λ o. AreRanges rs o capacity) none a

  seen : token_numbers rs None ≡ s
  seen = ap (token_numbers rs) (sym none) ∙ view

  pub new_end : AreRanges rs (Some k) capacity
  new_end = ended rs capacity k without_end (ap (λ l. has l k) seen ∙ lacks)

  pub new_end_has : (j : ℕ) → has (token_numbers rs (Some k)) j ≡ (eqb j k || has s j)
  new_end_has j = ended_has rs capacity k without_end new_end j ∙ ap (λ l. eqb j k || has l j) seen

pub or_same : (b : Bool) → (b || b) ≡ b
or_same true = refl
or_same false = refl
