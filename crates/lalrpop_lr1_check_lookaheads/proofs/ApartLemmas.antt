-- A state has no conflict exactly where its reductions share no token and none is before a shifted terminal: for the test of that.
use Rattle.std.proofs.Common.{◌≡◌, ◌∙◌, ◌↔◌, ℕ, zero, suc, ◌+◌, ◌<◌, Bool, true, false, ◌&&◌, ◌||◌, not}
use Rattle.std.proofs.Common.{List, [], ◌∷◌, ◌++◌}
use Rattle.std.proofs.Common.{refl, sym, ap, arith, length, take, Option, Some, None, slice_get, Contains, get_or}
use Rattle.std.specs.Prelude.{flat_map, if◌then◌else◌}
use Rattle.std.proofs.Common.{◌⊎◌, inl, inr}
use Rattle.std.proofs.lemmas.List.{take_all}
use Rattle.std.specs.List.{list_all}
use Rattle.lalrpop_grammar_repr.specs.Maps.{at_terminal}
use Rattle.lalrpop_grammar_repr.specs.declared.terminal_set.TerminalSet.{TerminalSet}
use Rattle.lalrpop_sets.specs.AscendingLists.{has}
use Rattle.lalrpop_sets.specs.Tokens.{has_number}
use Rattle.lalrpop_lr1_theory.proofs.ListLemmas.{contains_here, contains_later, contains_split, get_contains}
use Rattle.lalrpop_lr1_theory.proofs.StepLemmas.{some_same}
use Rattle.lalrpop_lr1_core.specs.Conflicts.{ReductionEntry, ShiftEntry, in_both, later_pairs, pair_conflict, pairs_conflicts}
use Rattle.lalrpop_lr1_core.specs.Conflicts.{shift_conflict, shift_conflicts, shift_record, token_conflicts}
use Rattle.lalrpop_lr1_core.specs.declared.state.State.{State}
use Rattle.lalrpop_lr1_core.specs.declared.state_index.StateIndex.{StateIndex}
use Rattle.lalrpop_lr1_core.proofs.ConflictLemmas.{has_in_both, no_pair}
use Rattle.lalrpop_lr1_core.proofs.MemberLemmas.{each_empty, flat_empty, in_pairs, joined_empty, pair_there}
use Rattle.lalrpop_lr1_check_lookaheads.specs.ApartSets.{ShareNone, AreReductionsApart, are_free, has_any, is_free}
use Rattle.lalrpop_lr1_check_lookaheads.proofs.GainLemmas.{taken_one}
use Rattle.lalrpop_lr1_theory.proofs.NameLemmas.{no_element}
use Rattle.lalrpop_lr1_core.proofs.NoConflictLemmas.{nothing_shared}

-- one set more
has_any-push : (rs : List ReductionEntry) (r : ReductionEntry) (k : ℕ) → has_any (rs ++ r ∷ []) k ≡ (has_any rs k || has r.0 k)
has_any-push [] r k = go (has r.0 k)
  where
    go : (b : Bool) → (b || false) ≡ b
    go true = refl
    go false = refl
has_any-push (s ∷ rs) r k = go (has s.0 k) (has_any-push rs r k)
  where
    go : (b : Bool) → has_any (rs ++ r ∷ []) k ≡ (has_any rs k || has r.0 k) →
        (b || has_any (rs ++ r ∷ []) k) ≡ ((b || has_any rs k) || has r.0 k)
    go true e = refl
    go false e = e

-- a test for a number in the first sets, or in the next one, is that test with one set more
pub has_any-more : (rs : List ReductionEntry) (i : ℕ) (r : ReductionEntry) (old new : ℕ → Bool) → i < length rs →
    r ≡ get_or rs i r → ((k : ℕ) → old k ≡ has_any (take i rs) k) → ((k : ℕ) → new k ≡ (old k || has r.0 k)) →
    (k : ℕ) → new k ≡ has_any (take (i + 1) rs) k
has_any-more rs i r old new h e before more k =
    more k ∙ ap (λ b. b || has r.0 k) (before k) ∙ sym (has_any-push (take i rs) r k)
    ∙ sym (ap (λ l. has_any l k) (taken_one rs i r h e))

-- apart from what is there is apart from those before
pub apart_of_same : (before there : ℕ → Bool) (set : List ℕ) (r : Bool) → ((k : ℕ) → there k ≡ before k) →
    ((r ≡ true) ↔ ShareNone there set) → (r ≡ true) ↔ ShareNone before set
apart_of_same before there set r same says = (
  λ e k. ap (λ b. b && has set k) (sym (same k)) ∙ says.0 e k,
  λ h. says.1 (λ k. ap (λ b. b && has set k) (same k) ∙ h k),
)

here_or_later : (a b : Bool) → (a || b) ≡ true → a ≡ false → b ≡ true
here_or_later true b e f = let w : ⊥ = cc in absurd w
here_or_later false b e f = e

in_any : (rs : List ReductionEntry) (r : ReductionEntry) (k : ℕ) → Contains rs r → has r.0 k ≡ true → has_any rs k ≡ true
in_any [] r k c h = absurd (no_element r c)
in_any (s ∷ rs) r k c h = go (has s.0 k) refl (contains_split s r rs c) (λ d. in_any rs r k d h)
  where
    go : (b : Bool) → has s.0 k ≡ b → (s ≡ r) ⊎ Contains rs r → (Contains rs r → has_any rs k ≡ true) →
        (b || has_any rs k) ≡ true
    go true e d rec = refl
    go false e (inl same) rec =
        let both : true ≡ false = sym h ∙ ap (λ (u : ReductionEntry). has u.0 k) (sym same) ∙ e in
        let w : ⊥ = cc in absurd w
    go false e (inr d) rec = rec d

in_taken : (rs : List ReductionEntry) (i j : ℕ) (r : ReductionEntry) (k : ℕ) → slice_get rs i ≡ Some r → i < j →
    has r.0 k ≡ true → has_any (take j rs) k ≡ true
in_taken [] i j r k e l h = let w : ⊥ = cc in absurd w
in_taken (s ∷ rs) i zero r k e l h = absurd (omega (arith, l))
in_taken (s ∷ rs) zero (suc j) r k e l h =
    let first : has s.0 k ≡ true = ap (λ (u : ReductionEntry). has u.0 k) (some_same s r e) ∙ h in
    ap (λ b. b || has_any (take j rs) k) first
in_taken (s ∷ rs) (suc i) (suc j) r k e l h = go (has s.0 k) (in_taken rs i j r k e (omega (arith, l)) h)
  where
    go : (b : Bool) → has_any (take j rs) k ≡ true → (b || has_any (take j rs) k) ≡ true
    go true f = refl
    go false f = f

-- one before the place has the number
pub record HasBefore (rs : List ReductionEntry) (j k : ℕ) : Type 0 where
  pub place : ℕ
  pub entry : ReductionEntry
  pub before : place < j
  pub at : slice_get rs place ≡ Some entry
  pub number : has entry.0 k ≡ true

of_taken : (rs : List ReductionEntry) (j k : ℕ) → has_any (take j rs) k ≡ true → HasBefore rs j k
of_taken [] zero k e = let w : ⊥ = cc in absurd w
of_taken [] (suc j) k e = let w : ⊥ = cc in absurd w
of_taken (s ∷ rs) zero k e = let w : ⊥ = cc in absurd w
of_taken (s ∷ rs) (suc j) k e = go (has s.0 k) refl (of_taken rs j k)
  where
    go : (b : Bool) → has s.0 k ≡ b → (has_any (take j rs) k ≡ true → HasBefore rs j k) → HasBefore (s ∷ rs) (suc j) k
    go true f rec = record { place = 0; entry = s; before = omega arith; at = refl; number = f }
    go false f rec =
        let r : HasBefore rs j k = rec (here_or_later (has s.0 k) (has_any (take j rs) k) e f) in
        record { place = suc r.place; entry = r.entry; before = omega (arith, r.before); at = r.at; number = r.number }

none_of_both : (state : StateIndex) (r s : ReductionEntry) (k : ℕ) → pair_conflict state (r, s) ≡ [] → has r.0 k ≡ true →
    has s.0 k ≡ false
none_of_both state r s k none one =
    sym (has_in_both r.0 s.0 k ∙ ap (λ c. c && has s.0 k) one)
    ∙ ap (λ l. has l k) (nothing_shared state (r, s) (in_both r.0 s.0) none)

has_all : {X : Type 0} (f : X → Bool) (xs : List X) (x : X) → list_all f xs ≡ true → Contains xs x → f x ≡ true
has_all f [] x e c = absurd (no_element x c)
has_all f (y ∷ xs) x e c = go (f y) refl e (contains_split y x xs c) (λ h d. has_all f xs x h d)
  where
    go : (b : Bool) → f y ≡ b → (b && list_all f xs) ≡ true → (y ≡ x) ⊎ Contains xs x →
        (list_all f xs ≡ true → Contains xs x → f x ≡ true) → f x ≡ true
    go false g h d rec = let w : ⊥ = cc in absurd w
    go true g h (inl same) rec = ap f (sym same) ∙ g
    go true g h (inr d) rec = rec h d

all_has : {X : Type 0} (f : X → Bool) (xs : List X) → ((x : X) → Contains xs x → f x ≡ true) → list_all f xs ≡ true
all_has f [] h = refl
all_has f (y ∷ xs) h =
    ap (λ b. b && list_all f xs) (h y (contains_here y xs)) ∙ all_has f xs (λ x c. h x (contains_later y x xs c))

module _ (ts : TerminalSet) (state : State (List ℕ)) where
  pairs_apart : AreReductionsApart state.reductions → pairs_conflicts state.index state.reductions ≡ []
  pairs_apart apart = each_empty (pair_conflict state.index) (later_pairs state.reductions) one
    where
      parted : (r s : ReductionEntry) (i j : ℕ) → i < j → slice_get state.reductions i ≡ Some r →
          slice_get state.reductions j ≡ Some s → (k : ℕ) → (has r.0 k && has s.0 k) ≡ false
      parted r s i j l at_i at_j k = go (has r.0 k) refl
        where
          go : (b : Bool) → has r.0 k ≡ b → (b && has s.0 k) ≡ false
          go false e = refl
          go true e =
              ap (λ b. b && has s.0 k) (sym (in_taken state.reductions i j r k at_i l e)) ∙ apart j s at_j k

      one : (p : ReductionEntry × ReductionEntry) → Contains (later_pairs state.reductions) p → pair_conflict state.index p ≡ []
      one p c =
          let d = in_pairs state.reductions p.0 p.1 c in
          sym (no_pair state.index p [] (parted p.0 p.1 d.0 d.1 d.2 d.3 d.4))

  empty_is : {X : Type 0} (xs : List X) → length xs ≡ 0 → xs ≡ []
  empty_is [] e = refl
  empty_is (x ∷ xs) e = absurd (omega (arith, e))

  parts : length (token_conflicts ts state) ≡ 0 → (flat_map (shift_conflicts ts state.index state.reductions) state.shifts ≡ [])
      × (pairs_conflicts state.index state.reductions ≡ [])
  parts none =
      joined_empty (flat_map (shift_conflicts ts state.index state.reductions) state.shifts)
      (pairs_conflicts state.index state.reductions) (empty_is (token_conflicts ts state) none)

  pub none_apart : length (token_conflicts ts state) ≡ 0 → AreReductionsApart state.reductions
  none_apart none j s at k = go (has_any (take j state.reductions) k) refl
    where
      go : (b : Bool) → has_any (take j state.reductions) k ≡ b → (b && has s.0 k) ≡ false
      go false e = refl
      go true e =
          let r = of_taken state.reductions j k e in
          none_of_both state.index r.entry s k
          (flat_empty (pair_conflict state.index) (later_pairs state.reductions) (r.entry, s) (parts none).1
          (pair_there state.reductions r.place j r.entry s r.at at r.before)) r.number

  module _ (set : List ℕ) (same : (k : ℕ) → has set k ≡ has_any state.reductions k) where
    abbrev Free : Type 0
    Free = are_free ts set state.shifts ≡ true

    shifts_free : Free → flat_map (shift_conflicts ts state.index state.reductions) state.shifts ≡ []
    shifts_free free = each_empty (shift_conflicts ts state.index state.reductions) state.shifts one
      where
        entry : (e : ShiftEntry) (n : Option ℕ) → not (has_number set n) ≡ true → (r : ReductionEntry) →
            Contains state.reductions r → (b : Bool) → has_number r.0 n ≡ b →
            (if b then shift_record state.index e n r.1 ∷ [] else []) ≡ []
        entry e n f r c false h = refl
        entry e None f r c true h = let w : ⊥ = cc in absurd w
        entry e (Some k) f r c true h =
            let both : false ≡ true = sym (ap not (same k ∙ in_any state.reductions r k c h)) ∙ f in
            let w : ⊥ = cc in absurd w

        one : (e : ShiftEntry) → Contains state.shifts e → shift_conflicts ts state.index state.reductions e ≡ []
        one e c =
            let n = at_terminal e.0 ts.bits in
            let f = has_all (λ (u : ShiftEntry). is_free ts set u.0) state.shifts e free c in
            each_empty (shift_conflict state.index e n) state.reductions (λ r d. entry e n f r d (has_number r.0 n) refl)

    -- no conflict, found by sets
    pub apart_none : AreReductionsApart state.reductions → Free → length (token_conflicts ts state) ≡ 0
    apart_none apart free =
        ap length (ap (λ l. l ++ pairs_conflicts state.index state.reductions) (shifts_free free) ∙ pairs_apart apart)

    pub none_free : length (token_conflicts ts state) ≡ 0 → Free
    none_free none = all_has (λ (u : ShiftEntry). is_free ts set u.0) state.shifts one
      where
        number : (e : ShiftEntry) (n : Option ℕ) → at_terminal e.0 ts.bits ≡ n → Contains state.shifts e → (b : Bool) →
            has_number set n ≡ b → not b ≡ true
        number e n f c false g = refl
        number e None f c true g = let w : ⊥ = cc in absurd w
        number e (Some k) f c true g =
            let rs = state.reductions in
            let whole : has_any (take (length rs) rs) k ≡ true =
            ap (λ l. has_any l k) (take_all (length rs) rs (omega arith)) ∙ sym (same k) ∙ g in
            let r = of_taken rs (length rs) k whole in
            let d = flat_empty (shift_conflicts ts state.index rs) state.shifts e (parts none).0 c in
            let own = flat_empty (shift_conflict state.index e (at_terminal e.0 ts.bits)) rs r.entry d
            (get_contains rs r.place r.entry r.at) in
            let has_it : has_number r.entry.0 (at_terminal e.0 ts.bits) ≡ true = ap (has_number r.entry.0) f ∙ r.number in
            let there : shift_record state.index e (at_terminal e.0 ts.bits) r.entry.1 ∷ [] ≡ [] =
            sym (ap (λ b. if b then shift_record state.index e (at_terminal e.0 ts.bits) r.entry.1 ∷ [] else []) has_it) ∙ own in
            let w : ⊥ = cc in absurd w

        one : (e : ShiftEntry) → Contains state.shifts e → is_free ts set e.0 ≡ true
        one e c = number e (at_terminal e.0 ts.bits) refl c (has_number set (at_terminal e.0 ts.bits)) refl
