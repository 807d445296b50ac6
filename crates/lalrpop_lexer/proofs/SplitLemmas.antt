-- Groups of alphabet classes with one more split, and told apart by one more edge. For `Partition`'s functions and `groups_of`.
use Rattle.std.proofs.Common.{◌≡◌, ℕ, ◌+◌, ◌<◌, ◌≤◌, ◌⊎◌, ◌↔◌, List, [], ◌∷◌, ◌++◌}
use Rattle.std.proofs.Common.{length, get_or, set, map, Contains, All, Bool, true, false, cond, eqb, eq-eqb, Option, Some, None, inl, inr}
use Rattle.std.proofs.Common.{⊎_elim, sym, ap, ◌∙◌, refl, subst, arith}
use Rattle.std.specs.Prelude.{filter, replicate}
use Rattle.std.proofs.lemmas.Bool.{cases_lt, cases_eq, eqb-true}
use Rattle.std.proofs.lemmas.List.{get_or-set_same, get_or-set_other, get_or_append_left, get_or_push, length_push}
use Rattle.std.proofs.lemmas.List.{length-set, get_or-replicate, length-replicate}
use Rattle.std.proofs.lemmas.List.Elements.{All-get_or, All-set, All-weaker, All-contains, All-from_get_or}
use Rattle.lalrpop_lexer_nfa.specs.declared.edge.Edge.{Edge}
use Rattle.lalrpop_lexer_nfa.specs.declared.test.Test.{Test}
use Rattle.lalrpop_lexer_nfa.specs.Paths.{Graph, TransitionEdge, HasTransition, transition_view}
use Rattle.lalrpop_lexer_nfa.specs.Ranges.{TestHolds}
use Rattle.lalrpop_lexer_nfa.proofs.ListLemmas.{Contains-nil, Contains-head, Contains-tail, Contains-cons_cases, Contains-map}
use Rattle.lalrpop_lexer_nfa.proofs.ListLemmas.{Contains-from_map, Contains-filter, Contains-from_filter}
use Rattle.lalrpop_lexer.specs.declared.partition.Split.{Split}
use Rattle.lalrpop_lexer.specs.Targets.{start_at}
use Rattle.lalrpop_lexer.specs.Splits.{HasOnePairMore, IsSplit, split_at, HavePairs, ArePairs, SplitsOff, SplitsBy, KeepsPairs}
use Rattle.lalrpop_lexer.specs.Groups.{AreGroups, AreMarkedGroups}

-- a split stays one where groups below keep their pairs
IsSplit-later : (pairs more : ℕ → List (ℕ × ℕ)) (n m : ℕ) (read : List (ℕ × ℕ)) (s : Option Split) → n ≤ m
    → ((g : ℕ) → g < n → more g ≡ pairs g) → IsSplit pairs n read s → IsSplit more m read s
IsSplit-later pairs more n m read None order same h = h
IsSplit-later pairs more n m read (Some s) order same h =
    (omega (arith, h.0), let P : List (ℕ × ℕ) → Type 0 = HasOnePairMore (s.from, s.to) read in subst P (sym (same s.group h.0)) h.1)

-- the group that was split off last
pub split_known : (splits : List (Option Split)) (group from to : ℕ) (s : Split) → group < length splits
    → split_at splits group ≡ Some s → s.from ≡ from → s.to ≡ to
    → (pairs : ℕ → List (ℕ × ℕ)) × HavePairs pairs splits
    → SplitsOff group from to splits splits s.group
split_known splits group from to s l is at_from at_to some = record {
  longer = omega arith;
  inside = (here some.0 some.1).0;
  keeps = λ pairs h. (pairs, h, λ g k. refl, (here pairs h).1);
}
  where
    here : (pairs : ℕ → List (ℕ × ℕ)) → HavePairs pairs splits → (s.group < length splits)
        × HasOnePairMore (from, to) (pairs group) (pairs s.group)
    here pairs h =
        let P : Option Split → Type 0 = IsSplit pairs (length splits) (pairs group) in
        let found : IsSplit pairs (length splits) (pairs group) (Some s) = subst P is (h.each group l) in
        let Q : ℕ → Type 0 = λ a. HasOnePairMore (a, s.to) (pairs group) (pairs s.group) in
        let R : ℕ → Type 0 = λ b. HasOnePairMore (from, b) (pairs group) (pairs s.group) in
        (found.0, subst R at_to (subst Q at_from found.1))

-- the pairs of the groups once one more is made from a group
abbrev pairs_with : (ℕ → List (ℕ × ℕ)) → ℕ → ℕ × ℕ → ℕ → ℕ → List (ℕ × ℕ)
pairs_with pairs group pair n g = cond (eqb g n) (pair ∷ pairs group) (pairs g)

with_new : (pairs : ℕ → List (ℕ × ℕ)) (group : ℕ) (pair : ℕ × ℕ) (n : ℕ)
    → pairs_with pairs group pair n n ≡ pair ∷ pairs group
with_new pairs group pair n = rw (eq-eqb n n refl) refl

with_old : (pairs : ℕ → List (ℕ × ℕ)) (group : ℕ) (pair : ℕ × ℕ) (n g : ℕ) → g < n
    → pairs_with pairs group pair n g ≡ pairs g
with_old pairs group pair n g l = go (eqb g n) refl
  where
    go : (b : Bool) → eqb g n ≡ b → cond b (pair ∷ pairs group) (pairs g) ≡ pairs g
    go true e = absurd (omega (arith, eqb-true g n e))
    go false e = refl

one_pair_more : (pair : ℕ × ℕ) (old : List (ℕ × ℕ)) → HasOnePairMore pair old (pair ∷ old)
one_pair_more pair old p = (
  λ h. ⊎_elim (λ at. inr (sym at)) (λ more. inl more) (Contains-cons_cases pair old p h),
  λ h. ⊎_elim (λ there. Contains-tail pair old p there)
      (λ at. let P : ℕ × ℕ → Type 0 = Contains (pair ∷ old) in subst P (sym at) (Contains-head pair old)) h,
)

-- one more group, split off from a group
pub split_new : (splits : List (Option Split)) (group from to : ℕ) (s : Split) → group < length splits
    → s.from ≡ from → s.to ≡ to → s.group ≡ length splits →
    SplitsOff group from to splits (set (splits ++ None ∷ []) group (Some s)) (length splits)
split_new splits group from to s l at_from at_to at_group = record {
  longer = omega (arith, size);
  inside = omega (arith, size);
  keeps = λ pairs h.
      let more : ℕ → List (ℕ × ℕ) = pairs_with pairs group (from, to) (length splits) in
      let old : (g : ℕ) → g < length splits → more g ≡ pairs g = λ g k. with_old pairs group (from, to) (length splits) g k in
      let P : List (ℕ × ℕ) → Type 0 = HasOnePairMore (from, to) (pairs group) in
      let one : HasOnePairMore (from, to) (pairs group) (more (length splits)) =
      subst P (sym (with_new pairs group (from, to) (length splits))) (one_pair_more (from, to) (pairs group)) in (
        more,
        record { each = λ g k. each pairs more h old one g (omega (arith, size)) },
        old,
        one,
      );
}
  where
    nothing : Option Split
    nothing = None

    size : length (set (splits ++ None ∷ []) group (Some s)) ≡ length splits + 1
    size = length-set (splits ++ None ∷ []) group (Some s) ∙ length_push splits None

    each : (pairs more : ℕ → List (ℕ × ℕ)) → HavePairs pairs splits → ((g : ℕ) → g < length splits → more g ≡ pairs g)
        → HasOnePairMore (from, to) (pairs group) (more (length splits)) → (g : ℕ) → g < length splits + 1
        → IsSplit more (length (set (splits ++ None ∷ []) group (Some s))) (more g)
        (split_at (set (splits ++ None ∷ []) group (Some s)) g)
    each pairs more h old one g k =
        let P : Option Split → Type 0 = IsSplit more (length (set (splits ++ None ∷ []) group (Some s))) (more g) in
        let within : length splits < length (splits ++ None ∷ []) = omega (arith, length_push splits nothing) in
        ⊎_elim
        (λ (at : g ≡ group).
        let here : split_at (set (splits ++ None ∷ []) group (Some s)) g ≡ Some s =
        ap (split_at (set (splits ++ None ∷ []) group (Some s))) at
        ∙ get_or-set_same (splits ++ None ∷ []) group (Some s) None (omega arith) in
        let Q : ℕ → Type 0 = λ a. HasOnePairMore (a, s.to) (more g) (more s.group) in
        let R : ℕ → Type 0 = λ b. HasOnePairMore (from, b) (more g) (more s.group) in
        let S : List (ℕ × ℕ) → Type 0 = λ x. HasOnePairMore (from, to) x (more s.group) in
        let T : ℕ → Type 0 = λ x. HasOnePairMore (from, to) (pairs group) (more x) in
        subst P (sym here) (
          omega (arith, size, at_group),
          subst Q (sym at_from) (subst R (sym at_to)
              (subst S (sym (ap more at ∙ old group l)) (subst T (sym at_group) one))),
        ))
        (λ (apart : g ≡ group → ⊥).
        let other = get_or-set_other (splits ++ None ∷ []) group g (Some s) None apart in
        ⊎_elim
        (λ (less : g < length splits).
        let here : split_at (set (splits ++ None ∷ []) group (Some s)) g ≡ split_at splits g =
        other ∙ get_or_append_left splits (None ∷ []) None g less in
        let S : List (ℕ × ℕ) → Type 0 =
        λ x. IsSplit more (length (set (splits ++ None ∷ []) group (Some s))) x (split_at splits g) in
        subst P (sym here)
        (subst S (sym (old g less))
        (IsSplit-later pairs more (length splits) (length (set (splits ++ None ∷ []) group (Some s))) (pairs g) (split_at splits g)
        (omega (arith, size)) old (h.each g less))))
        (λ (more_than : length splits ≤ g).
        let here : split_at (set (splits ++ None ∷ []) group (Some s)) g ≡ None =
        other ∙ get_or_push splits None None g (omega arith) in
        subst P (sym here) tt)
        (cases_lt g (length splits)))
        (cases_eq g group)

-- pieces that begin below the edge
pub splits_past : (e : Edge Test) (pieces : List Test) (n : ℕ) (old : List ℕ) (before : List (Option Split))
    → ((i : ℕ) → i < n → start_at pieces i < e.label.start) → SplitsBy e pieces n old before old before
splits_past e pieces n old before low = record {
  size = refl;
  keeps = λ pairs h. (
    pairs,
    h,
    λ i p l. (
      λ k. inl k,
      λ k. ⊎_elim (λ there. there)
          (λ reads. absurd (omega (arith, low i reads.0, reads.1.0))) k,
    ),
  );
}

-- pieces that begin above the edge
pub splits_rest : (e : Edge Test) (pieces : List Test) (n m : ℕ) (old : List ℕ) (before : List (Option Split)) (new : List ℕ)
    (after : List (Option Split)) → n ≤ m → ((i : ℕ) → n ≤ i → i < m → e.label.end < start_at pieces i) →
    SplitsBy e pieces n old before new after → SplitsBy e pieces m old before new after
splits_rest e pieces n m old before new after order high h = record {
  size = h.size;
  keeps = λ pairs k.
      let now = h.keeps pairs k in (
        now.0,
        now.1,
        λ i p l. (
          λ there. ⊎_elim inl (λ reads. inr (omega (arith, reads.0), reads.1, reads.2)) ((now.2 i p l).0 there),
          λ one. (now.2 i p l).1 (⊎_elim inl (λ reads. ⊎_elim (λ (less : i < n). inr (less, reads.1, reads.2))
              (λ (more : n ≤ i). absurd (omega (arith, high i more reads.0, reads.1.1))) (cases_lt i n)) one),
        ),
      );
}

-- the pairs of the piece that is split off, and those of another one
this_piece : (e : Edge Test) (pieces : List Test) (n : ℕ) (was between now : List (ℕ × ℕ)) (p : ℕ × ℕ)
    → TestHolds e.label (start_at pieces n) → HasOnePairMore (e.from.0, e.to.0) between now →
    Contains between p ↔ (Contains was p ⊎ (n < n) × TestHolds e.label (start_at pieces n) × (p ≡ (e.from.0, e.to.0))) →
    Contains now p ↔ (Contains was p ⊎ (n < n + 1) × TestHolds e.label (start_at pieces n) × (p ≡ (e.from.0, e.to.0)))
this_piece e pieces n was between now p holds one h = (
  λ k. ⊎_elim (λ there. ⊎_elim (λ old. inl old) (λ none. absurd (omega (arith, none.0))) (h.0 there))
      (λ at. inr (omega arith, holds, at)) ((one p).0 k),
  λ k. ⊎_elim (λ old. (one p).1 (inl (h.1 (inl old)))) (λ reads. (one p).1 (inr reads.2)) k,
)

other_piece : (e : Edge Test) (pieces : List Test) (i n : ℕ) (was now : List (ℕ × ℕ)) (p : ℕ × ℕ) → (i ≡ n → ⊥) →
    Contains now p ↔ (Contains was p ⊎ (i < n) × TestHolds e.label (start_at pieces i) × (p ≡ (e.from.0, e.to.0))) →
    Contains now p ↔ (Contains was p ⊎ (i < n + 1) × TestHolds e.label (start_at pieces i) × (p ≡ (e.from.0, e.to.0)))
other_piece e pieces i n was now p apart h = (
  λ k. ⊎_elim (λ old. inl old) (λ reads. inr (omega (arith, reads.0), reads.1, reads.2)) (h.0 k),
  λ k. h.1 (⊎_elim (λ old. inl old) (λ reads. inr (below i reads.0 apart, reads.1, reads.2)) k),
)
  where
    below : (i : ℕ) → i < n + 1 → (i ≡ n → ⊥) → i < n
    below i l apart = ⊎_elim (λ (less : i < n). less) (λ (more : n ≤ i). absurd (apart (omega arith))) (cases_lt i n)

-- one more piece that the edge reads
pub splits_more : (e : Edge Test) (pieces : List Test) (n : ℕ) (old : List ℕ) (before : List (Option Split)) (mid : List ℕ)
    (between after : List (Option Split)) (found : ℕ) → n < length mid → TestHolds e.label (start_at pieces n) →
    SplitsBy e pieces n old before mid between → SplitsOff (get_or mid n 0) e.from.0 e.to.0 between after found →
    SplitsBy e pieces (n + 1) old before (set mid n found) after
splits_more e pieces n old before mid between after found within holds h one = record {
  size = length-set mid n found ∙ h.size;
  keeps = λ pairs k.
      let now = h.keeps pairs k in
      let next = one.keeps now.0 now.1.told in (
        next.0,
        record {
          inside = All-set (λ g. g < length after) mid n found one.inside
              (All-weaker (λ g. g < length between) (λ g. g < length after) (λ g l. omega (arith, l, one.longer)) mid now.1.inside);
          told = next.1;
        },
        λ i p l.
            let P : ℕ → Type 0 =
            λ g. Contains (next.0 g) p ↔ (Contains (pairs (get_or old i 0)) p ⊎ (i < n + 1) × TestHolds e.label (start_at pieces i)
            × (p ≡ (e.from.0, e.to.0))) in
            ⊎_elim
            (λ (at : i ≡ n).
            let Q : ℕ → Type 0 = λ j. Contains (next.0 (get_or (set mid n found) j 0)) p
            ↔ (Contains (pairs (get_or old j 0)) p ⊎ (j < n + 1) × TestHolds e.label (start_at pieces j)
            × (p ≡ (e.from.0, e.to.0))) in
            let R : ℕ → Type 0 = λ g. Contains (next.0 g) p ↔ (Contains (pairs (get_or old n 0)) p ⊎ (n < n + 1)
            × TestHolds e.label (start_at pieces n) × (p ≡ (e.from.0, e.to.0))) in
            subst Q (sym at) (subst R (sym (get_or-set_same mid n found 0 within))
            (this_piece e pieces n (pairs (get_or old n 0)) (now.0 (get_or mid n 0)) (next.0 found) p holds next.3
            (now.2 n p (omega (arith, h.size))))))
            (λ (apart : i ≡ n → ⊥).
            let inside = All-get_or (λ g. g < length between) mid i 0 (omega (arith, h.size)) now.1.inside in
            let S : List (ℕ × ℕ) → Type 0 = λ x. Contains x p ↔ (Contains (pairs (get_or old i 0)) p ⊎ (i < n + 1)
            × TestHolds e.label (start_at pieces i) × (p ≡ (e.from.0, e.to.0))) in
            subst P (sym (get_or-set_other mid n i found 0 apart))
            (subst S (sym (next.2 (get_or mid i 0) inside))
            (other_piece e pieces i n (pairs (get_or old i 0)) (now.0 (get_or mid i 0)) p apart (now.2 i p l))))
            (cases_eq i n),
      );
}

-- ---- other numbers

-- the numbers stay
pub keeps_same : (old : List ℕ) (before : List (Option Split)) → KeepsPairs old before old before
keeps_same old before = record { size = refl; keeps = λ pairs h. (pairs, h, λ i l. refl) }

-- groups are numbered anew, and nothing is told of splits
pub keeps_marked : (pieces : List Test) (marks : List ℕ) (before : List (Option Split)) (numbers : List ℕ) (firsts : List Test)
    (after : List (Option Split)) (n : ℕ) → length marks ≡ length pieces → AreMarkedGroups pieces marks numbers firsts →
    after ≡ replicate n None → n ≡ length firsts → KeepsPairs marks before numbers after
keeps_marked pieces marks before numbers firsts after n all groups is one = record {
  size = groups.size ∙ sym all;
  keeps = λ pairs h. (
    λ g. chosen pairs g (cases_lt g (length firsts)),
    record {
      inside = All-from_get_or (λ g. g < length after) numbers 0
          (λ i l. omega (arith, groups.inside i (omega (arith, groups.size)), count));
      told = record { each = λ g l. nothing_told pairs g l };
    },
    λ i l. same pairs i (get_or numbers i 0) refl (omega (arith, all)) (cases_lt (get_or numbers i 0) (length firsts)),
  );
}
  where
    chosen : (ℕ → List (ℕ × ℕ)) → (g : ℕ) → (g < length firsts) ⊎ (length firsts ≤ g) → List (ℕ × ℕ)
    chosen pairs g c =
        ⊎_elim (λ (l : g < length firsts). pairs (get_or marks (groups.first g l).0 0)) (λ (m : length firsts ≤ g). []) c

    count : length after ≡ length firsts
    count = ap length is ∙ length-replicate n None ∙ one

    nothing_told : (pairs : ℕ → List (ℕ × ℕ)) (g : ℕ) → g < length after
        → IsSplit (λ g. chosen pairs g (cases_lt g (length firsts))) (length after) (chosen pairs g (cases_lt g (length firsts)))
        (split_at after g)
    nothing_told pairs g l =
        let P : Option Split → Type 0 =
        IsSplit (λ g. chosen pairs g (cases_lt g (length firsts))) (length after) (chosen pairs g (cases_lt g (length firsts))) in
        let read : split_at after g ≡ None =
        ap (λ xs. split_at xs g) is ∙ get_or-replicate n g None None (omega (arith, count, one)) in
        subst P (sym read) tt

    same : (pairs : ℕ → List (ℕ × ℕ)) (i g : ℕ) → get_or numbers i 0 ≡ g → i < length pieces
        → (c : (g < length firsts) ⊎ (length firsts ≤ g)) → chosen pairs g c ≡ pairs (get_or marks i 0)
    same pairs i g at l (inl k) =
        let j = groups.first g k in
        ap pairs ((groups.same j.0 i j.1 l).0 (j.2 ∙ sym at))
    same pairs i g at l (inr k) = absurd (omega (arith, groups.inside i l))

-- ---- all edges, one after another

-- the pieces are told apart by the edges of the states below the given one, and by that one's but those that are left
pub record AreToldApart (t : Graph) (edges left : List (Edge Test)) (state : ℕ) (pieces : List Test) (numbers : List ℕ)
    (splits : List (Option Split)) : Type 0 where
  pub pairs : ℕ → List (ℕ × ℕ)
  pub are : ArePairs pairs numbers splits
  pub size : length numbers ≡ length pieces
  pub only : (i q x : ℕ) → i < length pieces → Contains (pairs (get_or numbers i 0)) (q, x)
      → HasTransition t q (start_at pieces i) x
  pub known : (i : ℕ) (e : Edge Test) → i < length pieces → Contains edges e → e.from.0 < state
      → TestHolds e.label (start_at pieces i) → Contains (pairs (get_or numbers i 0)) (e.from.0, e.to.0)
  pub own : (i : ℕ) (e : Edge Test) → i < length pieces → Contains edges e → e.from.0 ≡ state
      → TestHolds e.label (start_at pieces i) → Contains (pairs (get_or numbers i 0)) (e.from.0, e.to.0) ⊎ Contains left e
  pub among : (e : Edge Test) → Contains left e → Contains edges e

module _ (t : Graph) (edges : List (Edge Test)) (is : t.tests ≡ map transition_view edges) (pieces : List Test) where
  -- before the first edge, all pieces are alike
  pub told_none : (numbers : List ℕ) (splits : List (Option Split)) → length numbers ≡ length pieces
      → ArePairs (λ g. []) numbers splits → AreToldApart t edges edges 0 pieces numbers splits
  told_none numbers splits size are = record {
    pairs = λ g. [];
    are = are;
    size = size;
    only = λ i q x l h. absurd (Contains-nil (q, x) h);
    known = λ i e l there below. absurd (omega arith);
    own = λ i e l there at holds. inr there;
    among = λ e h. h;
  }

  -- before the first edge of a state, all of its edges are left
  pub told_start : (state : ℕ) (left : List (Edge Test)) (numbers : List ℕ) (splits : List (Option Split))
      → left ≡ filter (λ (e : Edge Test). eqb e.from.0 state) edges → AreToldApart t edges edges state pieces numbers splits
      → AreToldApart t edges left state pieces numbers splits
  told_start state left numbers splits e h = record {
    pairs = h.pairs;
    are = h.are;
    size = h.size;
    only = h.only;
    known = h.known;
    own = λ i f l there at holds.
        inr (rw e (Contains-filter (λ (e : Edge Test). eqb e.from.0 state) edges f there (eq-eqb f.from.0 state at)));
    among = λ f k. (Contains-from_filter (λ (e : Edge Test). eqb e.from.0 state) edges f (rw e at k)).0;
  }

  -- once none is left, the state is one of those below
  pub told_end : (state : ℕ) (left : List (Edge Test)) (numbers : List ℕ) (splits : List (Option Split)) → left ≡ []
      → AreToldApart t edges left state pieces numbers splits → AreToldApart t edges edges (state + 1) pieces numbers splits
  told_end state left numbers splits none h = record {
    pairs = h.pairs;
    are = h.are;
    size = h.size;
    only = h.only;
    known = λ i e l there below holds.
        ⊎_elim (λ (less : e.from.0 < state). h.known i e l there less holds)
        (λ (ge : state ≤ e.from.0). ⊎_elim (λ done. done) (λ waits. absurd (Contains-nil e (rw none at waits)))
        (h.own i e l there (omega arith) holds)) (cases_lt e.from.0 state);
    own = λ i e l there at holds. inr there;
    among = λ e k. k;
  }

  -- one more edge
  pub told_more : (state : ℕ) (whole left : List (Edge Test)) (e : Edge Test) (numbers : List ℕ) (splits : List (Option Split))
      (new : List ℕ) (after : List (Option Split)) → whole ≡ e ∷ left → AreToldApart t edges whole state pieces numbers splits →
      SplitsBy e pieces (length pieces) numbers splits new after → AreToldApart t edges left state pieces new after
  told_more state whole left e numbers splits new after first h one =
      let next = one.keeps h.pairs h.are in
      let here : Contains edges e = h.among e (rw first (Contains-head e left)) in
      let kept : (i : ℕ) (p : ℕ × ℕ) → i < length pieces → Contains (h.pairs (get_or numbers i 0)) p
      → Contains (next.0 (get_or new i 0)) p =
      λ i p l k. (next.2 i p (omega (arith, l, h.size))).1 (inl k) in
      record {
        pairs = next.0;
        are = next.1;
        size = one.size ∙ h.size;
        only = λ i q x l k.
            ⊎_elim (λ old. h.only i q x l old)
            (λ reads.
            let P : ℕ × ℕ → Type 0 = λ p. HasTransition t p.0 (start_at pieces i) p.1 in
            subst P (sym reads.2)
            (transition_view e, rw is (Contains-map transition_view edges e here), refl, reads.1.0, reads.1.1, refl))
            ((next.2 i (q, x) (omega (arith, l, h.size))).0 k);
        known = λ i f l there below holds. kept i (f.from.0, f.to.0) l (h.known i f l there below holds);
        own = λ i f l there at holds.
            ⊎_elim (λ done. inl (kept i (f.from.0, f.to.0) l done))
            (λ waits. ⊎_elim
            (λ same. let P : Edge Test → Type 0 = λ g. Contains (next.0 (get_or new i 0)) (g.from.0, g.to.0) in
            let Q : Edge Test → Type 0 = λ g. TestHolds g.label (start_at pieces i) in
            let reads : TestHolds e.label (start_at pieces i) = subst Q (sym same) holds in
            inl (subst P same ((next.2 i (e.from.0, e.to.0) (omega (arith, l, h.size))).1 (inr (l, reads, refl)))))
            (λ more. inr more) (Contains-cons_cases e left f (rw first at waits)))
            (h.own i f l there at holds);
        among = λ f k. h.among f (rw first (Contains-tail e left f k));
      }

  -- under other numbers
  pub told_kept : (left : List (Edge Test)) (state : ℕ) (numbers : List ℕ) (splits : List (Option Split)) (new : List ℕ)
      (after : List (Option Split)) → AreToldApart t edges left state pieces numbers splits → KeepsPairs numbers splits new after
      → AreToldApart t edges left state pieces new after
  told_kept left state numbers splits new after h one =
      let next = one.keeps h.pairs h.are in
      let same : (i : ℕ) → i < length pieces → next.0 (get_or new i 0) ≡ h.pairs (get_or numbers i 0) =
      λ i l. next.2 i (omega (arith, l, h.size)) in
      record {
        pairs = next.0;
        are = next.1;
        size = one.size ∙ h.size;
        only = λ i q x l k. let P : List (ℕ × ℕ) → Type 0 = λ ps. Contains ps (q, x) in h.only i q x l (subst P (same i l) k);
        known = λ i e l there below holds.
            let P : List (ℕ × ℕ) → Type 0 = λ ps. Contains ps (e.from.0, e.to.0) in
            subst P (sym (same i l)) (h.known i e l there below holds);
        own = λ i e l there at holds.
            let P : List (ℕ × ℕ) → Type 0 = λ ps. Contains ps (e.from.0, e.to.0) in
            ⊎_elim (λ done. inl (subst P (sym (same i l)) done)) (λ waits. inr waits) (h.own i e l there at holds);
        among = h.among;
      }

  -- pieces that all edges told apart are read alike where their marks are the same
  pub told_alike : (count : ℕ) (marks : List ℕ) (splits : List (Option Split)) (numbers : List ℕ) (firsts : List Test)
      → AreToldApart t edges edges count pieces marks splits → All (λ (e : Edge Test). e.from.0 < count) edges →
      AreMarkedGroups pieces marks numbers firsts → AreGroups t pieces numbers firsts
  told_alike count marks splits numbers firsts h from groups = record {
    size = groups.size;
    inside = groups.inside;
    ascending = groups.ascending;
    alike = λ i q x l.
        let j = groups.first (get_or numbers i 0) (groups.inside i l) in
        let P : ℕ → Type 0 = λ c. HasTransition t q c x in
        let one : get_or marks j.0 0 ≡ get_or marks i 0 = (groups.same j.0 i j.1 l).0 j.2 in (
          λ reads. subst P (sym j.3) (moved i j.0 q x l j.1 (sym one) reads),
          λ reads. moved j.0 i q x j.1 l one (subst P j.3 reads),
        );
  }
    where
      moved : (i j q x : ℕ) → i < length pieces → j < length pieces → get_or marks i 0 ≡ get_or marks j 0
          → HasTransition t q (start_at pieces i) x → HasTransition t q (start_at pieces j) x
      moved i j q x l k same reads =
          let found = Contains-from_map transition_view edges reads.0 (rw is at reads.1) in
          let T : TransitionEdge → Type 0 =
          λ f. (f.from ≡ q) × (f.start ≤ start_at pieces i) × (start_at pieces i ≤ f.end) × (f.to ≡ x) in
          let y : T (transition_view found.0) = subst T (sym found.2) (reads.2, reads.3, reads.4, reads.5) in
          let below = All-contains (λ (e : Edge Test). e.from.0 < count) edges found.0 from found.1 in
          let pair = h.known i found.0 l found.1 below (y.1, y.2) in
          let P : ℕ → Type 0 = λ g. Contains (h.pairs g) (found.0.from.0, found.0.to.0) in
          let Q : ℕ → Type 0 = λ a. HasTransition t a (start_at pieces j) found.0.to.0 in
          let R : ℕ → Type 0 = λ b. HasTransition t q (start_at pieces j) b in
          subst R y.3 (subst Q y.0 (h.only j found.0.from.0 found.0.to.0 k (subst P same pair)))
