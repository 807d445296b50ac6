-- Computed examples of columns, rows and lane tables: of what is put in, of two columns that meet, of the states in which a merge begins.
use Rattle.std.proofs.Common.{◌≡◌, ◌⊎◌, ◌∙◌, ℕ, zero, suc, List, [], ◌∷◌, Contains, refl, sym, subst, inl, inr, arith}
use Rattle.lalrpop_lr1_theory.proofs.ExampleLemmas.{nothing_in}
use Rattle.lalrpop_lr1_theory.proofs.ListLemmas.{all_of, contains_here, none_some}
use Rattle.lalrpop_lr1_theory.proofs.StepLemmas.{some_same}
use Rattle.lalrpop_lane_theory.specs.Columns.{AllFitBeside, GathersColumns, HasEntry, HaveMeeting, InColumn, MeetsAnother, NeverMeet, RowHolds}
use Rattle.lalrpop_lane_theory.specs.Columns.{TableEnters, TableHolds}
use Rattle.lalrpop_lane_theory.specs.LaneTables.{GainsTrace, IsBeachhead, NotesEdge}
use Rattle.lalrpop_lane_theory.proofs.ColumnLemmas.{fit_apart}

-- sets are lists of numbers
abbrev Has : List ℕ → ℕ → Type 0
Has set x = Contains set x

-- Two empty columns, and 7 put into the first.
abbrev empty_columns : List (List ℕ)
empty_columns = [] ∷ [] ∷ []

abbrev one_in_first : List (List ℕ)
one_in_first = (7 ∷ []) ∷ [] ∷ []

abbrev Comes : ℕ → ℕ → Type 0
Comes c x = (c ≡ 0) × (x ≡ 7)

in_empty : (c x : ℕ) → InColumn Has empty_columns c x → ⊥
in_empty zero x h = nothing_in x (subst (λ set. Contains set x) (sym (some_same [] h.0 h.1)) h.2)
in_empty (suc zero) x h = nothing_in x (subst (λ set. Contains set x) (sym (some_same [] h.0 h.1)) h.2)
in_empty (suc (suc c)) x h = none_some h.0 h.1

in_first : (c x : ℕ) → InColumn Has one_in_first c x → Comes c x
in_first zero x h =
    (refl, all_of (λ y. y ≡ 7) (7 ∷ []) (refl, tt) x (subst (λ set. Contains set x) (sym (some_same (7 ∷ []) h.0 h.1)) h.2))
in_first (suc zero) x h = absurd (nothing_in x (subst (λ set. Contains set x) (sym (some_same [] h.0 h.1)) h.2))
in_first (suc (suc c)) x h = absurd (none_some h.0 h.1)

put_in : (c x : ℕ) → Comes c x → InColumn Has one_in_first c x
put_in c x h =
    subst (λ d. InColumn Has one_in_first d x) (sym h.0)
    (subst (InColumn Has one_in_first 0) (sym h.1) (7 ∷ [], refl, contains_here 7 []))

gathers : GathersColumns Has Comes empty_columns one_in_first
gathers =
    record {
      count = refl;
      holds = λ c x. (λ h. inr (in_first c x h), λ h. come c x h);
      apart = λ h c d x k l. (in_first c x k).0 ∙ sym (in_first d x l).0;
    }
  where
    come : (c x : ℕ) → InColumn Has empty_columns c x ⊎ Comes c x → InColumn Has one_in_first c x
    come c x (inl h) = absurd (in_empty c x h)
    come c x (inr h) = put_in c x h

-- 7 in the other column meets it, in its own it doesn't
meets : MeetsAnother Has one_in_first 1 (7 ∷ [])
meets =
    record {
      column = 0;
      token = 7;
      another = λ e. omega (arith, e);
      there = (7 ∷ [], refl, contains_here 7 []);
      here = contains_here 7 [];
    }

meets_none : MeetsAnother Has one_in_first 0 (7 ∷ []) → ⊥
meets_none m = m.another (in_first m.column m.token m.there).0

-- The table of `S = "a" E "a", "b" E "b", "a" F "b" or "b" F "a"; E = "e"; F = "e"`: of the reduction by E in column 0 and by F in
-- column 1, both in state 3, with 97 and 98 for the terminals; state 1 is behind `"a"`, state 2 behind `"b"`.
abbrev row_of : ℕ → ℕ → List (ℕ × List ℕ)
row_of first second = (0, first ∷ []) ∷ (1, second ∷ []) ∷ []

abbrev rows : List (ℕ × List (ℕ × List ℕ))
rows = (1, row_of 97 98) ∷ (2, row_of 98 97) ∷ (3, (0, []) ∷ (1, []) ∷ []) ∷ []

abbrev noted : List (ℕ × List ℕ)
noted = (1, 3 ∷ []) ∷ (2, 3 ∷ []) ∷ []

abbrev IsInRow : ℕ → ℕ → ℕ → ℕ → Type 0
IsInRow first second c x = ((c ≡ 0) × (x ≡ first)) ⊎ ((c ≡ 1) × (x ≡ second))

row_holds : (first second c x : ℕ) → RowHolds Has (row_of first second) c x → IsInRow first second c x
row_holds first second c x h =
    all_of (λ (e : ℕ × List ℕ). Contains e.1 x → IsInRow first second e.0 x) (row_of first second) (
      λ k. inl (refl, all_of (λ y. y ≡ first) (first ∷ []) (refl, tt) x k),
      (λ k. inr (refl, all_of (λ y. y ≡ second) (second ∷ []) (refl, tt) x k), tt),
    ) (c, h.0) h.1 h.2

row_apart : (first second : ℕ) → (first ≡ second → ⊥) → NeverMeet (RowHolds Has (row_of first second))
row_apart first second differ c d x h k = go (row_holds first second c x h) (row_holds first second d x k)
  where
    go : IsInRow first second c x → IsInRow first second d x → c ≡ d
    go (inl e) (inl f) = e.0 ∙ sym f.0
    go (inl e) (inr f) = absurd (differ (sym e.1 ∙ f.1))
    go (inr e) (inl f) = absurd (differ (sym f.1 ∙ e.1))
    go (inr e) (inr f) = e.0 ∙ sym f.0

row_at_one : (row : List (ℕ × List ℕ)) → Contains rows (1, row) → row_of 97 98 ≡ row
row_at_one row h =
    all_of (λ (r : ℕ × List (ℕ × List ℕ)). r.0 ≡ 1 → row_of 97 98 ≡ r.1) rows
    (λ e. refl, (λ e. absurd (omega (arith, e)), (λ e. absurd (omega (arith, e)), tt))) (1, row) h refl

-- no row has two columns that meet, as each of both states is a class of its own; all rows together have
one_row_apart : NeverMeet (TableHolds Has rows 1)
one_row_apart c d x h k =
    row_apart 97 98 (λ e. omega (arith, e)) c d x
    (subst (λ row. RowHolds Has row c x) (sym (row_at_one h.0 h.1)) h.2)
    (subst (λ row. RowHolds Has row d x) (sym (row_at_one k.0 k.1)) k.2)

all_rows_meet : HaveMeeting (λ c x. (n : ℕ) × TableHolds Has rows n c x)
all_rows_meet =
    record {
      one = 0;
      other = 1;
      token = 97;
      apart = λ e. omega (arith, e);
      in_one = (1, (row_of 97 98, (0, omega arith, refl), (97 ∷ [], (0, omega arith, refl), contains_here 97 [])));
      in_other = (2, (row_of 98 97, (1, omega arith, refl), (97 ∷ [], (1, omega arith, refl), contains_here 97 [])));
    }

-- a table whose row 0 has two columns that meet
row_meets : HaveMeeting (TableHolds Has ((0, row_of 97 97) ∷ []) 0)
row_meets =
    record {
      one = 0;
      other = 1;
      token = 97;
      apart = λ e. omega (arith, e);
      in_one = (row_of 97 97, (0, omega arith, refl), (97 ∷ [], (0, omega arith, refl), contains_here 97 []));
      in_other = (row_of 97 97, (0, omega arith, refl), (97 ∷ [], (1, omega arith, refl), contains_here 97 []));
    }

row_fits_not : AllFitBeside Has [] (row_of 97 97) → ⊥
row_fits_not fit =
    omega (
      arith,
      (fit_apart Has (row_of 97 97)).0 fit 0 1 97 (97 ∷ [], (0, omega arith, refl), contains_here 97 [])
          (97 ∷ [], (1, omega arith, refl), contains_here 97 []),
    )

row_fits : AllFitBeside Has [] (row_of 97 98)
row_fits = (fit_apart Has (row_of 97 98)).1 (row_apart 97 98 (λ e. omega (arith, e)))

-- entries of state 3, be they empty, are entries; a merge begins in states 1 and 2, and not in 3, to which edges lead
empty_entry : TableEnters rows 3 0
empty_entry = ((0, []) ∷ (1, []) ∷ [], (2, omega arith, refl), ([], (0, omega arith, refl)))

leads_to_three : (k m : ℕ) → NotesEdge noted k m → m ≡ 3
leads_to_three k m h =
    all_of (λ (e : ℕ × List ℕ). Contains e.1 m → m ≡ 3) noted
    (all_of (λ j. j ≡ 3) (3 ∷ []) (refl, tt) m, (all_of (λ j. j ≡ 3) (3 ∷ []) (refl, tt) m, tt)) (k, h.0) h.1 h.2

merge_from_one : IsBeachhead rows noted 1
merge_from_one =
    record {
      column = 0;
      entry = (row_of 97 98, (0, omega arith, refl), (97 ∷ [], (0, omega arith, refl)));
      no_edge = λ k h. omega (arith, leads_to_three k 1 h);
    }

no_merge_from_three : IsBeachhead rows noted 3 → ⊥
no_merge_from_three b = b.no_edge 1 (3 ∷ [], (0, omega arith, refl), contains_here 3 [])

-- A shift of 100 in state 3 is traced, in column 0 of an empty table.
abbrev one_row : List (ℕ × List (ℕ × List ℕ))
one_row = (3, (0, 100 ∷ []) ∷ []) ∷ []

abbrev AddsShift : ℕ → ℕ → Type 0
AddsShift m x = (m ≡ 3) × (x ≡ 100)

abbrev EntersShift : ℕ → Type 0
EntersShift m = m ≡ 3

abbrev NotesNone : ℕ → ℕ → Type 0
NotesNone k m = ⊥

one_holds : (m d x : ℕ) → TableHolds Has one_row m d x → (d ≡ 0) × AddsShift m x
one_holds m d x h =
    all_of (λ (r : ℕ × List (ℕ × List ℕ)). RowHolds Has r.1 d x → (d ≡ 0) × AddsShift r.0 x) one_row (in_row, tt) (m, h.0) h.1 h.2
  where
    in_row : RowHolds Has ((0, 100 ∷ []) ∷ []) d x → (d ≡ 0) × AddsShift 3 x
    in_row k =
        all_of (λ (e : ℕ × List ℕ). Contains e.1 x → (e.0 ≡ 0) × AddsShift 3 x) ((0, 100 ∷ []) ∷ [])
        (λ l. (refl, (refl, all_of (λ y. y ≡ 100) (100 ∷ []) (refl, tt) x l)), tt) (d, k.0) k.1 k.2

one_enters : (m d : ℕ) → TableEnters one_row m d → (d ≡ 0) × EntersShift m
one_enters m d h =
    all_of (λ (r : ℕ × List (ℕ × List ℕ)). HasEntry r.1 d → (d ≡ 0) × EntersShift r.0) one_row (in_row, tt) (m, h.0) h.1 h.2
  where
    in_row : HasEntry {Tokens = List ℕ} ((0, 100 ∷ []) ∷ []) d → (d ≡ 0) × EntersShift 3
    in_row k =
        all_of (λ (e : ℕ × List ℕ). (e.0 ≡ 0) × EntersShift 3) ((0, 100 ∷ []) ∷ []) ((refl, refl), tt) (d, k.0) k.1

gains_shift : GainsTrace Has AddsShift EntersShift NotesNone 0 [] one_row [] []
gains_shift =
    record {
      holds = λ m d x. (λ h. inr (one_holds m d x h), holds m d x);
      enters = λ m d. (λ h. inr (one_enters m d h), enters m d);
      notes = λ k m. (λ h. inl h, notes k m);
    }
  where
    holds : (m d x : ℕ) → TableHolds Has [] m d x ⊎ ((d ≡ 0) × AddsShift m x) → TableHolds Has one_row m d x
    holds m d x (inl h) = absurd (nothing_in (m, h.0) h.1)
    holds m d x (inr h) =
        subst (λ k. TableHolds Has one_row k d x) (sym h.1.0)
        (subst (λ c. TableHolds Has one_row 3 c x) (sym h.0)
        (subst (TableHolds Has one_row 3 0) (sym h.1.1)
        ((0, 100 ∷ []) ∷ [], (0, omega arith, refl), (100 ∷ [], (0, omega arith, refl), contains_here 100 []))))

    enters : (m d : ℕ) → TableEnters {Tokens = List ℕ} [] m d ⊎ ((d ≡ 0) × EntersShift m) → TableEnters one_row m d
    enters m d (inl h) = absurd (nothing_in (m, h.0) h.1)
    enters m d (inr h) =
        subst (λ k. TableEnters one_row k d) (sym h.1)
        (subst (TableEnters one_row 3) (sym h.0)
        ((0, 100 ∷ []) ∷ [], (0, omega arith, refl), (100 ∷ [], (0, omega arith, refl))))

    notes : (k m : ℕ) → NotesEdge [] k m ⊎ NotesNone k m → NotesEdge [] k m
    notes k m (inl h) = h
    notes k m (inr h) = absurd h

-- a wrong answer: the entry is there, and its terminal is forgotten
forgets : GainsTrace Has AddsShift EntersShift NotesNone 0 [] ((3, (0, []) ∷ []) ∷ []) [] [] → ⊥
forgets gains =
    let h = (gains.holds 3 0 100).1 (inr (refl, (refl, refl))) in
    all_of (λ (r : ℕ × List (ℕ × List ℕ)). RowHolds Has r.1 0 100 → ⊥) ((3, (0, []) ∷ []) ∷ []) (in_row, tt) (3, h.0) h.1 h.2
  where
    in_row : RowHolds Has ((0, []) ∷ []) 0 100 → ⊥
    in_row k = all_of (λ (e : ℕ × List ℕ). Contains e.1 100 → ⊥) ((0, []) ∷ []) (nothing_in 100, tt) (0, k.0) k.1 k.2
