-- Computed examples of what is seen of lane tables, of rows and of what is refused of them.
use Rattle.std.proofs.Common.{◌≡◌, ℕ, List, [], ◌∷◌, refl, sym, subst, ap, inr, ⊎_elim, arith, Contains}
use Rattle.std.proofs.Common.{Err}
use Rattle.lalrpop_lr1_theory.proofs.ListLemmas.{contains_here, contains_split}
use Rattle.lalrpop_lr1_theory.proofs.NameLemmas.{no_element}
use Rattle.lalrpop_lr1_core.specs.Edges.{state_index}
use Rattle.lalrpop_lane_theory.specs.LaneTables.{IsBeachhead}
use Rattle.lalrpop_lane_tables.specs.TableGains.{AddsTokens, EntersAt, NotesNothing, TableGains}
use Rattle.lalrpop_lane_tables.specs.TableViews.{AreTableRows, AreWholeRows, IsInTable, RowsAnswer, TableView, TokenRow}
use Rattle.lalrpop_lane_tables.specs.TableViews.{table_view}
use Rattle.lalrpop_lane_tables.specs.declared.lane_tables.RowsFault.TheVariants.{Overlap}
use Rattle.lalrpop_lane_tables.proofs.RowLemmas.{no_key}
use Rattle.lalrpop_lane_tables.proofs.TableLemmas.{column_index}

-- an empty table has no rows, and rows of states that aren't in it are none
abbrev empty_table : TableView
empty_table = table_view 2 [] []

not_in_empty : (n : ℕ) → IsInTable empty_table n → ⊥
not_in_empty n h = ⊎_elim (λ e. no_element (n, e.1.0) e.1.1) (λ e. no_element (n, e.1.0) e.1.1) h

empty_has_no_rows : AreTableRows empty_table []
empty_has_no_rows = record {
  states = λ n. (λ h. absurd (no_key n h), λ h. absurd (not_in_empty n.0 h));
  each = λ n columns h. absurd (no_element (n, columns) h);
}

foreign_row_refused : AreTableRows empty_table ((state_index 0, [] ∷ [] ∷ []) ∷ []) → ⊥
foreign_row_refused rows =
    not_in_empty 0 ((rows.states (state_index 0)).0 ([] ∷ [] ∷ [], contains_here (state_index 0, [] ∷ [] ∷ []) []))

-- a table whose row of state 0 has the token 7 in both columns: refused in the name of state 0, and in that of no other
abbrev tied_row : TokenRow
tied_row = (column_index 0, 7 ∷ []) ∷ (column_index 1, 7 ∷ []) ∷ []

abbrev tied_table : TableView
tied_table = table_view 2 ((state_index 0, tied_row) ∷ []) []

tie_in_state_0 : RowsAnswer tied_table (Err (Overlap (state_index 0)))
tie_in_state_0 = record {
  one = 0;
  other = 1;
  token = 7;
  apart = λ e. omega (arith, e);
  in_one = ((0, 7 ∷ []) ∷ (1, 7 ∷ []) ∷ [], (0, omega arith, refl), (7 ∷ [], (0, omega arith, refl), refl));
  in_other = ((0, 7 ∷ []) ∷ (1, 7 ∷ []) ∷ [], (0, omega arith, refl), (7 ∷ [], (1, omega arith, refl), refl));
}

no_tie_in_state_1 : RowsAnswer tied_table (Err (Overlap (state_index 1))) → ⊥
no_tie_in_state_1 m = ⊎_elim
    (λ e. let z : 0 ≡ 1 = ap (λ (u : ℕ × List (ℕ × List ℕ)). u.0) e in omega (arith, z))
    (λ d. no_element (1, m.in_one.0) d)
    (contains_split (0, (0, 7 ∷ []) ∷ (1, 7 ∷ []) ∷ []) (1, m.in_one.0) [] m.in_one.1)

-- a state that leads on to itself is no state in which a merge begins
own_successor : IsBeachhead {Tokens = List ℕ} ((0, (0, []) ∷ []) ∷ []) ((0, 0 ∷ []) ∷ []) 0 → ⊥
own_successor b = b.no_edge 0 (0 ∷ [], (0, omega arith, refl), (0, omega arith, refl))

-- an entry in a column that there isn't makes no whole table, nor does a row without an entry
past_the_columns : AreWholeRows 1 ((0, (1, []) ∷ []) ∷ []) [] → ⊥
past_the_columns whole =
    omega (arith, whole.within 0 1 ((1, []) ∷ [], (0, omega arith, refl), ([], (0, omega arith, refl))))

empty_row : AreWholeRows 1 ((0, []) ∷ []) [] → ⊥
empty_row whole =
    let e = whole.entered 0 ([], (0, omega arith, refl)) in
    ⊎_elim
    (λ z. no_element (e.0, e.1.2.0) (subst (λ (u : ℕ × List (ℕ × List ℕ)). Contains u.1 (e.0, e.1.2.0)) (sym z) e.1.2.1))
    (λ d. no_element (0, e.1.0) d)
    (contains_split (0, []) (0, e.1.0) [] e.1.1)

-- a table that gained an entry without tokens has it; one that forgot it gained none
entry_forgotten : TableGains (AddsTokens 3 []) (EntersAt 3) NotesNothing 0 empty_table empty_table → ⊥
entry_forgotten g = let h = (g.gains.enters 3 0).1 (inr (refl, refl)) in no_element (3, h.0) h.1
