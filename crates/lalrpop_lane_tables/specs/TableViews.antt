-- What a lane table shows: a row of entries for each state that has one, and the edges that were noted.
use Rattle.std.specs.Prelude.{ℕ, ◌<◌, List, map, ◌⊎◌, ◌↔◌, ⊤, Contains, Result, Ok, Err}
use Rattle.std.specs.BTreeSet.{BTreeSet}
use Rattle.std.specs.List.Sorted.{IsStrictlySortedBy}
use Rattle.std.specs.Map.{keys_of}
use Rattle.lalrpop_lr1_core.specs.declared.state_index.StateIndex.{StateIndex}
use Rattle.lalrpop_lane_theory.specs.Columns.{HaveMeeting, TableEnters, TableHolds}
use Rattle.lalrpop_lane_theory.specs.LaneTables.{NotesEdge}
use Rattle.lalrpop_lane_tables.specs.ColumnAnswers.{AreColumns, HasToken}
use Rattle.lalrpop_lane_tables.specs.ReachedStates.{index_cmp}
use Rattle.lalrpop_lane_tables.specs.declared.context_sets.ConflictIndex.{ConflictIndex}
use Rattle.lalrpop_lane_tables.specs.declared.lane_tables.RowsFault.{RowsFault}
use Rattle.lalrpop_lane_tables.specs.declared.lane_tables.RowsFault.TheVariants.{Overlap, Memory}

-- entries of a row, each of a column and with its tokens
abbrev pub TokenRow : Type 0
TokenRow = List (ConflictIndex × List ℕ)

abbrev pub row_entry : ConflictIndex × List ℕ → ℕ × List ℕ
row_entry e = (e.0.index, e.1)

abbrev pub row_view : StateIndex × TokenRow → ℕ × List (ℕ × List ℕ)
row_view e = (e.0.0, map row_entry e.1)

abbrev pub rows_view : List (StateIndex × TokenRow) → List (ℕ × List (ℕ × List ℕ))
rows_view rows = map row_view rows

-- the states to which edges from a state lead
abbrev pub numbers_of : BTreeSet StateIndex → List ℕ
numbers_of states = map (λ (s : StateIndex). s.0) states.keys

abbrev pub noted_view : List (StateIndex × BTreeSet StateIndex) → List (ℕ × List ℕ)
noted_view noted = map (λ (e : StateIndex × BTreeSet StateIndex). (e.0.0, numbers_of e.1)) noted

-- what is seen of a table: how many columns it has, its rows, and the edges that were noted
pub record TableView : Type 0 where
  pub conflicts : ℕ
  pub rows : List (ℕ × List (ℕ × List ℕ))
  pub noted : List (ℕ × List ℕ)

abbrev pub table_view : ℕ → List (StateIndex × TokenRow) → List (StateIndex × BTreeSet StateIndex) → TableView
table_view conflicts rows noted = record { conflicts = conflicts; rows = rows_view rows; noted = noted_view noted }

-- a list has something for the state
abbrev pub HasRow : {Content : Type 0} → List (ℕ × Content) → ℕ → Type 0
HasRow {Content} rows n = (content : Content) × Contains rows (n, content)

-- each entry is of one of the columns, each row has an entry, and each state from which edges were noted has one
pub record AreWholeRows (conflicts : ℕ) (rows : List (ℕ × List (ℕ × List ℕ))) (noted : List (ℕ × List ℕ)) : Type 0 where
  pub within : (n c : ℕ) → TableEnters rows n c → c < conflicts
  pub entered : (n : ℕ) → HasRow rows n → (c : ℕ) × TableEnters rows n c
  pub led : (n : ℕ) → HasRow noted n → (m : ℕ) × NotesEdge noted n m

-- the state has an entry, or an edge from it was noted
abbrev pub IsInTable : TableView → ℕ → Type 0
IsInTable table n = ((c : ℕ) × TableEnters table.rows n c) ⊎ ((m : ℕ) × NotesEdge table.noted n m)

-- some state has the token in the column
abbrev pub SomeRowHolds : List (ℕ × List (ℕ × List ℕ)) → ℕ → ℕ → Type 0
SomeRowHolds rows c x = (n : ℕ) × TableHolds HasToken rows n c x

-- a map has something at the state
abbrev pub IsStateKey : {Content : Type 0} → List (StateIndex × Content) → StateIndex → Type 0
IsStateKey {Content} entries n = (content : Content) × Contains entries (n, content)

-- just the states of the table have columns, each with just what its row holds
pub record AreTableRows (table : TableView) (rows : List (StateIndex × List (List ℕ))) : Type 0 where
  pub states : (n : StateIndex) → IsStateKey rows n ↔ IsInTable table n.0
  pub each : (n : StateIndex) (columns : List (List ℕ)) → Contains rows (n, columns) →
      AreColumns table.conflicts (TableHolds HasToken table.rows n.0) columns

-- refused where two columns meet in the row of the state that is named
abbrev pub RowsAnswer : TableView → Result (List (StateIndex × List (List ℕ))) RowsFault → Type 0
RowsAnswer table (Ok rows) = AreTableRows table rows
RowsAnswer table (Err (Overlap n)) = HaveMeeting (TableHolds HasToken table.rows n.0)
RowsAnswer table (Err Memory) = ⊤

-- the maps of a table with so many columns are whole and in order of the states
pub record AreTableMaps (conflicts : ℕ) (rows : List (StateIndex × TokenRow)) (noted : List (StateIndex × BTreeSet StateIndex)) : Type 0
  where
    pub whole : AreWholeRows conflicts (rows_view rows) (noted_view noted)
    pub rows_ascend : IsStrictlySortedBy index_cmp (keys_of rows)
    pub noted_ascend : IsStrictlySortedBy index_cmp (keys_of noted)
