-- Columns that are made of rows: of one, of all together, and of each for itself.
use Rattle.std.specs.Prelude.{ℕ, ◌<◌, List, [], map, ◌≡◌, ◌⊎◌, ◌↔◌, ⊤, All, Contains, Result, Ok, Err, length}
use Rattle.std.specs.BTreeMap.{insert_entry}
use Rattle.lalrpop_lr1_core.specs.declared.state_index.StateIndex.{StateIndex}
use Rattle.lalrpop_lane_theory.specs.Columns.{HaveMeeting, RowHolds}
use Rattle.lalrpop_lane_tables.specs.ColumnAnswers.{AreColumns, HasToken, IsColumnOfSet}
use Rattle.lalrpop_lane_tables.specs.ReachedStates.{index_cmp}
use Rattle.lalrpop_lane_tables.specs.TableViews.{IsStateKey, TokenRow, row_entry}
use Rattle.lalrpop_lane_tables.specs.declared.context_sets.ConflictIndex.{ConflictIndex}
use Rattle.lalrpop_lane_tables.specs.declared.lane_tables.RowsFault.{RowsFault}
use Rattle.lalrpop_lane_tables.specs.declared.lane_tables.RowsFault.TheVariants.{Overlap, Memory}

-- the tokens of an entry come to its column
abbrev pub EntrySays : ConflictIndex × List ℕ → ℕ → ℕ → Type 0
EntrySays e = IsColumnOfSet e.0.index e.1

-- what a row holds
abbrev pub HoldsInRow : TokenRow → ℕ → ℕ → Type 0
HoldsInRow row = RowHolds HasToken (map row_entry row)

-- the entries of a row, and of all rows, are of columns below the count
abbrev pub IsRowBelow : ℕ → TokenRow → Type 0
IsRowBelow count row = (e : ConflictIndex × List ℕ) → Contains row e → e.0.index < count

abbrev pub AreRowsBelow : ℕ → List (StateIndex × TokenRow) → Type 0
AreRowsBelow count rows = (e : StateIndex × TokenRow) → Contains rows e → IsRowBelow count e.1

-- the columns of the state's row; refused in its name where two meet
abbrev pub StateRowAnswer : ℕ → StateIndex → TokenRow → Result (List (List ℕ)) RowsFault → Type 0
StateRowAnswer count state row (Ok columns) = AreColumns count (HoldsInRow row) columns
StateRowAnswer count state row (Err (Overlap n)) = (n ≡ state) × HaveMeeting (HoldsInRow row)
StateRowAnswer count state row (Err Memory) = ⊤

-- the columns of each row that isn't left
pub record AreColumnsOfRows (count : ℕ) (all left : List (StateIndex × TokenRow)) (rows : List (StateIndex × List (List ℕ))) : Type 0
  where
    pub states : (n : StateIndex) → (IsStateKey rows n ⊎ IsStateKey left n) ↔ IsStateKey all n
    pub each : (n : StateIndex) (columns : List (List ℕ)) → Contains rows (n, columns) →
        (row : TokenRow) × Contains all (n, row) × AreColumns count (HoldsInRow row) columns

-- refused where two columns meet in the row that is named
abbrev pub AllRowsAnswer : ℕ → List (StateIndex × TokenRow) → List (StateIndex × List (List ℕ)) → Result ⊤ RowsFault → Type 0
AllRowsAnswer count all rows (Ok done) = AreColumnsOfRows count all [] rows
AllRowsAnswer count all rows (Err (Overlap n)) = (row : TokenRow) × Contains all (n, row) × HaveMeeting (HoldsInRow row)
AllRowsAnswer count all rows (Err Memory) = ⊤

-- columns without tokens for each state of the list that isn't left and had none
pub record GainsEmptyRows {Content : Type 0} (count : ℕ) (all left : List (StateIndex × Content)) (old new : List (StateIndex × List (List ℕ))) :
    Type 0 where
  pub kept : (n : StateIndex) → IsStateKey old n → IsStateKey new n
  pub states : (n : StateIndex) → (IsStateKey new n ⊎ IsStateKey left n) ↔ (IsStateKey old n ⊎ IsStateKey all n)
  pub each : (n : StateIndex) (columns : List (List ℕ)) → Contains new (n, columns) →
      Contains old (n, columns)
      ⊎ ((IsStateKey old n → ⊥) × (length columns ≡ count) × All (λ (tokens : List ℕ). tokens ≡ []) columns)

-- columns without tokens come for the state
pub record AddsEmptyRow (count : ℕ) (n : StateIndex) (old new : List (StateIndex × List (List ℕ))) : Type 0 where
  pub columns : List (List ℕ)
  pub long : length columns ≡ count
  pub none : All (λ (tokens : List ℕ). tokens ≡ []) columns
  pub added : new ≡ insert_entry index_cmp old n columns

-- the state has columns, or comes to have some without tokens
abbrev pub AddsMissingRow : ℕ → StateIndex → List (StateIndex × List (List ℕ)) → List (StateIndex × List (List ℕ)) → Type 0
AddsMissingRow count n old new = (IsStateKey old n × (new ≡ old)) ⊎ ((IsStateKey old n → ⊥) × AddsEmptyRow count n old new)
