-- What a lane table gains by one entry, and by one edge.
use Rattle.std.specs.Prelude.{ℕ, ◌≡◌, List}
use Rattle.lalrpop_lane_theory.specs.LaneTables.{GainsTrace}
use Rattle.lalrpop_lane_tables.specs.ColumnAnswers.{HasToken}
use Rattle.lalrpop_lane_tables.specs.TableViews.{TableView}

-- tokens come to a state
abbrev pub AddsTokens : ℕ → List ℕ → ℕ → ℕ → Type 0
AddsTokens n set m x = (m ≡ n) × HasToken set x

-- nothing comes to any state
abbrev pub AddsNothing : ℕ → ℕ → Type 0
AddsNothing m x = ⊥

-- an entry comes to a state, and to none
abbrev pub EntersAt : ℕ → ℕ → Type 0
EntersAt n m = m ≡ n

abbrev pub EntersNowhere : ℕ → Type 0
EntersNowhere m = ⊥

-- no edge is noted, and one is
abbrev pub NotesNothing : ℕ → ℕ → Type 0
NotesNothing k m = ⊥

abbrev pub NotesOne : ℕ → ℕ → ℕ → ℕ → Type 0
NotesOne from to k m = (k ≡ from) × (m ≡ to)

-- a table with as many columns gains in one column what comes to states, entries, and edges
pub record TableGains (Adds : ℕ → ℕ → Type 0) (Enters : ℕ → Type 0) (Notes : ℕ → ℕ → Type 0) (c : ℕ) (old new : TableView) :
    Type 0 where
  pub conflicts : new.conflicts ≡ old.conflicts
  pub gains : GainsTrace HasToken Adds Enters Notes c old.rows new.rows old.noted new.noted
