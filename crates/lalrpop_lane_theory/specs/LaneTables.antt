-- Lane tables: what the traces of a state's moves leave in a table, and in which of its states a merge begins.
use Rattle.std.specs.Prelude.{ℕ, List, length, Some, ◌≡◌, ◌⊎◌, ◌↔◌, Contains, slice_get}
use Rattle.lalrpop_grammar_symbols.specs.Symbols.{Text}
use Rattle.lalrpop_lr1_theory.specs.Productions.{Next, Production, Symbol, terminal}
use Rattle.lalrpop_lr1_theory.specs.Trees.{Move, reduce, shift}
use Rattle.lalrpop_lane_theory.specs.Columns.{HasEntry, RowHolds, TableEnters, TableHolds}
use Rattle.lalrpop_lane_theory.specs.Lanes.{TraceAdds}

-- a list of edges that were noted, by the states from which they lead, has the one between these two states
abbrev pub NotesEdge : List (ℕ × List ℕ) → ℕ → ℕ → Type 0
NotesEdge noted k m = (ms : List ℕ) × Contains noted (k, ms) × Contains ms m

-- A table gains a trace in a column: it holds just what it held and what the trace adds, has just the entries that it had and those of
-- the trace, and notes just the edges that it noted and those of the trace.
pub record GainsTrace {Tokens Token : Type 0} (Has : Tokens → Token → Type 0) (Adds : ℕ → Token → Type 0) (Enters : ℕ → Type 0)
    (Notes : ℕ → ℕ → Type 0) (c : ℕ) (old new : List (ℕ × List (ℕ × Tokens))) (old_noted new_noted : List (ℕ × List ℕ)) :
    Type 0 where
  pub holds : (m d : ℕ) (x : Token) → TableHolds Has new m d x ↔ (TableHolds Has old m d x ⊎ ((d ≡ c) × Adds m x))
  pub enters : (m d : ℕ) → TableEnters new m d ↔ (TableEnters old m d ⊎ ((d ≡ c) × Enters m))
  pub notes : (k m : ℕ) → NotesEdge new_noted k m ↔ (NotesEdge old_noted k m ⊎ Notes k m)

-- a state in which a table has an entry, and to which no noted edge leads
pub record IsBeachhead {Tokens : Type 0} (rows : List (ℕ × List (ℕ × Tokens))) (noted : List (ℕ × List ℕ)) (n : ℕ) : Type 0 where
  pub column : ℕ
  pub entry : TableEnters rows n column
  pub no_edge : (k : ℕ) → NotesEdge noted k n → ⊥

-- a state may make the move: it has an edge for the shift, or the finished item of the reduction
abbrev pub IsStateMove : (ℕ → Production → ℕ → Type 0) → (ℕ → Symbol → ℕ → Type 0) → ℕ → Move → Type 0
IsStateMove Item Edge n (shift t) = (m : ℕ) × Edge n (terminal t) m
IsStateMove Item Edge n (reduce p) = Item n p (length p.right)

-- some moves that a state may make, each once: the place of each is its column
pub record AreStateMoves (Item : ℕ → Production → ℕ → Type 0) (Edge : ℕ → Symbol → ℕ → Type 0) (n : ℕ) (moves : List Move) :
    Type 0 where
  pub each : (c : ℕ) (v : Move) → slice_get moves c ≡ Some v → IsStateMove Item Edge n v
  pub once : (c d : ℕ) (v : Move) → slice_get moves c ≡ Some v → slice_get moves d ≡ Some v → c ≡ d

-- the next is in the set
abbrev pub HasNextIn : List Next → Next → Type 0
HasNextIn set x = Contains set x

-- The entries of a table in which the moves of a state were traced, of whichever states: each is of the column of a move, and the
-- column holds just what the move's trace adds in any state.
pub record AreTraceEntries (G : Production → Type 0) (s : Text) (Item : ℕ → Production → ℕ → Type 0)
    (Edge : ℕ → Symbol → ℕ → Type 0) (n : ℕ) (moves : List Move) (entries : List (ℕ × List Next)) : Type 0 where
  pub of_move : (c : ℕ) → HasEntry entries c → (v : Move) × (slice_get moves c ≡ Some v)
  pub holds : (c : ℕ) (v : Move) → slice_get moves c ≡ Some v → (x : Next) →
      RowHolds HasNextIn entries c x ↔ ((m : ℕ) × TraceAdds G s Item Edge n v m x)
