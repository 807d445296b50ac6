-- Where the edges from a set of states lead, for each of some ranges.
use Rattle.std.specs.Prelude.{◌≡◌, ℕ, ◌<◌, ◌⊎◌, List, [], length, map, Contains, Vec, slice_index_or}
use Rattle.std.specs.declared.alloc.Global.{Global}
use Rattle.lalrpop_lexer_nfa.specs.declared.edge.Edge.{Edge}
use Rattle.lalrpop_lexer_nfa.specs.declared.test.Test.{Test}
use Rattle.lalrpop_lexer_nfa.specs.Paths.{Graph, HasTransition}
use Rattle.lalrpop_lexer_nfa.specs.Ranges.{TestHolds}

abbrev pub items_lists : List (Vec ℕ Global) → List (List ℕ)
items_lists vs = map (λ (v : Vec ℕ Global). v.items) vs

abbrev pub items_at : List (Vec ℕ Global) → ℕ → List ℕ
items_at vs i = slice_index_or (items_lists vs) i []

abbrev pub start_at : List Test → ℕ → ℕ
start_at pieces i = slice_index_or (map (λ (t : Test). t.start) pieces) i 0

-- each range starts above the start of every earlier one
abbrev pub StartsAscend : List Test → Type 0
StartsAscend pieces = (i j : ℕ) → i < j → j < length pieces → start_at pieces i < start_at pieces j

-- the first pieces got the edge's target where the edge reads their start
pub record AddsTargets (e : Edge Test) (pieces : List Test) (n : ℕ) (old new : List (Vec ℕ Global)) : Type 0 where
  pub size : length new ≡ length old
  pub only : (i x : ℕ) → Contains (items_at new i) x → Contains (items_at old i) x ⊎ (i < n)
      × TestHolds e.label (start_at pieces i) × (e.to.0 ≡ x)
  pub kept : (i x : ℕ) → Contains (items_at old i) x → Contains (items_at new i) x
  pub all : (i : ℕ) → i < n → TestHolds e.label (start_at pieces i) → Contains (items_at new i) e.to.0

-- for each piece, where the edges from the set lead which read its start
pub record AreTargets (t : Graph) (set : List ℕ) (pieces : List Test) (targets : List (Vec ℕ Global)) : Type 0 where
  pub size : length targets ≡ length pieces
  pub only : (i x : ℕ) → Contains (items_at targets i) x → (i < length pieces)
      × ((q : ℕ) × Contains set q × HasTransition t q (start_at pieces i) x)
  pub all : (i q x : ℕ) → i < length pieces → Contains set q → HasTransition t q (start_at pieces i) x
      → Contains (items_at targets i) x
