-- A deterministic automaton whose states are sets of the states of another one.
use Rattle.std.specs.Prelude.{ℕ, ◌<◌, List, [], ◌∷◌, length, slice_index_or, Contains}
use Rattle.lalrpop_lexer_nfa.specs.Paths.{Graph, HasTransition}
use Rattle.lalrpop_lexer_nfa.specs.Sets.{IsEpsilonClosure, IsSubsetStep}
use Rattle.lalrpop_lexer.specs.Numbering.{EdgeView, edge_at, EdgeReads}

abbrev pub set_at : List (List ℕ) → ℕ → List ℕ
set_at sets s = slice_index_or sets s []

-- the first state is what is reached without reading, each edge is a step of the sets, and no step has no edge
pub record IsSubsetConstruction (t : Graph) (start : ℕ) (sets : List (List ℕ)) (edges : ℕ → List EdgeView) (n : ℕ) : Type 0 where
  pub some : 0 < n
  pub first : IsEpsilonClosure t (start ∷ []) (set_at sets 0)
  pub inside : (s k : ℕ) → s < n → k < length (edges s) → (edge_at (edges s) k).2 < n
  pub fits : (s k c : ℕ) → s < n → EdgeReads edges s c k → IsSubsetStep t (set_at sets s) c (set_at sets (edge_at (edges s) k).2)
  pub all : (s c q r : ℕ) → s < n → Contains (set_at sets s) q → HasTransition t q c r → (k : ℕ) × EdgeReads edges s c k
