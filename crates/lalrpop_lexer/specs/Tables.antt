-- The tables of an automaton: for each state its edges, and its row.
use Rattle.std.specs.Prelude.{◌≡◌, ℕ, ◌<◌, List, [], Option, length, slice_index_or}
use Rattle.lalrpop_lexer.specs.declared.edge.DfaEdge.{DfaEdge}
use Rattle.lalrpop_lexer.specs.Simulation.{AreApart}
use Rattle.lalrpop_lexer.specs.Rows.{IsRow}
use Rattle.lalrpop_lexer.specs.StateViews.{edges_in}

-- so many states have edges and a row each, a state's edges are apart, and its row tells where they lead
pub record AreTables (count : ℕ) (edges : List (List DfaEdge)) (rows : List (List (Option ℕ))) : Type 0 where
  pub edged : length edges ≡ count
  pub rowed : length rows ≡ count
  pub apart : (s : ℕ) → s < count → AreApart (edges_in edges s)
  pub agrees : (s : ℕ) → s < count → IsRow (edges_in edges s) (slice_index_or rows s [])
