-- The states of an automaton as plain data.
use Rattle.std.specs.Prelude.{ℕ, List, [], ◌∷◌, Option, Some, None, map, option_map, slice_index_or}
use Rattle.lalrpop_lexer.specs.declared.kind.NfaIndex.{NfaIndex}
use Rattle.lalrpop_lexer.specs.declared.kind.Kind.{Kind}
use Rattle.lalrpop_lexer.specs.declared.kind.Kind.TheVariants.{Accepts, Reject, Neither}
use Rattle.lalrpop_lexer.specs.declared.edge.DfaEdge.{DfaEdge}
use Rattle.lalrpop_lexer.specs.declared.state.State.{State}
use Rattle.lalrpop_lexer.specs.Numbering.{EdgeView}
use Rattle.lalrpop_lexer.specs.Explore.{edges_view}
use Rattle.lalrpop_lexer.specs.Simulation.{StateView}

-- the number of the pattern that a state accepts
abbrev pub accepted_of : State → Option ℕ
accepted_of s = option_map (λ (i : NfaIndex). i.0) s.accepts

-- each state with its edges from a table, none where the table ends
abbrev pub state_views : List State → List (List DfaEdge) → List StateView
state_views [] table = []
state_views (s ∷ states) [] = (accepted_of s, []) ∷ state_views states []
state_views (s ∷ states) (edges ∷ table) = (accepted_of s, edges_view edges) ∷ state_views states table

-- the edges of the state at a place, none past the end
abbrev pub edges_in : List (List DfaEdge) → ℕ → List EdgeView
edges_in table s = edges_view (slice_index_or table s [])

-- what the state at a place accepts
abbrev pub accepted_in : List State → ℕ → Option ℕ
accepted_in states s = slice_index_or (map accepted_of states) s None

-- a state that accepts nothing and that nothing leads out of rejects
abbrev pub kind_of : StateView → Kind
kind_of (Some e, edges) = Accepts (record { 0 = e })
kind_of (None, []) = Reject
kind_of (None, e ∷ edges) = Neither
