-- What an automaton's view says of a state, by its tables. For the functions that read a state.
use Rattle.std.proofs.Common.{◌≡◌, ℕ, ◌<◌, ◌∙◌, List, [], None, length, get_or, sym, ap, arith}
use Rattle.lalrpop_lexer.specs.declared.edge.DfaEdge.{DfaEdge}
use Rattle.lalrpop_lexer.specs.declared.state.State.{State}
use Rattle.lalrpop_lexer.specs.Simulation.{StateView}
use Rattle.lalrpop_lexer.specs.StateViews.{state_views, accepted_in, edges_in}
use Rattle.lalrpop_lexer.proofs.StateViewLemmas.{views_count, view_at}

module _ (states : List State) (table : List (List DfaEdge)) (nodes : List StateView) (s : ℕ)
    (is : state_views states table ≡ nodes) (l : s < length nodes) where
  -- a state of the view is one of the automaton
  pub state_inside : s < length states
  state_inside = omega (arith, l, views_count states table, ap length is)

  -- what the view says of it
  pub state_read : (accepted_in states s, edges_in table s) ≡ get_or nodes s (None, [])
  state_read = sym (view_at states table s state_inside) ∙ ap (λ (ns : List StateView). get_or ns s (None, [])) is
