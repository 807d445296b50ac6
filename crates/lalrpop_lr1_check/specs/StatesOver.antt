-- Which states are over a grammar's terminals, and which parts of the test are passed together: for the test of states.
use Rattle.std.specs.Prelude.{ℕ, List, map}
use Rattle.lalrpop_grammar_symbols.specs.Symbols.{Text}
use Rattle.lalrpop_grammar_repr.specs.declared.terminal_set.TerminalSet.{TerminalSet}
use Rattle.lalrpop_lr1_theory.specs.Laws.{HaveNoConflict}
use Rattle.lalrpop_lr1_theory.specs.Productions as theory
use Rattle.lalrpop_lr1_theory.specs.States as states
use Rattle.lalrpop_lr1_theory.specs.ValidItems.{NoneBarren}
use Rattle.lalrpop_lr1_core.specs.Views.{lr_state_view, token_lookahead}
use Rattle.lalrpop_lr1_core.specs.declared.state.State.{State}
use Rattle.lalrpop_lr1_check_lookaheads.specs.LookaheadFlows.{HaveKnownItems}
use Rattle.lalrpop_lr1_check_lookaheads.specs.CheckedTests.{HasClosureItems}
use Rattle.lalrpop_lr1_check_lookaheads.specs.Moves.{FollowsEdges}
use Rattle.lalrpop_lr1_check_lookaheads.specs.Reductions.{EndsAsSeen, FinishedAsSeen, OverTokens}

-- in the items of the states stand the grammar's terminals alone, and in the sets of their reductions its tokens
pub record AreStatesOver (ts : TerminalSet) (all : List (State (List ℕ))) : Type 0 where
  pub items : HaveKnownItems ts all
  pub reductions : OverTokens ts all

-- the states as the theory sees them
abbrev pub seen_states : TerminalSet → List (State (List ℕ)) → List states.State
seen_states ts all = map (lr_state_view (token_lookahead ts)) all

-- the tests along reductions, along edges, and by names
pub record PassReductions (ts : TerminalSet) (s : Text) (all : List (State (List ℕ))) : Type 0 where
  pub ends : EndsAsSeen s (seen_states ts all)
  pub no_conflict : HaveNoConflict (seen_states ts all)

pub record PassAlongEdges (ts : TerminalSet) (all : List (State (List ℕ))) : Type 0 where
  pub finished : FinishedAsSeen (seen_states ts all)
  pub follows : FollowsEdges (states.HasItem (seen_states ts all)) (states.HasEdge (seen_states ts all))

pub record PassByTable (G : theory.Production → Type 0) (ts : TerminalSet) (s : Text) (all : List (State (List ℕ))) : Type 0 where
  pub none_barren : NoneBarren G s
  pub brings : HasClosureItems G s (states.HasItem (seen_states ts all)) (states.HasEdge (seen_states ts all))
