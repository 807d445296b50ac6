-- Checked states as tests, each along items, edges, reductions or names: for the test of states, which puts them together.
use Rattle.std.specs.Prelude.{ℕ, suc, ◌↔◌, List, Contains}
use Rattle.lalrpop_grammar_symbols.specs.Symbols.{Text}
use Rattle.lalrpop_lr1_theory.specs.Productions.{Symbol, Production}
use Rattle.lalrpop_lr1_theory.specs.States.{State, HasEdge, HasItem, Reduces}
use Rattle.lalrpop_lr1_theory.specs.CheckedStates.{AreCheckedStates}
use Rattle.lalrpop_lr1_theory.specs.Laws.{HaveNoConflict}
use Rattle.lalrpop_lr1_theory.specs.CoverTests.{HasItemsOfNames}
use Rattle.lalrpop_lr1_theory.specs.PropagatedNexts.{ReducesBeforeLookaheads}
use Rattle.lalrpop_lr1_theory.specs.NameClosures.{IsMovedItem, IsNameBegun, IsNameBrought, IsNameReached, IsProductive}
use Rattle.lalrpop_lr1_check_lookaheads.specs.Moves.{FollowsEdges}
use Rattle.lalrpop_lr1_check_lookaheads.specs.Reductions.{EndsAsSeen, FinishedAsSeen}

-- The items with the dot in front are those that the others bring, and in state 0, where no item has moved, those that the start
-- brings.
pub record HasClosureItems (G : Production → Type 0) (s : Text) (Item : ℕ → Production → ℕ → Type 0)
    (Edge : ℕ → Symbol → ℕ → Type 0) : Type 0 where
  pub unmoved_start : (p : Production) (i : ℕ) → Item 0 p (suc i) → ⊥
  pub start_brings : HasItemsOfNames G Item 0 (IsNameBegun G s)
  pub moved_bring : (n : ℕ) (X : Symbol) (m : ℕ) → Edge n X m →
      HasItemsOfNames G Item m (IsNameBrought G (IsMovedItem (Item m)))

-- each name that the start reaches is productive
abbrev pub ReachesProductive : (Production → Type 0) → Text → Type 0
ReachesProductive G s = (A : Text) → IsNameReached G s A → IsProductive G A

-- the states pass all tests
pub record PassChecks (grammar : List Production) (s : Text) (states : List State) : Type 0 where
  pub follows : FollowsEdges (HasItem states) (HasEdge states)
  pub brings : HasClosureItems (Contains grammar) s (HasItem states) (HasEdge states)
  pub finished : FinishedAsSeen states
  pub propagated : ReducesBeforeLookaheads (Contains grammar) s (HasItem states) (HasEdge states) (Reduces states)
  pub no_conflict : HaveNoConflict states
  pub ends : EndsAsSeen s states
  pub productive : ReachesProductive (Contains grammar) s

-- the states are checked exactly where they pass
abbrev pub CheckedArePassed : Type 0
CheckedArePassed =
    (grammar : List Production) (s : Text) (states : List State) → AreCheckedStates grammar s states ↔ PassChecks grammar s states
