-- What the laws on collapsed states say, over lists of productions and of states.
use Rattle.std.specs.Prelude.{ℕ, List, map, ◌≡◌, ◌↔◌, Contains}
use Rattle.lalrpop_grammar_symbols.specs.Symbols.{Text}
use Rattle.lalrpop_lr1_theory.specs.Productions.{Production, Next}
use Rattle.lalrpop_lr1_theory.specs.ValidItems.{NoneBarren}
use Rattle.lalrpop_lr1_theory.specs.Automata.{Carries}
use Rattle.lalrpop_lr1_theory.specs.States.{State, HasItem, HasEdge, HasLookahead}
use Rattle.lalrpop_lr1_theory.specs.CheckedStates.{AreCheckedStates, IsStartAlone}
use Rattle.lalrpop_lr1_theory.specs.CanonicalStates.{AreCanonicalStates, AreLr0States}
use Rattle.lalrpop_lr1_theory.specs.Laws.{HaveNoConflict}
use Rattle.lalrpop_lr1_theory.specs.CollapsedStates.{IsCollapse}
use Rattle.lalrpop_lr1_theory.specs.JoinedStates.{AreJoinedStates, AreNumbersAsSeen, HaveCoresInOrder, state_core}
use Rattle.lalrpop_lr1_theory.specs.SameStates.{AreSameUpToNumbers}

-- the start has a production; it does where it isn't barren
abbrev pub HasProductionOf : List Production → Text → Type 0
HasProductionOf grammar s = (p : Production) × Contains grammar p × (p.left ≡ s)

-- canonical states put together by their cores are, up to their numbers, the states without lookaheads, where the start has a
-- production, so that no state is without items
abbrev pub CollapsedAreLr0 : Type 0
CollapsedAreLr0 =
    (grammar : List Production) (s : Text) (states collapsed others : List State) (numbers : List ℕ) →
    HasProductionOf grammar s → AreCanonicalStates grammar s states → IsCollapse states numbers collapsed →
    AreLr0States grammar s others → AreSameUpToNumbers collapsed others

-- each item of canonical states put together has exactly its carried lookaheads
abbrev pub CollapsedAreCarried : Type 0
CollapsedAreCarried =
    (grammar : List Production) (s : Text) (states collapsed : List State) (numbers : List ℕ) →
    AreCanonicalStates grammar s states → IsCollapse states numbers collapsed →
    (n : ℕ) (p : Production) (i : ℕ) (x : Next) →
    HasLookahead collapsed n p i x ↔ Carries (Contains grammar) s (HasItem collapsed) (HasEdge collapsed) n p i x

-- canonical states put together are checked where nothing conflicts, for a start alone that reaches nothing barren
abbrev pub CollapsedAreChecked : Type 0
CollapsedAreChecked =
    (grammar : List Production) (s : Text) (states collapsed : List State) (numbers : List ℕ) →
    NoneBarren (Contains grammar) s → IsStartAlone grammar s → AreCanonicalStates grammar s states →
    IsCollapse states numbers collapsed → HaveNoConflict collapsed → AreCheckedStates grammar s collapsed

-- states joined by lists of items that are in order are canonical states put together by their cores
abbrev pub JoinedAreCollapsed : Type 0
JoinedAreCollapsed =
    (grammar : List Production) (s : Text) (states joined : List State) (numbers : List ℕ) →
    AreCanonicalStates grammar s states → HaveCoresInOrder states → AreNumbersAsSeen (map state_core states) numbers →
    AreJoinedStates states numbers joined → IsCollapse states numbers joined
