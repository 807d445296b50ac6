-- What the laws on checked states say, over lists of productions and of states.
use Rattle.std.specs.Prelude.{List, ◌↔◌, Contains}
use Rattle.lalrpop_grammar_symbols.specs.Symbols.{Text}
use Rattle.lalrpop_lr1_theory.specs.Productions.{Production}
use Rattle.lalrpop_lr1_theory.specs.ValidItems.{NoneBarren}
use Rattle.lalrpop_lr1_theory.specs.Automata.{IsCover}
use Rattle.lalrpop_lr1_theory.specs.States.{State, HasItem, HasEdge, Reduces}
use Rattle.lalrpop_lr1_theory.specs.NameClosures.{IsNameReached, IsProductive}
use Rattle.lalrpop_lr1_theory.specs.CoverTests.{PassesCoverTests}
use Rattle.lalrpop_lr1_theory.specs.PropagatedNexts.{ReducesBeforeCarried, ReducesBeforeLookaheads}

-- states cover the items exactly where they pass the tests
abbrev pub CoversAreTested : Type 0
CoversAreTested =
    (grammar : List Production) (s : Text) (states : List State) →
    IsCover (Contains grammar) s (HasItem states) (HasEdge states)
    ↔ PassesCoverTests (Contains grammar) s (HasItem states) (HasEdge states)

-- states reduce before all that is carried exactly where they do before all that is propagated
abbrev pub CarriedArePropagated : Type 0
CarriedArePropagated =
    (grammar : List Production) (s : Text) (states : List State) →
    ReducesBeforeCarried (Contains grammar) s (HasItem states) (HasEdge states) (Reduces states)
    ↔ ReducesBeforeLookaheads (Contains grammar) s (HasItem states) (HasEdge states) (Reduces states)

-- nothing that the start reaches is barren exactly where each name that it reaches is productive
abbrev pub NoneBarrenIsProductive : Type 0
NoneBarrenIsProductive =
    (grammar : List Production) (s : Text) →
    NoneBarren (Contains grammar) s
    ↔ ((A : Text) → IsNameReached (Contains grammar) s A → IsProductive (Contains grammar) A)
