-- What the laws on states without lookaheads say, over lists of productions and of states.
use Rattle.std.specs.Prelude.{ℕ, List, length, ◌↔◌, Contains}
use Rattle.lalrpop_grammar_symbols.specs.Symbols.{Text}
use Rattle.lalrpop_lr1_theory.specs.Productions.{Production, Symbol}
use Rattle.lalrpop_lr1_theory.specs.ValidItems.{NoneBarren}
use Rattle.lalrpop_lr1_theory.specs.Automata.{Walk}
use Rattle.lalrpop_lr1_theory.specs.States.{HasEdge, HasItem, State}
use Rattle.lalrpop_lr1_theory.specs.CanonicalStates.{AreLr0States}
use Rattle.lalrpop_lr1_theory.specs.ValidCores.{CountsCoreSets, IsValidCore}

-- where nothing that the start reaches is barren, they hold, on each list of symbols that leads to them, exactly the items that are
-- valid there before something
abbrev pub Lr0AreValid : Type 0
Lr0AreValid =
    (grammar : List Production) (s : Text) (states : List State) → NoneBarren (Contains grammar) s →
    AreLr0States grammar s states → (g : List Symbol) (n : ℕ) → Walk (HasEdge states) g n →
    (p : Production) (i : ℕ) → HasItem states n p i ↔ IsValidCore (Contains grammar) s g p i

-- and are as many as the nonempty sets of these
abbrev pub Lr0AreCounted : Type 0
Lr0AreCounted =
    (grammar : List Production) (s : Text) (states : List State) → NoneBarren (Contains grammar) s →
    AreLr0States grammar s states → CountsCoreSets (Contains grammar) s (length states)
