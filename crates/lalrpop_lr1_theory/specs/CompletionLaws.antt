-- What the laws say, over lists of productions and of states.
use Rattle.std.specs.Prelude.{ℕ, List, ◌++◌, ◌∷◌, drop, ◌≡◌, Contains}
use Rattle.lalrpop_grammar_symbols.specs.Symbols.{Text, Terminal}
use Rattle.lalrpop_lr1_theory.specs.Productions.{Symbol, Production, Next}
use Rattle.lalrpop_lr1_theory.specs.Trees.{Forest, roots, yield, AreOver, Move, reduce, moves}
use Rattle.lalrpop_lr1_theory.specs.ValidItems.{NoneBarren}
use Rattle.lalrpop_lr1_theory.specs.Automata.{IsCover, Walk}
use Rattle.lalrpop_lr1_theory.specs.States.{State, HasEdge, HasItem, HasLookahead}
use Rattle.lalrpop_lr1_theory.specs.CanonicalStates.{AreCanonicalStates}
use Rattle.lalrpop_lr1_theory.specs.PathTrees.{ArePaths, IsBack, LedBy, LastSteps}
use Rattle.lalrpop_lr1_theory.specs.CompletionMoves.{HasCompletion, IsContinued, LeadsOut}

-- The forest on a state's path, then trees for what stands behind the dot of an item, the reduction by its production, and what leads
-- out from the state before the item, are the moves of one whole tree.
abbrev pub CompletionsMakeTrees : Type 0
CompletionsMakeTrees =
    (grammar : List Production) (s : Text) (states : List State) (table : LastSteps) →
    IsCover (Contains grammar) s (HasItem states) (HasEdge states) → ArePaths states table →
    (g : List Symbol) (n : ℕ) → Walk (LedBy table) g n → (f : Forest) → AreOver (Contains grammar) f → roots f ≡ g →
    (p : Production) (i m : ℕ) (us : Forest) → HasItem states n p i → IsBack (LedBy table) i n m → AreOver (Contains grammar) us →
    roots us ≡ drop i p.right → (ms : List Move) (w : List Terminal) →
    LeadsOut (Contains grammar) s (HasItem states) (LedBy table) m p.left ms w →
    IsContinued (Contains grammar) s f (moves us ++ reduce p ∷ ms) (yield us ++ w)

-- Where nothing is barren, from the state before an item of canonical states moves lead out whose next terminal is any one of the
-- item's lookahead.
abbrev pub LookaheadsHaveCompletions : Type 0
LookaheadsHaveCompletions =
    (grammar : List Production) (s : Text) (states : List State) (table : LastSteps) →
    NoneBarren (Contains grammar) s → AreCanonicalStates grammar s states →
    ArePaths states table → (n : ℕ) (p : Production) (i : ℕ) (x : Next) →
    HasLookahead states n p i x →
    (m : ℕ) × IsBack (LedBy table) i n m × HasCompletion (Contains grammar) s (HasItem states) (LedBy table) m p.left x

-- each item of canonical states has some lookahead, so from the state before it some moves lead out
abbrev pub ItemsHaveCompletions : Type 0
ItemsHaveCompletions =
    (grammar : List Production) (s : Text) (states : List State) (table : LastSteps) →
    NoneBarren (Contains grammar) s → AreCanonicalStates grammar s states →
    ArePaths states table → (n : ℕ) (p : Production) (i : ℕ) → HasItem states n p i →
    (m : ℕ) × IsBack (LedBy table) i n m × (x : Next) × HasCompletion (Contains grammar) s (HasItem states) (LedBy table) m p.left x
