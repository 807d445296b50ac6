-- What the laws say, over lists of productions and of states.
use Rattle.std.specs.Prelude.{ℕ, suc, List, [], ◌∷◌, length, ◌≡◌, ◌↔◌, slice_get, Some, Contains}
use Rattle.lalrpop_grammar_symbols.specs.Symbols.{Text, Terminal}
use Rattle.lalrpop_lr1_theory.specs.Productions.{Symbol, Production, Next}
use Rattle.lalrpop_lr1_theory.specs.Trees.{Forest, none, roots, yield, nodes, AreOver, forest, Move, moves, IsTreeOf, MovesLead}
use Rattle.lalrpop_lr1_theory.specs.FirstSets.{First0, TableSays, IsClosedTable, HoldsFirstSets, HasFirst}
use Rattle.lalrpop_lr1_theory.specs.ValidItems.{IsValidItem, CarriesAlong, CarriesOn, NoneBarren, CountsItemSets}
use Rattle.lalrpop_lr1_theory.specs.Automata.{Walk}
use Rattle.lalrpop_lr1_theory.specs.States.{State, HasEdge, HasLookahead, Reduces}
use Rattle.lalrpop_lr1_theory.specs.Runs.{Allows, RunsOver}
use Rattle.lalrpop_lr1_theory.specs.Answers.{IsValidMove, IsLr1, MayFollow, ParseAnswer, IsRightParseAnswer, RunEnds}
use Rattle.lalrpop_lr1_theory.specs.CheckedStates.{HasNoConflict, AreCheckedStates, IsStartAlone}
use Rattle.lalrpop_lr1_theory.specs.CanonicalStates.{AreCanonicalStates}

-- the moves of trees, from no forest, make these trees, and are as many as their leaves and nodes
abbrev pub MovesRebuild : Type 0
MovesRebuild =
    (grammar : List Production) (ts : Forest) → AreOver (Contains grammar) ts →
    MovesLead (moves ts) none ts × (length (moves ts) ≡ nodes ts)

-- trees with the same moves are the same
abbrev pub MovesDetermine : Type 0
MovesDetermine =
    (grammar : List Production) (ts us : Forest) → AreOver (Contains grammar) ts → AreOver (Contains grammar) us →
    moves ts ≡ moves us → ts ≡ us

-- a tree's forests follow one another by its moves
abbrev pub ForestsFollow : Type 0
ForestsFollow =
    (grammar : List Production) (s : Text) (ts : Forest) (k : ℕ) (m : Move) → IsTreeOf (Contains grammar) s ts →
    slice_get (moves ts) k ≡ Some m → MovesLead (m ∷ []) (forest ts k) (forest ts (suc k))

-- where nothing is barren, an item is valid exactly where it is carried
abbrev pub ValidAreCarried : Type 0
ValidAreCarried =
    (grammar : List Production) (s : Text) → NoneBarren (Contains grammar) s →
    (g : List Symbol) (p : Production) (i : ℕ) (x : Next) →
    IsValidItem (Contains grammar) s g p i x ↔ CarriesOn (Contains grammar) s g p i x

-- a table of first sets that is closed under the productions, and holds first sets alone, says exactly the first sets
abbrev pub FirstTablesAreExact : Type 0
FirstTablesAreExact =
    (grammar : List Production) (entries : List (Text × List Next)) → IsClosedTable (Contains grammar) (HasFirst entries) →
    HoldsFirstSets (Contains grammar) (HasFirst entries) → (xs : List Symbol) (x : Next) →
    TableSays (HasFirst entries) xs x ↔ First0 (Contains grammar) xs x

-- what is carried along a graph of states is carried along some symbols that lead to the state
abbrev pub CarriedAlongSymbols : Type 0
CarriedAlongSymbols =
    (grammar : List Production) (s : Text) (states : List State) (n : ℕ) (p : Production) (i : ℕ) (x : Next) →
    CarriesAlong (Contains grammar) s ℕ 0 (HasEdge states) n p i x →
    (g : List Symbol) × Walk (HasEdge states) g n × CarriesOn (Contains grammar) s g p i x

-- canonical states hold, on each list of symbols that leads to them, exactly the valid items
abbrev pub CanonicalAreValid : Type 0
CanonicalAreValid =
    (grammar : List Production) (s : Text) (states : List State) → NoneBarren (Contains grammar) s →
    AreCanonicalStates grammar s states → (g : List Symbol) (n : ℕ) → Walk (HasEdge states) g n →
    (p : Production) (i : ℕ) (x : Next) → HasLookahead states n p i x ↔ IsValidItem (Contains grammar) s g p i x

-- canonical states are as many as the nonempty sets of valid items
abbrev pub CanonicalAreCounted : Type 0
CanonicalAreCounted =
    (grammar : List Production) (s : Text) (states : List State) → NoneBarren (Contains grammar) s →
    AreCanonicalStates grammar s states → CountsItemSets (Contains grammar) s (length states)

-- no state allows two moves before one terminal or the end
abbrev pub NeverTwoMoves : List State → Type 0
NeverTwoMoves states =
    (n : ℕ) (x : Next) (v w : Move) → Allows (HasEdge states) (Reduces states) n x v →
    Allows (HasEdge states) (Reduces states) n x w → v ≡ w

-- no state has a conflict
abbrev pub HaveNoConflict : List State → Type 0
HaveNoConflict states = (n : ℕ) (state : State) → slice_get states n ≡ Some state → HasNoConflict state

-- canonical states have no conflict exactly where they never allow two moves
abbrev pub ConflictsAreTwoMoves : Type 0
ConflictsAreTwoMoves =
    (grammar : List Production) (s : Text) (states : List State) → AreCanonicalStates grammar s states →
    HaveNoConflict states ↔ NeverTwoMoves states

-- canonical states without a conflict are checked, where the start is alone and reaches nothing barren
abbrev pub CanonicalAreChecked : Type 0
CanonicalAreChecked =
    (grammar : List Production) (s : Text) (states : List State) → NoneBarren (Contains grammar) s → IsStartAlone grammar s →
    AreCanonicalStates grammar s states → HaveNoConflict states → AreCheckedStates grammar s states

-- the grammar is LR(1) exactly where no canonical state allows two moves before one terminal or the end
abbrev pub Lr1IsNoConflict : Type 0
Lr1IsNoConflict =
    (grammar : List Production) (s : Text) (states : List State) → NoneBarren (Contains grammar) s →
    AreCanonicalStates grammar s states → IsLr1 (Contains grammar) s ↔ NeverTwoMoves states

-- a conflict of canonical states: after some forest, before that terminal or the end, both moves are valid
abbrev pub ConflictsHaveForests : Type 0
ConflictsHaveForests =
    (grammar : List Production) (s : Text) (states : List State) → NoneBarren (Contains grammar) s →
    AreCanonicalStates grammar s states → (n : ℕ) (x : Next) (v w : Move) →
    Allows (HasEdge states) (Reduces states) n x v → Allows (HasEdge states) (Reduces states) n x w →
    (f : Forest) × IsValidMove (Contains grammar) s f x v × IsValidMove (Contains grammar) s f x w

-- canonical states allow no move before a terminal, or before the end, that can't follow
abbrev pub CanonicalMovesFollow : Type 0
CanonicalMovesFollow =
    (grammar : List Production) (s : Text) (states : List State) → NoneBarren (Contains grammar) s →
    AreCanonicalStates grammar s states → (f : Forest) (n : ℕ) (x : Next) (v : Move) → AreOver (Contains grammar) f →
    Walk (HasEdge states) (roots f) n → Allows (HasEdge states) (Reduces states) n x v →
    MayFollow (Contains grammar) s (yield f) x

-- where checked states stand, the grammar is LR(1)
abbrev pub CheckedAreLr1 : Type 0
CheckedAreLr1 =
    (grammar : List Production) (s : Text) (states : List State) → AreCheckedStates grammar s states → IsLr1 (Contains grammar) s

-- over checked states for a start alone no sentence has two trees
abbrev pub OneTree : Type 0
OneTree =
    (grammar : List Production) (s : Text) (states : List State) → IsStartAlone grammar s → AreCheckedStates grammar s states →
    (ts us : Forest) → IsTreeOf (Contains grammar) s ts → IsTreeOf (Contains grammar) s us → yield ts ≡ yield us → ts ≡ us

-- a run's end is the right answer
abbrev pub EndsAreRight : Type 0
EndsAreRight =
    (grammar : List Production) (s : Text) (states : List State) → IsStartAlone grammar s → AreCheckedStates grammar s states →
    (w : List Terminal) (limit : ℕ) (a : ParseAnswer) → RunEnds states s w limit a →
    IsRightParseAnswer (Contains grammar) s w limit a

-- two runs of one length over the same tokens are one
pub record IsOneRun (ms ns : List Move) (f g : Forest) (v w : List Terminal) : Type 0 where
  pub moves_same : ms ≡ ns
  pub forests_same : f ≡ g
  pub left_same : v ≡ w

-- over checked states runs of one length are one, so the number of moves is the states' and the tokens' alone
abbrev pub RunsAreOne : Type 0
RunsAreOne =
    (grammar : List Production) (s : Text) (states : List State) → AreCheckedStates grammar s states →
    (ms ns : List Move) (tokens : List Terminal) (f g : Forest) (v w : List Terminal) → RunsOver states ms tokens f v →
    RunsOver states ns tokens g w → length ms ≡ length ns → IsOneRun ms ns f g v w
