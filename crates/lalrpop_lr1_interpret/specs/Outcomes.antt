-- How a parse ends, in terms of runs of the states: for the machine and for all that answer by it.
use Rattle.std.specs.Prelude.{ℕ, ◌≤◌, List, [], length, drop}
use Rattle.lalrpop_grammar_symbols.specs.Symbols.{Terminal}
use Rattle.lalrpop_lr1_theory.specs.Productions.{first}
use Rattle.lalrpop_lr1_theory.specs.Trees.{Forest, Move, roots}
use Rattle.lalrpop_lr1_theory.specs.Automata.{Walk}
use Rattle.lalrpop_lr1_theory.specs.States.{HasEdge, Reduces, State}
use Rattle.lalrpop_lr1_theory.specs.Runs.{Allows, RunsOver}
use Rattle.lalrpop_lr1_interpret.specs.Stacks.{AreStatesOn, EndsByShift}

-- a run within the limit comes to a state with the tokens from this place on before it, and the state allows no move
pub record IsStuckAt (states : List State) (tokens : List Terminal) (limit at state : ℕ) : Type 0 where
  pub made : Forest
  pub moves : List Move
  pub run : RunsOver states moves tokens made (drop at tokens)
  pub walk : Walk (HasEdge states) (roots made) state
  pub none_allowed : (v : Move) → Allows (HasEdge states) (Reduces states) state (first (drop at tokens)) v → ⊥
  pub within : at ≤ length tokens
  pub few : length moves ≤ limit

-- a run has shifted all tokens, the last of them last, within the limit, and these are the states on its stack
pub record ShiftsAll (states : List State) (tokens : List Terminal) (limit : ℕ) (numbers : List ℕ) : Type 0 where
  pub made : Forest
  pub moves : List Move
  pub run : RunsOver states moves tokens made []
  pub last : EndsByShift moves
  pub stack : AreStatesOn (HasEdge states) numbers (roots made)
  pub within : length moves ≤ limit
