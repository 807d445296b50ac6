-- Paths to states as a table of last edges by numbers, and what states must be for all of them to have one.
use Rattle.std.specs.Prelude.{ℕ, ◌<◌, List, map, ◌≡◌, Option, Some, None, Contains, slice_index_or}
use Rattle.std.specs.Option.{option_map}
use Rattle.lalrpop_lr1_theory.specs.Automata.{Walk}
use Rattle.lalrpop_lr1_theory.specs.Productions as theory
use Rattle.lalrpop_lr1_theory.specs.States.{State, HasEdge}
use Rattle.lalrpop_lr1_theory.specs.PathTrees.{IsStateOf, LastStep, LastSteps}
use Rattle.lalrpop_lr1_first.specs.declared.numbered.Numbered.{Numbered}
use Rattle.lalrpop_lr1_least_trees.specs.GrammarTrees.{AreLeastTrees, symbols_by}
use Rattle.lalrpop_lr1_least_trees.specs.declared.least_trees.LeastTrees.{LeastTrees}
use Rattle.lalrpop_lr1_paths.specs.declared.state_paths.path_edges.NumberEdge.{NumberEdge}
use Rattle.lalrpop_lr1_paths.specs.declared.state_paths.state_paths.StatePaths.{StatePaths}

-- the last edge of the path to a state; none where it has no edges, or there is no such state
abbrev pub last_edge_at : List (Option NumberEdge) → ℕ → Option NumberEdge
last_edge_at steps n = slice_index_or steps n None

-- the step by an edge: from its source, by the symbol with its number
abbrev pub last_step : Numbered → NumberEdge → Option LastStep
last_step table edge = option_map (λ x. record { from = edge.source; by = x }) (symbols_by table edge.symbol)

abbrev pub step_if_some : Numbered → Option NumberEdge → Option LastStep
step_if_some table None = None
step_if_some table (Some edge) = last_step table edge

-- the last steps of the paths
abbrev pub last_steps : StatePaths → LastSteps
last_steps it = map (step_if_some it.trees.now.table) it.steps.items

-- some symbol has the number; each of these numbers is one's
abbrev pub HasSymbol : Numbered → ℕ → Type 0
HasSymbol table s = (x : theory.Symbol) × (symbols_by table s ≡ Some x)

abbrev pub HaveSymbols : Numbered → List ℕ → Type 0
HaveSymbols table ss = (s : ℕ) → Contains ss s → HasSymbol table s

-- The trees are least trees, no edge leads last to state 0, each edge is by a symbol, and no path goes round: along each edge back some
-- rank falls.
pub record AreStatePaths (it : StatePaths) : Type 0 where
  pub trees : AreLeastTrees it.trees.now
  pub start : last_edge_at it.steps.items 0 ≡ None
  pub symbols : (n : ℕ) (edge : NumberEdge) → last_edge_at it.steps.items n ≡ Some edge → HasSymbol it.trees.now.table edge.symbol
  pub rank : ℕ → ℕ
  pub falls : (n : ℕ) (edge : NumberEdge) → last_edge_at it.steps.items n ≡ Some edge → rank edge.source < rank n

-- the states' edges are by symbols with numbers, and edges lead from state 0 to each of them
pub record AreReachedStates (trees : LeastTrees) (states : List State) : Type 0 where
  pub known : (n : ℕ) (x : theory.Symbol) (m : ℕ) → HasEdge states n x m → (s : ℕ) × (symbols_by trees.table s ≡ Some x)
  pub reached : (n : ℕ) → IsStateOf states n → (g : List theory.Symbol) × Walk (HasEdge states) g n
