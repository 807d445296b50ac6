-- What nodes and steps that lead out stand for: for the graphs of steps.
use Rattle.std.specs.Prelude.{ℕ, ◌+◌, ◌*◌, ◌<◌, List, ◌∷◌, drop, map, ◌≡◌, Option, Some, None, slice_get}
use Rattle.lalrpop_grammar_symbols.specs.Symbols.{Text}
use Rattle.lalrpop_lr1_theory.specs.Productions as theory
use Rattle.lalrpop_lr1_theory.specs.States.{State, HasItem}
use Rattle.lalrpop_lr1_core.specs.Views.{production_symbol_view, production_view}
use Rattle.lalrpop_lr1_paths.specs.declared.graph_paths.graph.Edge.{Edge}
use Rattle.lalrpop_lr1_theory.specs.PathTrees.{IsBack, LastSteps, LedBy}
use Rattle.lalrpop_lr1_least_trees.specs.RestForests.{AnyLeaves, HasRest, NoLeaves}
use Rattle.lalrpop_lr1_paths.specs.declared.completion_steps.steps_of_states.CompletionStep.{CompletionStep}

-- a step's production, and what stands behind its nonterminal
abbrev pub step_production : CompletionStep → theory.Production
step_production step = production_view step.production.now

abbrev pub step_rest : CompletionStep → List theory.Symbol
step_rest step = map production_symbol_view step.rest.now

-- the node is that of the nonterminal in the state
pub record IsCompletionNode (symbol_at : ℕ → Option theory.Symbol) (names node n : ℕ) (B : Text) : Type 0 where
  pub number : ℕ
  pub below : number < names
  pub named : symbol_at number ≡ Some (theory.nonterminal B)
  pub is : node ≡ n * names + number

-- the node, if the nonterminal has a number; none where it has none
abbrev pub IsNodeIfSome : (ℕ → Option theory.Symbol) → ℕ → ℕ → Text → Option ℕ → Type 0
IsNodeIfSome symbol_at names n B None = (number : ℕ) → number < names → symbol_at number ≡ Some (theory.nonterminal B) → ⊥
IsNodeIfSome symbol_at names n B (Some node) = IsCompletionNode symbol_at names node n B

-- the steps lead between nodes below the count
abbrev pub StepsAreBelow : ℕ → List CompletionStep → Type 0
StepsAreBelow nodes steps = (k : ℕ) (step : CompletionStep) → slice_get steps k ≡ Some step → (step.from < nodes) × (step.to < nodes)

-- The step is over an item of a state, from the nonterminal behind its dot to its own, in the state that stands before it on the path; and
-- what stands behind that nonterminal has trees.
pub record IsCompletionStep (G : theory.Production → Type 0) (states : List State) (table : LastSteps) (symbol_at : ℕ → Option theory.Symbol)
    (names : ℕ) (step : CompletionStep) : Type 0 where
  pub state : ℕ
  pub before : ℕ
  pub dot : ℕ
  pub name : Text
  pub held : HasItem states state (step_production step) dot
  pub at : drop dot (step_production step).right ≡ theory.nonterminal name ∷ step_rest step
  pub back : IsBack (LedBy table) dot state before
  pub from : IsCompletionNode symbol_at names step.from state name
  pub to : IsCompletionNode symbol_at names step.to before (step_production step).left
  pub rest : HasRest G (step_rest step) AnyLeaves

-- some step is over the item
pub record HasCompletionStep (symbol_at : ℕ → Option theory.Symbol) (names : ℕ) (steps : List CompletionStep) (n : ℕ)
    (p : theory.Production) (m : ℕ)
    (B : Text) (b : List theory.Symbol) : Type 0 where
  pub number : ℕ
  pub step : CompletionStep
  pub at_step : slice_get steps number ≡ Some step
  pub production_is : step_production step ≡ p
  pub rest_is : step_rest step ≡ b
  pub from : IsCompletionNode symbol_at names step.from n B
  pub to : IsCompletionNode symbol_at names step.to m p.left

-- all steps are over items, and over each item of these states whose dot stands before a nonterminal, and behind which trees may come,
-- there is one
pub record AreCompletionSteps (G : theory.Production → Type 0) (states : List State) (table : LastSteps)
    (symbol_at : ℕ → Option theory.Symbol)
    (names : ℕ) (Held : ℕ → theory.Production → ℕ → Type 0) (steps : List CompletionStep) : Type 0 where
  pub sound : (k : ℕ) (step : CompletionStep) → slice_get steps k ≡ Some step → IsCompletionStep G states table symbol_at names step
  pub all : (n : ℕ) (p : theory.Production) (i m : ℕ) (B : Text) (b : List theory.Symbol) → Held n p i →
      drop i p.right ≡ theory.nonterminal B ∷ b → IsBack (LedBy table) i n m → HasRest G b AnyLeaves →
      HasCompletionStep symbol_at names steps n p m B b

-- an edge leads as the step does
abbrev pub LeadsAsStep : CompletionStep → Edge → Type 0
LeadsAsStep step edge = (edge.from ≡ step.from) × (edge.to ≡ step.to)

-- an edge for the step with its number
pub record IsStepEdge (steps : List CompletionStep) (number : ℕ) (edge : Edge) : Type 0 where
  pub step : CompletionStep
  pub at_step : slice_get steps number ≡ Some step
  pub leads : LeadsAsStep step edge

-- each edge is for the step with its number, and each step has its edge
pub record AreStepEdges (steps : List CompletionStep) (edges : List Edge) : Type 0 where
  pub sound : (e : ℕ) (edge : Edge) → slice_get edges e ≡ Some edge → IsStepEdge steps e edge
  pub all : (k : ℕ) (step : CompletionStep) → slice_get steps k ≡ Some step → (edge : Edge) × (slice_get edges k ≡ Some edge) ×
      LeadsAsStep step edge

-- the edge is for the step whose number is listed at its place
pub record IsListedEdge (steps : List CompletionStep) (numbers : List ℕ) (e : ℕ) (edge : Edge) : Type 0 where
  pub number : ℕ
  pub listed : slice_get numbers e ≡ Some number
  pub is : IsStepEdge steps number edge

-- each edge is for the step whose number is listed at its place
abbrev pub AreListedEdges : List CompletionStep → List ℕ → List Edge → Type 0
AreListedEdges steps numbers edges = (e : ℕ) (edge : Edge) → slice_get edges e ≡ Some edge → IsListedEdge steps numbers e edge

-- some edge is for the step
pub record HasEdgeFor (edges : List Edge) (step : CompletionStep) : Type 0 where
  pub number : ℕ
  pub edge : Edge
  pub at_edge : slice_get edges number ≡ Some edge
  pub leads : LeadsAsStep step edge

-- behind the nonterminals of the listed steps nothing may come, and each step of which that holds has an edge
pub record AreEmptyEdges (G : theory.Production → Type 0) (steps : List CompletionStep) (numbers : List ℕ) (edges : List Edge) : Type 0 where
  pub sound : (e number : ℕ) (step : CompletionStep) → slice_get numbers e ≡ Some number → slice_get steps number ≡ Some step →
      HasRest G (step_rest step) NoLeaves
  pub all : (k : ℕ) (step : CompletionStep) → slice_get steps k ≡ Some step → HasRest G (step_rest step) NoLeaves → HasEdgeFor edges step
