-- Where moves lead out, the graphs of steps have a path to their end: for the searches for completions.
use Rattle.std.proofs.Common.{◌≡◌, ℕ, List, [], ◌∷◌, ◌++◌, Option, Some, refl, sym, ap, ◌∙◌, subst}
use Rattle.std.specs.Prelude.{drop, slice_get}
use Rattle.lalrpop_grammar_symbols.specs.Symbols.{Terminal, Text}
use Rattle.lalrpop_lr1_theory.specs.Productions as theory
use Rattle.lalrpop_lr1_theory.specs.Productions.{first}
use Rattle.lalrpop_lr1_theory.specs.Trees.{AreOver, Forest, Move, roots, yield}
use Rattle.lalrpop_lr1_theory.specs.States.{HasItem, State}
use Rattle.lalrpop_lr1_paths.specs.GraphPaths.{HasPathToGoal, ends, goes_on}
use Rattle.lalrpop_lr1_paths.specs.declared.graph_paths.graph.Edge.{Edge}
use Rattle.lalrpop_lr1_paths.specs.declared.graph_paths.graph.Goal.{Goal}
use Rattle.lalrpop_lr1_theory.specs.CompletionMoves.{LeadsOut, arrives, steps}
use Rattle.lalrpop_lr1_theory.specs.PathTrees.{IsBack, LastSteps, LedBy}
use Rattle.lalrpop_lr1_paths.specs.CompletionSteps.{AreEmptyEdges, AreCompletionSteps, AreStepEdges, HasCompletionStep, IsCompletionNode, step_production}
use Rattle.lalrpop_lr1_paths.specs.CompletionSteps.{step_rest}
use Rattle.lalrpop_lr1_least_trees.specs.RestForests.{BeginsWith, HasRest, NoLeaves}
use Rattle.lalrpop_lr1_paths.specs.declared.completion_steps.steps_of_states.CompletionStep.{CompletionStep}
use Rattle.lalrpop_lr1_paths.proofs.NodeLemmas.{node_same}

-- leaves beside others are none where there are none, and begin as the first of them do
pub none_beside : (a b : List Terminal) → a ++ b ≡ [] → (a ≡ []) × (b ≡ [])
none_beside [] b e = (refl, e)
none_beside (t ∷ a) b e = let z : ⊥ = cc in absurd z

-- a path over one edge more
pub over_edge : (edges : List Edge) (goals : List Goal) (node e : ℕ) (edge : Edge) → slice_get edges e ≡ Some edge →
    edge.from ≡ node →
    HasPathToGoal edges goals edge.to → HasPathToGoal edges goals node
over_edge edges goals node e edge at from rest =
    record { edges_of = e ∷ rest.edges_of; goal = rest.goal; is = goes_on node e edge rest.edges_of rest.goal at from rest.is }

at_goal : (edges : List Edge) (goals : List Goal) (node k : ℕ) (goal : Goal) → slice_get goals k ≡ Some goal →
    goal.node ≡ node →
    HasPathToGoal edges goals node
at_goal edges goals node k goal at is = record { edges_of = []; goal = k; is = ends node k goal at is }

module _ (G : theory.Production → Type 0) (s : Text) (states : List State) (table : LastSteps) (symbol_at : ℕ → Option theory.Symbol)
    (names : ℕ) (all : List CompletionStep)
    (are : AreCompletionSteps G states table symbol_at names (HasItem states) all)
    (once : (i j : ℕ) (A : Text) → symbol_at i ≡ Some (theory.nonterminal A) →
    symbol_at j ≡ Some (theory.nonterminal A) → i ≡ j) where
  abbrev Out : ℕ → Text → List Move → List Terminal → Type 0
  Out = LeadsOut G s (HasItem states) (LedBy table)

  -- the goals are at the start in state 0, and there is one
  pub record EndsAtStart (goals : List Goal) : Type 0 where
    pub number : ℕ
    pub goal : Goal
    pub at : slice_get goals number ≡ Some goal
    pub node : IsCompletionNode symbol_at names goal.node 0 s

  the_step : {n i m : ℕ} (p : theory.Production) (B : Text) (b : List theory.Symbol) (us : Forest) → HasItem states n p i →
      drop i p.right ≡ theory.nonterminal B ∷ b → IsBack (LedBy table) i n m → AreOver G us → roots us ≡ b →
      HasCompletionStep symbol_at names all n p m B b
  the_step {n = n} {i = i} {m = m} p B b us held at back over us_roots =
      are.all n p i m B b held at back (record { trees = us; over = over; roots_are = us_roots; wanted = tt })

  -- by any steps
  pub any_path : (edges : List Edge) → AreStepEdges all edges → (goals : List Goal) → EndsAtStart goals → (n : ℕ) (B : Text)
      (ms : List Move) (w : List Terminal) → Out n B ms w → (node : ℕ) → IsCompletionNode symbol_at names node n B →
      HasPathToGoal edges goals node
  any_path edges of goals end n B ms w arrives node is =
      at_goal edges goals node end.number end.goal end.at (node_same symbol_at names once end.goal.node node 0 s end.node is)
  any_path edges of goals end n B ms w (steps {m = m} {ms = ns} {w = v} p C b us held at back over us_roots leads) node is =
      let h = the_step p C b us held at back over us_roots in
      let edge = of.all h.number h.step h.at_step in
      over_edge edges goals node h.number edge.0 edge.1 (edge.2.0 ∙ node_same symbol_at names once h.step.from node n C h.from is)
      (any_path edges of goals end m p.left ns v leads edge.0.to
      (subst (λ k. IsCompletionNode symbol_at names k m p.left) (sym edge.2.1) h.to))

  module _ (numbers : List ℕ) (edges : List Edge) (of : AreEmptyEdges G all numbers edges) where
    rest_of : (p : theory.Production) (B : Text) (b : List theory.Symbol) (n m : ℕ) (h : HasCompletionStep symbol_at names all n p m B b)
        (us : Forest) (Wanted : List Terminal → Type 0) → AreOver G us → roots us ≡ b → Wanted (yield us) →
        HasRest G (step_rest h.step) Wanted
    rest_of p B b n m h us Wanted over us_roots wanted =
        record { trees = us; over = over; roots_are = us_roots ∙ sym h.rest_is; wanted = wanted }

    over_empty : (goals : List Goal) (p : theory.Production) (B : Text) (b : List theory.Symbol) (n m : ℕ)
        (h : HasCompletionStep symbol_at names all n p m B b) (us : Forest) → AreOver G us → roots us ≡ b →
        yield us ≡ [] → (node : ℕ) →
        IsCompletionNode symbol_at names node n B →
        ((next : ℕ) → IsCompletionNode symbol_at names next m p.left → HasPathToGoal edges goals next) → HasPathToGoal edges goals node
    over_empty goals p B b n m h us over us_roots nothing node is further =
        let e = of.all h.number h.step h.at_step (rest_of p B b n m h us NoLeaves over us_roots nothing) in
        over_edge edges goals node e.number e.edge e.at_edge (e.leads.0 ∙ node_same symbol_at names once h.step.from node n B h.from is)
        (further e.edge.to (subst (λ k. IsCompletionNode symbol_at names k m p.left) (sym e.leads.1) h.to))

    -- by those behind whose nonterminals nothing comes, where no terminal comes
    pub empty_path : (goals : List Goal) → EndsAtStart goals →
        (n : ℕ) (B : Text) (ms : List Move) (w : List Terminal) → Out n B ms w →
        w ≡ [] → (node : ℕ) → IsCompletionNode symbol_at names node n B → HasPathToGoal edges goals node
    empty_path goals end n B ms w arrives nothing node is =
        at_goal edges goals node end.number end.goal end.at (node_same symbol_at names once end.goal.node node 0 s end.node is)
    empty_path goals end n B ms w (steps {m = m} {ms = ns} {w = v} p C b us held at back over us_roots leads) nothing node is =
        let parts = none_beside (yield us) v nothing in
        over_empty goals p C b n m (the_step p C b us held at back over us_roots) us over us_roots parts.0 node is
        (λ next there. empty_path goals end m p.left ns v leads parts.1 next there)

    -- a goal stands at each step with whose trees the terminal comes, and from where moves lead out
    abbrev pub BeginGoals : Terminal → List Goal → Type 0
    BeginGoals t goals =
        (k : ℕ) (step : CompletionStep) → slice_get all k ≡ Some step → HasRest G (step_rest step) (BeginsWith t) →
        (m : ℕ) (ms : List Move)
        (w : List Terminal) → IsCompletionNode symbol_at names step.to m (step_production step).left →
        Out m (step_production step).left ms w →
        (g : ℕ) × (goal : Goal) × (slice_get goals g ≡ Some goal) × (goal.node ≡ step.from)

    to_begin : (t : Terminal) (goals : List Goal) → BeginGoals t goals → (p : theory.Production) (B : Text) (b : List theory.Symbol)
        (n m : ℕ) (h : HasCompletionStep symbol_at names all n p m B b) (us : Forest) → AreOver G us → roots us ≡ b →
        first (yield us) ≡ Some t → (ms : List Move) (w : List Terminal) → Out m p.left ms w → (node : ℕ) →
        IsCompletionNode symbol_at names node n B → HasPathToGoal edges goals node
    to_begin t goals begin p B b n m h us over us_roots begins ms w leads node is =
        let goal = begin h.number h.step h.at_step (rest_of p B b n m h us (BeginsWith t) over us_roots begins) m ms w
        (subst (λ q. IsCompletionNode symbol_at names h.step.to m q.left) (sym h.production_is) h.to)
        (subst (λ q. Out m q.left ms w) (sym h.production_is) leads) in
        at_goal edges goals node goal.0 goal.1 goal.2 (goal.3 ∙ node_same symbol_at names once h.step.from node n B h.from is)

    -- and by them to such a step, where the terminal comes next
    pub wanted_path : (t : Terminal) (goals : List Goal) → BeginGoals t goals → (n : ℕ) (B : Text) (ms : List Move)
        (w : List Terminal) → Out n B ms w → first w ≡ Some t → (node : ℕ) → IsCompletionNode symbol_at names node n B →
        HasPathToGoal edges goals node
    wanted_path t goals begin n B ms w arrives next node is = let z : ⊥ = cc in absurd z
    wanted_path t goals begin n B ms w (steps {m = m} {ms = ns} {w = v} p C b us held at back over us_roots leads) next node is =
        go (λ f next there. wanted_path t goals begin m p.left ns v leads f next there) (yield us) refl next
      where
        h : HasCompletionStep symbol_at names all n p m C b
        h = the_step p C b us held at back over us_roots

        go : (first v ≡ Some t → (next : ℕ) → IsCompletionNode symbol_at names next m p.left → HasPathToGoal edges goals next) →
            (front : List Terminal) → yield us ≡ front → first (front ++ v) ≡ Some t → HasPathToGoal edges goals node
        go further [] e f = over_empty goals p C b n m h us over us_roots e node is (further f)
        go further (u ∷ front) e f = to_begin t goals begin p C b n m h us over us_roots (ap first e ∙ f) ns v leads node is
