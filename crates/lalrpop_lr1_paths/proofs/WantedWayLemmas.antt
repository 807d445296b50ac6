-- Completions on which a terminal comes next, from the steps with whose trees it does: for the answers of the calls.
use Rattle.std.proofs.Common.{◌≡◌, ◌∙◌, ℕ, ◌<◌, Bool, true, false, List, [], ◌∷◌, ◌++◌, map, Some}
use Rattle.std.proofs.Common.{length, sym, ap, subst, append_assoc, arith}
use Rattle.std.specs.Prelude.{slice_get}
use Rattle.std.proofs.lemmas.List.{map-append}
use Rattle.std.proofs.lemmas.Option.{slice_get_within}
use Rattle.lalrpop_grammar_symbols.specs.Symbols.{Terminal, Text}
use Rattle.lalrpop_grammar_symbols.specs.Views.{terminal_view}
use Rattle.lalrpop_grammar_repr.specs.declared.grammar.Grammar.{Grammar}
use Rattle.lalrpop_lr1_theory.specs.Productions.{first}
use Rattle.lalrpop_lr1_theory.specs.States.{State}
use Rattle.lalrpop_lr1_theory.specs.Trees.{Move, moves, reduce, yield}
use Rattle.lalrpop_lr1_theory.proofs.StepLemmas.{some_same}
use Rattle.lalrpop_lr1_first.specs.FirstNumbers.{name_count}
use Rattle.lalrpop_lr1_first.specs.FirstSetsOf.{IsProductionOf}
use Rattle.lalrpop_lr1_first.specs.NumberedGrammars.{IsNumberTableOf}
use Rattle.lalrpop_lr1_first.specs.declared.numbered.Numbered.{Numbered}
use Rattle.lalrpop_lr1_paths.specs.GraphPaths.{GoalsAreBelow, HasPathToGoal, IsPathTo, ends, goes_on}
use Rattle.lalrpop_lr1_paths.specs.Graphs.{graph_edges, graph_node_count}
use Rattle.lalrpop_lr1_paths.specs.declared.graph_paths.graph.Edge.{Edge}
use Rattle.lalrpop_lr1_paths.specs.declared.graph_paths.graph.Goal.{Goal}
use Rattle.lalrpop_lr1_paths.specs.declared.graph_paths.paths.GoalPath.{GoalPath}
use Rattle.lalrpop_lr1_least_trees.specs.GrammarTrees.{symbols_by}
use Rattle.lalrpop_lr1_least_trees.specs.MoveViews.{tree_move_view}
use Rattle.lalrpop_lr1_least_trees.specs.declared.tree_move.TreeMove.{TreeMove}
use Rattle.lalrpop_lr1_theory.specs.CompletionMoves.{arrives}
use Rattle.lalrpop_lr1_least_trees.specs.RestForests.{AnyLeaves, BeginsWith, HasRest}
use Rattle.lalrpop_lr1_paths.specs.PathTables.{last_steps}
use Rattle.lalrpop_lr1_paths.specs.CompletionGraphs.{AreCompletionGraphs, AreCompletions, ways_table}
use Rattle.lalrpop_lr1_paths.specs.CompletionSteps.{IsCompletionNode, IsCompletionStep, step_production, step_rest}
use Rattle.lalrpop_lr1_paths.specs.declared.completion_steps.completion_graphs.CompletionGraphs.{CompletionGraphs}
use Rattle.lalrpop_lr1_paths.specs.declared.completion_steps.steps_of_states.CompletionStep.{CompletionStep}
use Rattle.lalrpop_lr1_paths.proofs.NodeLemmas.{node_one}
use Rattle.lalrpop_lr1_paths.proofs.OutwardStepLemmas.{step_out}
use Rattle.lalrpop_lr1_paths.proofs.CompletionSearchLemmas.{wanted_path}
use Rattle.lalrpop_lr1_paths.specs.CompletionSearches.{AreWantedSteps, HasAnyPath, IsAnyCompletion, IsPathFrom, IsWantedCompletion}
use Rattle.lalrpop_lr1_paths.specs.StepMoves.{AddsSoFar, AddsStep, AddsStepIf, AddsWay, AddsWayIf, IsNodeIn, LeadsBy}
use Rattle.lalrpop_lr1_paths.specs.StepMoves.{step_edges}
use Rattle.lalrpop_lr1_paths.specs.declared.completions.any_completion.AnyCompletion.{AnyCompletion}
use Rattle.lalrpop_lr1_paths.specs.declared.completions.wanted_completion.WantedCompletion.{WantedCompletion}
use Rattle.lalrpop_lr1_paths.specs.declared.completions.wanted_steps.WantedSteps.{WantedSteps}
use Rattle.lalrpop_lr1_paths.proofs.AlongLemmas.{all_added}
use Rattle.lalrpop_lr1_paths.proofs.WayLemmas.{any_there, number_once}

-- leaves of which the first come with the terminal begin with it
begins_on : (t : Terminal) (a w : List Terminal) → first a ≡ Some t → first (a ++ w) ≡ Some t
begins_on t [] w e = let z : ⊥ = cc in absurd z
begins_on t (u ∷ a) w e = e

-- a path of the search for any completions is one in the graph of all steps, and back
pub path_of : (it : AnyCompletion) → IsAnyCompletion it → (node : ℕ) → HasAnyPath it node →
    HasPathToGoal (step_edges it.ways.now true) it.ways.now.goals.items node
path_of it is node h =
    subst (λ l. HasPathToGoal l it.ways.now.goals.items node) (ap graph_edges is.graph)
    (subst (λ l. HasPathToGoal (graph_edges it.found.graph.now) l node) is.goals h)

pub path_back : (it : AnyCompletion) → IsAnyCompletion it → (node : ℕ) →
    HasPathToGoal (step_edges it.ways.now true) it.ways.now.goals.items node →
    HasAnyPath it node
path_back it is node h =
    subst (λ l. HasPathToGoal (graph_edges it.found.graph.now) l node) (sym is.goals)
    (subst (λ l. HasPathToGoal l it.ways.now.goals.items node) (sym (ap graph_edges is.graph)) h)

-- where there is a path moves lead out
module _ (it : CompletionGraphs) (graphs : AreCompletionGraphs it) (g : Grammar) (s : Text) (states : List State) (are : AreCompletions g s states it)
  where
    pub path_leads : (node : ℕ) (es : List ℕ) (goal : ℕ) → IsPathTo (step_edges it true) it.goals.items node es goal →
        (n : ℕ) (B : Text) →
        IsNodeIn g s states it node n B → (ms : List Move) × (w : List Terminal) × LeadsBy g s states it n B ms w
    path_leads node es goal (ends k l entry at here) n B there =
        let start = are.end.each goal entry at in
        let same = node_one (symbols_by (ways_table it)) (name_count (ways_table it)) entry.node 0 n s B start
        (subst (λ j. IsNodeIn g s states it j n B) (sym here) there) in (
          [],
          [],
          subst (λ k. LeadsBy g s states it k B [] []) same.0 (subst (λ A. LeadsBy g s states it 0 A [] []) same.1 arrives),
        )
    path_leads node es goal (goes_on k e edge rest l at from path) n B there =
        let h = graphs.any.sound e edge at in
        let is = are.steps.sound e h.step h.at_step in
        let inner = path_leads edge.to rest l path is.before (step_production h.step).left
        (subst (λ j. IsNodeIn g s states it j is.before (step_production h.step).left) (sym h.leads.1) is.to) in
        let us = is.rest in (
          moves us.trees ++ reduce (step_production h.step) ∷ inner.0,
          yield us.trees ++ inner.1,
          step_out (IsProductionOf g) s states (last_steps it.paths.now) (symbols_by (ways_table it)) (name_count (ways_table it)) h.step is
              n B (subst (λ j. IsNodeIn g s states it j n B) (sym from ∙ h.leads.0) there) us.trees us.over us.roots_are inner.0 inner.1
              inner.2,
        )

-- a path ends at a goal
path_goal : (edges : List Edge) (goals : List Goal) (node : ℕ) (es : List ℕ) (goal : ℕ) → IsPathTo edges goals node es goal →
    (entry : Goal) × (slice_get goals goal ≡ Some entry)
path_goal edges goals node es goal (ends k l entry at here) = (entry, at)
path_goal edges goals node es goal (goes_on k e edge rest l at from path) = path_goal edges goals edge.to rest l path

-- a path of the search for completions on which the terminal comes is one in the graph of empty steps
pub wanted_from : (out : WantedCompletion) → IsWantedCompletion out → (node : ℕ) (path : GoalPath) → IsPathFrom out.found node path →
    IsPathTo (step_edges out.steps.now.any.now.ways.now false) out.steps.now.goals.items node path.edges.items path.goal
wanted_from out is node path h =
    subst (λ l. IsPathTo l out.steps.now.goals.items node path.edges.items path.goal) (ap graph_edges is.graph)
    (subst (λ l. IsPathTo (graph_edges out.found.graph.now) l node path.edges.items path.goal) is.goals h)

module _ (it : WantedSteps) (are : AreWantedSteps it) where
  abbrev ways : CompletionGraphs
  ways = it.any.now.ways.now

  abbrev t : Terminal
  t = terminal_view it.terminal

  -- the goals are at nodes
  pub goals_below : GoalsAreBelow (graph_node_count ways.empty) it.goals.items
  goals_below k goal e =
      let g = are.goals k goal e in
      let edge = are.any.graphs.any.all g.number g.step g.at_step in
      let below = are.any.graphs.any_graph.below g.number edge.0 edge.1 in
      omega (arith, g.node, edge.2.0, below.0, are.any.graphs.nodes)

  -- the step at the goal where a path ends
  pub record IsGoalStep (goal : ℕ) : Type 0 where
    pub number : ℕ
    pub step : CompletionStep
    pub listed : slice_get it.numbers.items goal ≡ Some number
    pub at_step : slice_get ways.steps.items number ≡ Some step
    pub within : number < length ways.steps.items
    pub place : goal < length it.numbers.items
    pub node : (entry : Goal) → slice_get it.goals.items goal ≡ Some entry → entry.node ≡ step.from
    pub onward : HasAnyPath it.any.now step.to

  pub goal_step : (goal : ℕ) (entry : Goal) → slice_get it.goals.items goal ≡ Some entry → IsGoalStep goal
  goal_step goal entry e =
      let g = are.goals goal entry e in
      record {
        number = g.number;
        step = g.step;
        listed = g.listed;
        at_step = g.at_step;
        within = slice_get_within ways.steps.items g.number g.step g.at_step;
        place = slice_get_within it.numbers.items goal g.number g.listed;
        node = λ other f. ap (λ (x : Goal). x.node) (some_same other entry (sym f ∙ e)) ∙ g.node;
        onward = g.onward;
      }

  pub path_step : (node : ℕ) (es : List ℕ) (goal : ℕ) →
      IsPathTo (step_edges ways false) it.goals.items node es goal → IsGoalStep goal
  path_step node es goal path = let e = path_goal (step_edges ways false) it.goals.items node es goal path in goal_step goal e.0 e.1

  -- it is the one that is read
  pub step_is : (goal : ℕ) (h : IsGoalStep goal) (numbers : List ℕ) (steps : List CompletionStep) → numbers ≡ it.numbers.items →
      steps ≡ ways.steps.items → (number : ℕ) (step : CompletionStep) → slice_get numbers goal ≡ Some number →
      slice_get steps number ≡ Some step → h.step ≡ step
  step_is goal h numbers steps numbers_are steps_are number step at at_step =
      let same : h.number ≡ number =
      some_same h.number number (sym h.listed ∙ ap (λ l. slice_get l goal) (sym numbers_are) ∙ at) in
      some_same h.step step (sym h.at_step ∙ ap (slice_get ways.steps.items) same
      ∙ ap (λ l. slice_get l number) (sym steps_are) ∙ at_step)

  pub number_is : (goal : ℕ) (h : IsGoalStep goal) (numbers : List ℕ) → numbers ≡ it.numbers.items → (number : ℕ) →
      slice_get numbers goal ≡ Some number → h.number ≡ number
  number_is goal h numbers numbers_are number at =
      some_same h.number number (sym h.listed ∙ ap (λ l. slice_get l goal) (sym numbers_are) ∙ at)

  module _ (goal : ℕ) (h : IsGoalStep goal) (step : CompletionStep) (same : h.step ≡ step) where
    abbrev table : Numbered
    table = it.begins.trees.now.table

    table_same : table ≡ ways_table ways
    table_same = ap (λ t. t.table) are.trees

    of_table : (g : Grammar) (s : Text) (states : List State) → AreCompletions g s states ways → IsNumberTableOf g table
    of_table g s states w = subst (IsNumberTableOf g) (sym table_same) w.of

    -- it has moves
    pub begin_there : (old new : List TreeMove) → AddsStepIf table (BeginsWith t) step old new false → (g : Grammar) (s : Text)
        (states : List State) → AreCompletions g s states ways → ⊥
    begin_there old new none g s states w =
        let rest = subst (λ x. HasRest (IsProductionOf g) (step_rest x) (BeginsWith t)) same
        (are.begin g w.of goal h.number h.step h.listed h.at_step) in
        none g (of_table g s states w) rest.trees rest.over rest.roots_are rest.wanted

    its : (g : Grammar) (s : Text) (states : List State) → AreCompletions g s states ways →
        IsCompletionStep (IsProductionOf g) states (last_steps ways.paths.now) (symbols_by (ways_table ways)) (name_count (ways_table ways)) step
    its g s states w = w.steps.sound h.number step (subst (λ x. slice_get ways.steps.items h.number ≡ Some x) same h.at_step)

    -- from its end a way leads on
    pub onward_there : (old new : List TreeMove) → AddsWayIf ways step.to AnyLeaves old new false → (g : Grammar) (s : Text)
        (states : List State) → AreCompletions g s states ways → ⊥
    onward_there old new none g s states w =
        let is = its g s states w in
        let onward = subst (λ (x : CompletionStep). HasAnyPath it.any.now x.to) same h.onward in
        let path = path_of it.any.now are.any step.to onward in
        let out = path_leads ways are.any.graphs g s states w step.to path.edges_of path.goal path.is is.before (step_production step).left
        is.to in
        none g s states w is.before (step_production step).left is.to out.0 out.1 out.2 tt

    module _ (node : ℕ) (es : List ℕ) (path : IsPathTo (step_edges ways false) it.goals.items node es goal) where
      -- the moves up to the step, the step's, and those of a way on
      pub wanted_added : (old middle more new : List TreeMove) → AddsSoFar ways false es [] old middle →
          AddsStep table (BeginsWith t) step middle more → AddsWay ways step.to AnyLeaves more new →
          AddsWay ways node (BeginsWith t) old new
      wanted_added old middle more new so adds way =
          record {
            added = (so.added ++ adds.added) ++ way.added;
            is = way.is ∙ ap (λ l. l ++ way.added)
                (adds.is ∙ ap (λ l. l ++ adds.added) so.is ∙ append_assoc old so.added adds.added)
                ∙ append_assoc old (so.added ++ adds.added) way.added;
            leads = λ g s states w n B at.
                let e = all_added ways false es old middle so g s states w it.goals.items node goal path n B at in
                let from : e.entry.node ≡ step.from = h.node e.entry e.at ∙ ap (λ (x : CompletionStep). x.from) same in
                let is = its g s states w in
                let ms = adds.moves g (of_table g s states w) in
                let on = way.leads g s states w is.before (step_production step).left is.to in
                let inner = step_out (IsProductionOf g) s states (last_steps ways.paths.now) (symbols_by (ways_table ways))
                (name_count (ways_table ways)) step is e.along.state e.along.name
                (subst (λ k. IsCompletionNode (symbols_by (ways_table ways)) (name_count (ways_table ways)) k e.along.state e.along.name) from
                e.along.node) ms.rest.trees ms.rest.over ms.rest.roots_are (map tree_move_view way.added) on.left on.leads in
                let whole = e.along.leads (moves ms.rest.trees ++ reduce (step_production step) ∷ map tree_move_view way.added)
                (yield ms.rest.trees ++ on.left) inner in
                record {
                  left = whole.0;
                  leads = subst (λ l. LeadsBy g s states ways n B l whole.0)
                      (joined so.added adds.added way.added (moves ms.rest.trees) (reduce (step_production step)) ms.views) whole.1;
                  wanted = ap first whole.2 ∙ begins_on t (yield ms.rest.trees) on.left ms.rest.wanted;
                };
          }
        where
          joined : (a b c : List TreeMove) (d : List Move) (m : Move) → map tree_move_view b ≡ d ++ m ∷ [] →
              map tree_move_view a ++ (d ++ m ∷ map tree_move_view c) ≡ map tree_move_view ((a ++ b) ++ c)
          joined a b c d m e =
              ap (λ l. map tree_move_view a ++ l) (sym (append_assoc d (m ∷ []) (map tree_move_view c))
              ∙ ap (λ l. l ++ map tree_move_view c) (sym e))
              ∙ sym (append_assoc (map tree_move_view a) (map tree_move_view b) (map tree_move_view c))
              ∙ ap (λ l. l ++ map tree_move_view c) (sym (map-append tree_move_view a b))
              ∙ sym (map-append tree_move_view (a ++ b) c)

      -- they are added, or there is no completion
      pub told_by : (old middle more new : List TreeMove) → AddsSoFar ways false es [] old middle →
          AddsStep table (BeginsWith t) step middle more → (yes : Bool) → AddsWayIf ways step.to AnyLeaves more new yes →
          AddsWayIf ways node (BeginsWith t) old new yes
      told_by old middle more new so adds true way = wanted_added old middle more new so adds way
      told_by old middle more new so adds false none = λ g s states w n B at ms left leads begins.
          onward_there more new none g s states w

  -- where moves lead out on which the terminal comes next there is a path
  pub wanted_there : (g : Grammar) (s : Text) (states : List State) → AreCompletions g s states ways → (n : ℕ) (B : Text) (ms : List Move)
      (w : List Terminal) → LeadsBy g s states ways n B ms w → BeginsWith t w → (node : ℕ) → IsNodeIn g s states ways node n B →
      HasPathToGoal (step_edges ways false) it.goals.items node
  wanted_there g s states w n B ms left out begins node at =
      wanted_path (IsProductionOf g) s states (last_steps ways.paths.now) (symbols_by (ways_table ways)) (name_count (ways_table ways))
      ways.steps.items w.steps (number_once ways g s states w) ways.empties.items (step_edges ways false) w.empty t it.goals.items goals n B
      ms left out begins node at
    where
      goals : (k : ℕ) (step : CompletionStep) → slice_get ways.steps.items k ≡ Some step →
          HasRest (IsProductionOf g) (step_rest step) (BeginsWith t) → (m : ℕ) (ns : List Move) (v : List Terminal) →
          IsCompletionNode (symbols_by (ways_table ways)) (name_count (ways_table ways)) step.to m (step_production step).left →
          LeadsBy g s states ways m (step_production step).left ns v →
          (e : ℕ) × (goal : Goal) × (slice_get it.goals.items e ≡ Some goal) × (goal.node ≡ step.from)
      goals k step at rest m ns v to leads =
          are.all g w.of k step at rest
          (path_back it.any.now are.any step.to
          (any_there ways are.any.graphs g s states w m (step_production step).left ns v leads step.to to))
