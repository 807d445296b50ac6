-- The step of each edge that is gone, and its moves: for the loops over the edges of a path.
use Rattle.std.proofs.Common.{◌≡◌, ◌∙◌, ℕ, ◌+◌, ◌<◌, Bool, true, false, List, ◌∷◌, length, get_or}
use Rattle.std.proofs.Common.{Some, sym, ap, subst}
use Rattle.std.specs.Prelude.{drop, slice_get}
use Rattle.std.proofs.lemmas.List.{drop_more}
use Rattle.std.proofs.lemmas.List.Elements.{Contains-get_or}
use Rattle.std.proofs.lemmas.Option.{slice_get_within}
use Rattle.lalrpop_grammar_symbols.specs.Symbols.{Text}
use Rattle.lalrpop_grammar_repr.specs.declared.grammar.Grammar.{Grammar}
use Rattle.lalrpop_lr1_theory.specs.States.{State}
use Rattle.lalrpop_lr1_theory.proofs.StepLemmas.{some_same}
use Rattle.lalrpop_lr1_first.specs.declared.numbered.Numbered.{Numbered}
use Rattle.lalrpop_lr1_paths.specs.declared.graph_paths.graph.Edge.{Edge}
use Rattle.lalrpop_lr1_least_trees.specs.declared.tree_move.TreeMove.{TreeMove}
use Rattle.lalrpop_lr1_least_trees.specs.RestForests.{HasRest, LeavesOfKind}
use Rattle.lalrpop_lr1_first.specs.FirstSetsOf.{IsProductionOf}
use Rattle.lalrpop_lr1_paths.specs.CompletionGraphs.{AreCompletionGraphs, AreCompletions, ways_table}
use Rattle.lalrpop_lr1_paths.specs.CompletionSteps.{LeadsAsStep, step_rest}
use Rattle.lalrpop_lr1_paths.specs.declared.completion_steps.completion_graphs.CompletionGraphs.{CompletionGraphs}
use Rattle.lalrpop_lr1_paths.specs.declared.completion_steps.steps_of_states.CompletionStep.{CompletionStep}
use Rattle.lalrpop_lr1_paths.specs.StepMoves.{AddsSoFar, AddsStepIf, AreGraphEdges, step_edges}
use Rattle.lalrpop_lr1_paths.proofs.AlongLemmas.{step_added}

module _ (it : CompletionGraphs) (graphs : AreCompletionGraphs it) where
  -- the step of an edge: of the graph of all steps its number is the edge's, of the other it is listed
  pub record IsEdgeStep (kind : Bool) (e number : ℕ) (step : CompletionStep) : Type 0 where
    pub at_step : slice_get it.steps.items number ≡ Some step
    pub leads : (edge : Edge) → slice_get (step_edges it kind) e ≡ Some edge → LeadsAsStep step edge
    pub rest : (g : Grammar) (s : Text) (states : List State) → AreCompletions g s states it →
        HasRest (IsProductionOf g) (step_rest step) (LeavesOfKind kind)

  pub record HasEdgeStep (kind : Bool) (e number : ℕ) : Type 0 where
    pub step : CompletionStep
    pub is : IsEdgeStep kind e number step
    pub within : number < length it.steps.items

  same_edge : (kind : Bool) (e : ℕ) (step : CompletionStep) (one : Edge) → slice_get (step_edges it kind) e ≡ Some one →
      LeadsAsStep step one → (edge : Edge) → slice_get (step_edges it kind) e ≡ Some edge → LeadsAsStep step edge
  same_edge kind e step one at leads edge h = subst (LeadsAsStep step) (some_same one edge (sym at ∙ h)) leads

  pub any_step : (es : List ℕ) → AreGraphEdges (step_edges it true) es → (i : ℕ) → i < length es →
      HasEdgeStep true (get_or es i 0) (get_or es i 0)
  any_step es edges i less =
      let e = get_or es i 0 in
      let edge = edges e (Contains-get_or es i 0 less) in
      let s = graphs.any.sound e edge.0 edge.1 in
      record {
        step = s.step;
        is = record {
          at_step = s.at_step;
          leads = same_edge true e s.step edge.0 edge.1 s.leads;
          rest = λ g t states are. (are.steps.sound e s.step s.at_step).rest;
        };
        within = slice_get_within it.steps.items e s.step s.at_step;
      }

  -- the number that is listed for an edge
  pub record HasListed (e : ℕ) : Type 0 where
    pub number : ℕ
    pub listed : slice_get it.empties.items e ≡ Some number
    pub there : HasEdgeStep false e number

  pub empty_step : (es : List ℕ) → AreGraphEdges (step_edges it false) es → (i : ℕ) → i < length es → HasListed (get_or es i 0)
  empty_step es edges i less =
      let e = get_or es i 0 in
      let edge = edges e (Contains-get_or es i 0 less) in
      let s = graphs.empty e edge.0 edge.1 in
      record {
        number = s.number;
        listed = s.listed;
        there = record {
          step = s.is.step;
          is = record {
            at_step = s.is.at_step;
            leads = same_edge false e s.is.step edge.0 edge.1 s.is.leads;
            rest = λ g t states are. are.empty.sound e s.number s.is.step s.listed s.is.at_step;
          };
          within = slice_get_within it.steps.items s.number s.is.step s.is.at_step;
        };
      }

  module _ (kind : Bool) (e number : ℕ) (h : HasEdgeStep kind e number) (steps : List CompletionStep) (same : steps ≡ it.steps.items)
      (step : CompletionStep) (read : slice_get steps number ≡ Some step) (table : Numbered) (table_same : table ≡ ways_table it) where
    its_step : h.step ≡ step
    its_step =
        some_same h.step step (sym h.is.at_step ∙ ap (λ l. slice_get l number) (sym same) ∙ read)

    -- it has moves
    pub has_moves : (old new : List TreeMove) → AddsStepIf table (LeavesOfKind kind) step old new false → (g : Grammar) (s : Text)
        (states : List State) → AreCompletions g s states it → ⊥
    has_moves old new none g s states are =
        let rest = subst (λ t. HasRest (IsProductionOf g) (step_rest t) (LeavesOfKind kind)) its_step (h.is.rest g s states are) in
        subst (λ t. AddsStepIf t (LeavesOfKind kind) step old new false) table_same none g are.of rest.trees rest.over rest.roots_are
        rest.wanted

    -- and they are added
    pub turn : (es : List ℕ) (i : ℕ) → i < length es → e ≡ get_or es i 0 → (old middle new : List TreeMove) →
        AddsSoFar it kind es (drop i es) old middle → AddsStepIf table (LeavesOfKind kind) step middle new true →
        AddsSoFar it kind es (drop (i + 1) es) old new
    turn es i less here old middle new so adds =
        step_added it kind es (drop (i + 1) es) e old middle new step
        (λ edge at. subst (λ t. LeadsAsStep t edge) its_step (h.is.leads edge at))
        (λ g s states are. are.steps.sound number step (subst (λ t. slice_get it.steps.items number ≡ Some t) its_step h.is.at_step))
        (subst (λ l. AddsSoFar it kind es l old middle) (drop_more es i 0 less ∙ ap (λ k. k ∷ drop (i + 1) es) (sym here)) so)
        (subst (λ t. AddsStepIf t (LeavesOfKind kind) step middle new true) table_same adds)
