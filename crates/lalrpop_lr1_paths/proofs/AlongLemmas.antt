-- Moves that are added step by step lead out along the path that is gone: for the loops that add them.
use Rattle.std.proofs.Common.{◌≡◌, ◌∙◌, ℕ, Bool, true, false, List, [], ◌∷◌, ◌++◌, map, Some, refl, sym}
use Rattle.std.proofs.Common.{ap, subst, append_assoc, append-nil}
use Rattle.std.specs.Prelude.{slice_get}
use Rattle.std.proofs.lemmas.List.{map-append}
use Rattle.lalrpop_grammar_symbols.specs.Symbols.{Terminal, Text}
use Rattle.lalrpop_grammar_repr.specs.declared.grammar.Grammar.{Grammar}
use Rattle.lalrpop_lr1_theory.specs.States.{State}
use Rattle.lalrpop_lr1_theory.specs.Trees.{Move, moves, reduce, yield}
use Rattle.lalrpop_lr1_first.specs.FirstSetsOf.{IsProductionOf}
use Rattle.lalrpop_lr1_first.specs.FirstNumbers.{name_count}
use Rattle.lalrpop_lr1_paths.specs.GraphPaths.{IsPathTo, ends, goes_on}
use Rattle.lalrpop_lr1_paths.specs.declared.graph_paths.graph.Edge.{Edge}
use Rattle.lalrpop_lr1_paths.specs.declared.graph_paths.graph.Goal.{Goal}
use Rattle.lalrpop_lr1_least_trees.specs.GrammarTrees.{symbols_by}
use Rattle.lalrpop_lr1_least_trees.specs.MoveViews.{tree_move_view}
use Rattle.lalrpop_lr1_least_trees.specs.declared.tree_move.TreeMove.{TreeMove}
use Rattle.lalrpop_lr1_least_trees.specs.RestForests.{LeavesOfKind}
use Rattle.lalrpop_lr1_paths.specs.PathTables.{last_steps}
use Rattle.lalrpop_lr1_paths.specs.CompletionGraphs.{AreCompletions, ways_table}
use Rattle.lalrpop_lr1_paths.specs.CompletionSteps.{IsCompletionStep, LeadsAsStep, step_production}
use Rattle.lalrpop_lr1_paths.specs.declared.completion_steps.completion_graphs.CompletionGraphs.{CompletionGraphs}
use Rattle.lalrpop_lr1_paths.specs.declared.completion_steps.steps_of_states.CompletionStep.{CompletionStep}
use Rattle.lalrpop_lr1_paths.proofs.OutwardStepLemmas.{step_out}
use Rattle.lalrpop_lr1_paths.specs.StepMoves.{AddsSoFar, AddsStep, AreStepMoves, ComesInAll, IsNodeIn, LeadsAlong, LeadsBy, LeadsSoFar}
use Rattle.lalrpop_lr1_paths.specs.StepMoves.{step_edges}

-- leaves in front of what comes are such as may come
comes_on : (kind : Bool) (a w all : List Terminal) → LeavesOfKind kind a → ComesInAll kind (a ++ w) all → ComesInAll kind w all
comes_on true a w all k c = tt
comes_on false a w all k c = c ∙ ap (λ l. l ++ w) k

comes_none : (kind : Bool) (w : List Terminal) → ComesInAll kind w w
comes_none true w = tt
comes_none false w = refl

module _ (it : CompletionGraphs) (kind : Bool) where
  -- nothing was added yet
  pub nothing_added : (edges : List ℕ) (old : List TreeMove) → AddsSoFar it kind edges edges old old
  nothing_added edges old =
      record {
        added = [];
        is = sym (append-nil old);
        along = λ g s states are goals node goal path n B at. record {
          here = node;
          path = path;
          along = record { state = n; name = B; node = at; leads = λ ns w out. (w, out, comes_none kind w) };
        };
      }

  module _ (g : Grammar) (s : Text) (states : List State) (are : AreCompletions g s states it) where
    -- the moves of one step more
    more_along : (n : ℕ) (B : Text) (step : CompletionStep) (added : List TreeMove) →
        IsCompletionStep (IsProductionOf g) states (last_steps it.paths.now) (symbols_by (ways_table it)) (name_count (ways_table it)) step →
        AreStepMoves g (LeavesOfKind kind) step added → (ms : List Move) → LeadsAlong g s states it kind n B step.from ms →
        LeadsAlong g s states it kind n B step.to (ms ++ map tree_move_view added)
    more_along n B step added is moves_of ms along =
        let rest = moves_of.rest in
        record {
          state = is.before;
          name = (step_production step).left;
          node = is.to;
          leads = λ ns w out.
              let inner = step_out (IsProductionOf g) s states (last_steps it.paths.now) (symbols_by (ways_table it))
              (name_count (ways_table it)) step is along.state along.name along.node rest.trees rest.over rest.roots_are ns w out in
              let whole = along.leads (moves rest.trees ++ reduce (step_production step) ∷ ns) (yield rest.trees ++ w) inner in
              let same : ms ++ (moves rest.trees ++ reduce (step_production step) ∷ ns) ≡ (ms ++ map tree_move_view added) ++ ns =
              regrouped ms (moves rest.trees) (reduce (step_production step)) ns (map tree_move_view added) moves_of.views in (
                whole.0,
                subst (λ l. LeadsBy g s states it n B l whole.0) same whole.1,
                comes_on kind (yield rest.trees) w whole.0 rest.wanted whole.2,
              );
        }
      where
        regrouped : (a b : List Move) (m : Move) (c d : List Move) → d ≡ b ++ m ∷ [] → a ++ (b ++ m ∷ c) ≡ (a ++ d) ++ c
        regrouped a b m c d e =
            ap (λ l. a ++ l) (sym (append_assoc b (m ∷ []) c)) ∙ sym (append_assoc a (b ++ m ∷ []) c)
            ∙ ap (λ l. (a ++ l) ++ c) (sym e)

    -- one edge of the path further
    next_along : (goals : List Goal) (n : ℕ) (B : Text) (e : ℕ) (left : List ℕ) (goal : ℕ) (step : CompletionStep)
        (added : List TreeMove) →
        ((edge : Edge) → slice_get (step_edges it kind) e ≡ Some edge → LeadsAsStep step edge) →
        IsCompletionStep (IsProductionOf g) states (last_steps it.paths.now) (symbols_by (ways_table it)) (name_count (ways_table it)) step →
        AreStepMoves g (LeavesOfKind kind) step added → (ms : List Move) →
        LeadsSoFar g s states it kind goals n B (e ∷ left) goal ms →
        LeadsSoFar g s states it kind goals n B left goal (ms ++ map tree_move_view added)
    next_along goals n B e left goal step added as_step is moves_of ms so = go so.here so.path so.along
      where
        go : (here : ℕ) → IsPathTo (step_edges it kind) goals here (e ∷ left) goal → LeadsAlong g s states it kind n B here ms →
            LeadsSoFar g s states it kind goals n B left goal (ms ++ map tree_move_view added)
        go here (goes_on node k edge es l at from rest) along =
            let ends_as = as_step edge at in
            record {
              here = edge.to;
              path = rest;
              along = subst (λ k. LeadsAlong g s states it kind n B k (ms ++ map tree_move_view added)) (sym ends_as.1)
                  (more_along n B step added is moves_of ms
                  (subst (λ k. LeadsAlong g s states it kind n B k ms) (sym from ∙ ends_as.0) along));
            }

  -- a step's moves were added
  pub step_added : (edges left : List ℕ) (e : ℕ) (old middle new : List TreeMove) (step : CompletionStep) →
      ((edge : Edge) → slice_get (step_edges it kind) e ≡ Some edge → LeadsAsStep step edge) →
      ((g : Grammar) (s : Text) (states : List State) → AreCompletions g s states it →
      IsCompletionStep (IsProductionOf g) states (last_steps it.paths.now) (symbols_by (ways_table it)) (name_count (ways_table it)) step) →
      AddsSoFar it kind edges (e ∷ left) old middle → AddsStep (ways_table it) (LeavesOfKind kind) step middle new →
      AddsSoFar it kind edges left old new
  step_added edges left e old middle new step as_step is so adds =
      record {
        added = so.added ++ adds.added;
        is = adds.is ∙ ap (λ l. l ++ adds.added) so.is ∙ append_assoc old so.added adds.added;
        along = λ g s states are goals node goal path n B at.
            subst (LeadsSoFar g s states it kind goals n B left goal) (sym (map-append tree_move_view so.added adds.added))
            (next_along g s states are goals n B e left goal step adds.added as_step (is g s states are) (adds.moves g are.of)
            (map tree_move_view so.added) (so.along g s states are goals node goal path n B at));
      }

  -- at the end of the path stands its goal
  pub record EndsAlong (g : Grammar) (s : Text) (states : List State) (goals : List Goal) (n : ℕ) (B : Text) (goal : ℕ)
      (ms : List Move) : Type 0 where
    pub entry : Goal
    pub at : slice_get goals goal ≡ Some entry
    pub along : LeadsAlong g s states it kind n B entry.node ms

  pub all_added : (edges : List ℕ) (old new : List TreeMove) (so : AddsSoFar it kind edges [] old new) → (g : Grammar) (s : Text)
      (states : List State) → AreCompletions g s states it → (goals : List Goal) (node goal : ℕ) →
      IsPathTo (step_edges it kind) goals node edges goal → (n : ℕ) (B : Text) → IsNodeIn g s states it node n B →
      EndsAlong g s states goals n B goal (map tree_move_view so.added)
  all_added edges old new so g s states are goals node goal path n B at =
      let r = so.along g s states are goals node goal path n B at in go r.here r.path r.along
    where
      go : (here : ℕ) → IsPathTo (step_edges it kind) goals here [] goal →
          LeadsAlong g s states it kind n B here (map tree_move_view so.added) →
          EndsAlong g s states goals n B goal (map tree_move_view so.added)
      go here (ends k l entry at is) along =
          record {
            entry = entry;
            at = at;
            along = subst (λ k. LeadsAlong g s states it kind n B k (map tree_move_view so.added)) (sym is) along;
          }
