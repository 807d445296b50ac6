-- What is told of completions from what the searches found: for the answers of the calls.
use Rattle.std.proofs.Common.{◌≡◌, ◌∙◌, ℕ, Bool, true, false, List, [], map, Option, Some, None, sym, ap, subst}
use Rattle.std.proofs.Common.{append-nil, arith, inl, inr, ◌⊎◌, Contains}
use Rattle.std.specs.Prelude.{slice_get}
use Rattle.lalrpop_grammar_symbols.specs.Symbols.{Terminal, Text}
use Rattle.lalrpop_grammar_repr.specs.declared.grammar.Grammar.{Grammar}
use Rattle.lalrpop_lr1_theory.specs.Productions as theory
use Rattle.lalrpop_lr1_theory.specs.States.{State}
use Rattle.lalrpop_lr1_theory.specs.Trees.{Move}
use Rattle.lalrpop_lr1_theory.proofs.ListLemmas.{contains_split}
use Rattle.lalrpop_lr1_first.specs.FirstNumbers.{name_count}
use Rattle.lalrpop_lr1_first.specs.FirstSetsOf.{IsProductionOf}
use Rattle.lalrpop_lr1_first.proofs.TableLemmas.{table_numbering}
use Rattle.lalrpop_lr1_paths.specs.GraphPaths.{HasNoPathToGoal, HasPathToGoal, IsPathIfSome, IsPathTo, ends, goes_on}
use Rattle.lalrpop_lr1_paths.specs.declared.graph_paths.graph.Edge.{Edge}
use Rattle.lalrpop_lr1_paths.specs.declared.graph_paths.graph.Goal.{Goal}
use Rattle.lalrpop_lr1_paths.specs.declared.graph_paths.paths.GoalPath.{GoalPath}
use Rattle.lalrpop_lr1_least_trees.specs.GrammarTrees.{symbols_by}
use Rattle.lalrpop_lr1_least_trees.specs.MoveViews.{tree_move_view}
use Rattle.lalrpop_lr1_least_trees.specs.declared.tree_move.TreeMove.{TreeMove}
use Rattle.lalrpop_lr1_theory.specs.CompletionMoves.{arrives, steps}
use Rattle.lalrpop_lr1_least_trees.specs.RestForests.{LeavesOfKind}
use Rattle.lalrpop_lr1_paths.specs.PathTables.{last_steps}
use Rattle.lalrpop_lr1_paths.specs.declared.state_paths.state_paths.StatePaths.{StatePaths}
use Rattle.lalrpop_lr1_paths.specs.CompletionGraphs.{AreCompletionGraphs, AreCompletions, ways_table}
use Rattle.lalrpop_lr1_paths.specs.CompletionSteps.{IsNodeIfSome}
use Rattle.lalrpop_lr1_paths.specs.declared.completion_steps.completion_graphs.CompletionGraphs.{CompletionGraphs}
use Rattle.lalrpop_lr1_paths.proofs.NodeLemmas.{node_one}
use Rattle.lalrpop_lr1_paths.proofs.CompletionSearchLemmas.{EndsAtStart, any_path, empty_path}
use Rattle.lalrpop_lr1_paths.specs.CompletionSearches.{TellsCompletion}
use Rattle.lalrpop_lr1_paths.specs.StepMoves.{AddsSoFar, AddsWay, AddsWayIf, AddsAlongIf, AreGraphEdges, ComesInAll, IsNodeIn}
use Rattle.lalrpop_lr1_paths.specs.StepMoves.{LeadsBy, step_edges}
use Rattle.lalrpop_lr1_paths.proofs.AlongLemmas.{all_added}

-- a path goes over edges of its graph
pub path_edges : (edges : List Edge) (goals : List Goal) (node : ℕ) (es : List ℕ) (goal : ℕ) → IsPathTo edges goals node es goal →
    AreGraphEdges edges es
path_edges edges goals node es goal (ends n g entry at is) = λ e c. let z = contains_nothing e c in absurd z
  where
    contains_nothing : (e : ℕ) → Contains [] e → ⊥
    contains_nothing e c = omega (arith, c.1)
path_edges edges goals node es goal (goes_on n k edge rest g at from path) = λ e c.
    go (path_edges edges goals edge.to rest g path) e (contains_split k e rest c)
  where
    go : AreGraphEdges edges rest → (e : ℕ) → (k ≡ e) ⊎ Contains rest e → (edge : Edge) × (slice_get edges e ≡ Some edge)
    go later e (inl same) = (edge, ap (slice_get edges) (sym same) ∙ at)
    go later e (inr c) = later e c

-- what a search found, in the graph and with the goals that were given
pub found_in : (edges given : List Edge) (goals given_goals : List Goal) → edges ≡ given → goals ≡ given_goals → (node : ℕ)
    (found : Option GoalPath) → IsPathIfSome edges goals node found → IsPathIfSome given given_goals node found
found_in edges given goals given_goals e f node found h =
    subst (λ l. IsPathIfSome l given_goals node found) e (subst (λ l. IsPathIfSome edges l node found) f h)

-- leaves of the kind come on a way whose end has none
kind_of_all : (kind : Bool) (all : List Terminal) → ComesInAll kind [] all → LeavesOfKind kind all
kind_of_all true all h = tt
kind_of_all false all h = h

-- a node has one number
pub number_once : (it : CompletionGraphs) (g : Grammar) (s : Text) (states : List State) → AreCompletions g s states it →
    (i j : ℕ) (A : Text) →
    symbols_by (ways_table it) i ≡ Some (theory.nonterminal A) →
    symbols_by (ways_table it) j ≡ Some (theory.nonterminal A) → i ≡ j
number_once it g s states are i j A a b = (table_numbering (ways_table it) are.of.numbers).name_once i j A a b

module _ (it : CompletionGraphs) (kind : Bool) (node : ℕ) (es : List ℕ) (goal : ℕ)
    (path : IsPathTo (step_edges it kind) it.goals.items node es goal) where
  -- a completion was added, where all its steps were
  pub way_added : (old new : List TreeMove) → AddsSoFar it kind es [] old new → AddsWay it node (LeavesOfKind kind) old new
  way_added old new so =
      record {
        added = so.added;
        is = so.is;
        leads = λ g s states are n B at.
            let e = all_added it kind es old new so g s states are it.goals.items node goal path n B at in
            let start = are.end.each goal e.entry e.at in
            let same = node_one (symbols_by (ways_table it)) (name_count (ways_table it)) e.entry.node e.along.state 0 e.along.name s
            e.along.node start in
            let out : LeadsBy g s states it e.along.state e.along.name [] [] =
            subst (λ k. LeadsBy g s states it k e.along.name [] []) (sym same.0)
            (subst (λ A. LeadsBy g s states it 0 A [] []) (sym same.1) arrives) in
            let whole = e.along.leads [] [] out in
            record {
              left = whole.0;
              leads = subst (λ l. LeadsBy g s states it n B l whole.0) (append-nil (map tree_move_view so.added)) whole.1;
              wanted = kind_of_all kind whole.0 whole.2;
            };
      }

  pub way_added_if : (old new : List TreeMove) (yes : Bool) → AddsAlongIf it kind es old new yes →
      AddsWayIf it node (LeavesOfKind kind) old new yes
  way_added_if old new true h = way_added old new h
  way_added_if old new false h = λ g s states are n B at ms w out wanted. h g s states are

module _ (it : CompletionGraphs) (graphs : AreCompletionGraphs it) (g : Grammar) (s : Text) (states : List State) (are : AreCompletions g s states it)
  where
    end_at_start : EndsAtStart (IsProductionOf g) s states (last_steps it.paths.now) (symbols_by (ways_table it))
        (name_count (ways_table it)) it.steps.items are.steps (number_once it g s states are) it.goals.items
    end_at_start =
        record {
          number = are.end.number;
          goal = are.end.goal;
          at = are.end.there;
          node = are.end.each are.end.number are.end.goal are.end.there;
        }

    -- where moves lead out there is a path
    pub any_there : (n : ℕ) (B : Text) (ms : List Move) (w : List Terminal) → LeadsBy g s states it n B ms w → (node : ℕ) →
        IsNodeIn g s states it node n B → HasPathToGoal (step_edges it true) it.goals.items node
    any_there n B ms w out node at =
        any_path (IsProductionOf g) s states (last_steps it.paths.now) (symbols_by (ways_table it)) (name_count (ways_table it))
        it.steps.items are.steps (number_once it g s states are)
        (step_edges it true) graphs.any it.goals.items end_at_start n B ms w out node at

    pub empty_there : (n : ℕ) (B : Text) (ms : List Move) (w : List Terminal) → LeadsBy g s states it n B ms w →
        w ≡ [] → (node : ℕ) →
        IsNodeIn g s states it node n B → HasPathToGoal (step_edges it false) it.goals.items node
    empty_there n B ms w out nothing node at =
        empty_path (IsProductionOf g) s states (last_steps it.paths.now) (symbols_by (ways_table it)) (name_count (ways_table it))
        it.steps.items are.steps (number_once it g s states are) it.empties.items
        (step_edges it false) are.empty it.goals.items end_at_start
        n B ms w out nothing node at

    -- a nonterminal behind which moves lead out has a number
    pub named_there : (n : ℕ) (B : Text) (ms : List Move) (w : List Terminal) → LeadsBy g s states it n B ms w →
        IsNodeIfSome (symbols_by (ways_table it)) (name_count (ways_table it)) n B None → ⊥
    named_there n B ms w arrives none =
        let start = are.end.each are.end.number are.end.goal are.end.there in none start.number start.below start.named
    named_there n B ms w (steps {m = m} {i = i} p C b us held at back over us_roots leads) none =
        let h = are.steps.all n p i m C b held at back (record { trees = us; over = over; roots_are = us_roots; wanted = tt }) in
        none h.from.number h.from.below h.from.named

-- the node that was found, by the paths of the graphs
pub node_by : (it : CompletionGraphs) (paths : StatePaths) → paths ≡ it.paths.now →
    (n : ℕ) (B : Text) (found other : Option ℕ) → found ≡ other →
    IsNodeIfSome (symbols_by paths.trees.now.table) (name_count paths.trees.now.table) n B found →
    IsNodeIfSome (symbols_by (ways_table it)) (name_count (ways_table it)) n B other
node_by it paths same n B found other e h =
    subst (IsNodeIfSome (symbols_by (ways_table it)) (name_count (ways_table it)) n B) e
    (subst (λ (q : StatePaths). IsNodeIfSome (symbols_by q.trees.now.table) (name_count q.trees.now.table) n B found) same h)

-- the answer where a way was added to no moves
pub told_way : (it : CompletionGraphs) (node : ℕ) (Wanted : List Terminal → Type 0) (new : List TreeMove) → AddsWay it node Wanted [] new →
    (g : Grammar) (s : Text) (states : List State) → AreCompletions g s states it → (n : ℕ) (B : Text) →
    IsNodeIn g s states it node n B →
    TellsCompletion g s states it n B Wanted (Some (map tree_move_view new))
told_way it node Wanted new way g s states are n B at =
    subst (λ l. TellsCompletion g s states it n B Wanted (Some (map tree_move_view l))) (sym way.is) (way.leads g s states are n B at)

-- the path that a search found, in the graph and with the goals that were given
pub path_in : (edges given : List Edge) (goals given_goals : List Goal) → edges ≡ given → goals ≡ given_goals → (node : ℕ)
    (found : Option GoalPath) (path : GoalPath) → found ≡ Some path → IsPathIfSome edges goals node found →
    IsPathTo given given_goals node path.edges.items path.goal
path_in edges given goals given_goals e f node found path is h =
    found_in edges given goals given_goals e f node (Some path) (subst (IsPathIfSome edges goals node) is h)

-- or that there is none
pub none_in : (edges given : List Edge) (goals given_goals : List Goal) → edges ≡ given → goals ≡ given_goals → (node : ℕ)
    (found : Option GoalPath) → found ≡ None → IsPathIfSome edges goals node found → HasNoPathToGoal given given_goals node
none_in edges given goals given_goals e f node found is h =
    found_in edges given goals given_goals e f node None (subst (IsPathIfSome edges goals node) is h)
