-- Paths that are read from what the search has found, and none where it has found none: for the answers.
use Rattle.std.proofs.Common.{◌≡◌, ◌∙◌, ℕ, zero, suc, ◌<◌, List, [], ◌∷◌, ◌++◌}
use Rattle.std.proofs.Common.{Option, Some, None, ◌⊎◌, inl, inr, refl, sym, ap, subst, arith, slice_get}
use Rattle.std.specs.Option.{option_and_then, option_map}
use Rattle.lalrpop_lr1_paths.specs.declared.graph_paths.graph.Edge.{Edge}
use Rattle.lalrpop_lr1_paths.specs.declared.graph_paths.graph.Goal.{Goal}
use Rattle.lalrpop_lr1_paths.specs.declared.graph_paths.path_table.LightPath.{LightPath}
use Rattle.lalrpop_lr1_paths.specs.declared.graph_paths.path_table.PathStep.{PathStep}
use Rattle.lalrpop_lr1_paths.specs.declared.graph_paths.path_table.PathStep.TheVariants.{AtGoal, OverEdge}
use Rattle.lalrpop_lr1_paths.specs.declared.graph_paths.paths.GoalPaths.{GoalPaths}
use Rattle.lalrpop_lr1_paths.specs.GraphPaths.{HasNoPathToGoal, HasPathToGoal, IsPathTo, capped_sum, edge_weight, ends}
use Rattle.lalrpop_lr1_paths.specs.GraphPaths.{goes_on, path_weight}
use Rattle.lalrpop_lr1_paths.specs.PathSearches.{BeginsPath, HasNumber, HasPathFrom, IsPathSearch}
use Rattle.lalrpop_lr1_paths.specs.PathSearches.{IsWaitingFor, IsWeighed, edge_of_step, found_first_edge}
use Rattle.lalrpop_lr1_paths.specs.PathSearches.{found_weight, path_numbers}
use Rattle.lalrpop_lr1_paths.proofs.EntryLemmas.{same_there}
use Rattle.lalrpop_lr1_paths.proofs.NumberLemmas.{never_both}

joined_in_turn : (es : List ℕ) (e : ℕ) (fs : List ℕ) → (es ++ e ∷ []) ++ fs ≡ es ++ e ∷ fs
joined_in_turn [] e fs = refl
joined_in_turn (x ∷ es) e fs = ap (λ l. x ∷ l) (joined_in_turn es e fs)

nothing_behind : (es : List ℕ) → es ++ [] ≡ es
nothing_behind [] = refl
nothing_behind (x ∷ es) = ap (λ l. x ∷ l) (nothing_behind es)

-- the weight that was found for a node
pub weight_none : (paths : GoalPaths) (n : ℕ) → path_numbers paths.table n ≡ None → found_weight paths n ≡ None
weight_none paths n is =
    ap (λ o. option_map (λ (p : LightPath). p.weight) (option_and_then (slice_get paths.table.paths.items) o)) is

-- where a node has the number of a path, the weight that is found for the node is that path's
pub weight_found : (paths : GoalPaths) (n k : ℕ) → path_numbers paths.table n ≡ Some k → (path : LightPath) →
    slice_get paths.table.paths.items k ≡ Some path → found_weight paths n ≡ Some path.weight
weight_found paths n k is path at =
    ap (λ o. option_map (λ (p : LightPath). p.weight) (option_and_then (slice_get paths.table.paths.items) o)) is
    ∙ ap (option_map (λ (p : LightPath). p.weight)) at

-- the edge with which a node's path begins
pub first_edge_none : (paths : GoalPaths) (n : ℕ) → path_numbers paths.table n ≡ None →
    found_first_edge paths n ≡ None
first_edge_none paths n is =
    ap (λ o. option_and_then (λ (p : LightPath). edge_of_step p.step) (option_and_then (slice_get paths.table.paths.items) o)) is

-- where a node has the number of a path, the first edge that is found for it is that with which the path begins
pub first_edge_found : (paths : GoalPaths) (n k : ℕ) → path_numbers paths.table n ≡ Some k → (path : LightPath) →
    slice_get paths.table.paths.items k ≡ Some path → found_first_edge paths n ≡ edge_of_step path.step
first_edge_found paths n k is path at =
    ap (λ o. option_and_then (λ (p : LightPath). edge_of_step p.step) (option_and_then (slice_get paths.table.paths.items) o)) is
    ∙ ap (option_and_then (λ (p : LightPath). edge_of_step p.step)) at

-- a path from the node begins with some edges, and goes on as the path with the number
pub record IsOnTheWay (edges : List Edge) (goals : List Goal) (numbers : ℕ → Option ℕ) (paths : List LightPath) (node : ℕ)
    (weight : ℕ) (es : List ℕ) (k : ℕ) : Type 0 where
  pub now : ℕ
  pub from_now : HasPathFrom edges goals numbers paths now k
  pub whole : (rest : List ℕ) (g : ℕ) → IsPathTo edges goals now rest g → IsPathTo edges goals node (es ++ rest) g
  pub weighs : (rest : List ℕ) (g : ℕ) → path_weight edges goals rest g ≡ from_now.path.weight →
      path_weight edges goals (es ++ rest) g ≡ weight

module _ (edges : List Edge) (goals : List Goal) (numbers : ℕ → Option ℕ) (paths : List LightPath)
    (search : IsPathSearch edges goals numbers paths []) where
  none_waits : (n : ℕ) → HasNumber numbers n ⊎ IsWaitingFor [] n → HasNumber numbers n
  none_waits n (inl h) = h
  none_waits n (inr w) = absurd (omega (arith, w.has.1))

  -- a node from which a path leads to a goal has one
  has_number : (n : ℕ) (es : List ℕ) (g : ℕ) → IsPathTo edges goals n es g → HasNumber numbers n
  has_number n es g (ends node h goal at is) = subst (λ m. HasNumber numbers m) is (none_waits goal.node (search.goals_met h goal at))
  has_number n es g (goes_on node e edge fs h at is path) =
      subst (λ m. HasNumber numbers m) is (none_waits edge.from (search.edges_met e edge at (has_number edge.to fs h path)))

  pub no_path : (n : ℕ) → numbers n ≡ None → HasNoPathToGoal edges goals n
  no_path n none = λ es g path. let h = has_number n es g path in never_both (numbers n) h.number none h.is

  pub way_starts : (n k : ℕ) (is : numbers n ≡ Some k) →
      IsOnTheWay edges goals numbers paths n (search.found n k is).path.weight [] k
  way_starts n k is = record { now = n; from_now = search.found n k is; whole = λ rest g path. path; weighs = λ rest g e. e }

  module _ (node weight : ℕ) (es : List ℕ) (k : ℕ) (way : IsOnTheWay edges goals numbers paths node weight es k) (path : LightPath)
      (at : slice_get paths k ≡ Some path) where
    begins_so : (step : PathStep) → path.step ≡ step → BeginsPath edges goals numbers way.now k step
    begins_so step is =
        let same = same_there paths k way.from_now.path path way.from_now.at at in
        subst (λ s. BeginsPath edges goals numbers way.now k s) (ap (λ (p : LightPath). p.step) same ∙ is) way.from_now.begins

    weighed_so : (step : PathStep) → path.step ≡ step → IsWeighed edges goals paths way.from_now.path.weight step
    weighed_so step is =
        let same = same_there paths k way.from_now.path path way.from_now.at at in
        subst (λ s. IsWeighed edges goals paths way.from_now.path.weight s) (ap (λ (p : LightPath). p.step) same ∙ is)
        way.from_now.weighed

    pub way_goes_on : (e rest : ℕ) → path.step ≡ OverEdge e rest →
        IsOnTheWay edges goals numbers paths node weight (es ++ e ∷ []) rest × (rest < k)
    way_goes_on e rest is =
        let over = begins_so (OverEdge e rest) is in
        let more = weighed_so (OverEdge e rest) is in
        let next = search.found over.edge.to rest over.is in (
          record {
            now = over.edge.to;
            from_now = next;
            whole = λ fs g p. subst (λ l. IsPathTo edges goals node l g) (sym (joined_in_turn es e fs))
                (way.whole (e ∷ fs) g (goes_on way.now e over.edge fs g over.at over.from_it p));
            weighs = λ fs g w. ap (λ l. path_weight edges goals l g) (joined_in_turn es e fs) ∙ way.weighs (e ∷ fs) g
                (ap (λ n. capped_sum n (edge_weight (slice_get edges e))) (w ∙ ap (λ (p : LightPath). p.weight)
                (same_there paths rest next.path more.path next.at more.at)) ∙ sym more.is);
          },
          over.earlier,
        )

    pub way_ends : (g : ℕ) → path.step ≡ AtGoal g → IsPathTo edges goals node es g × (path_weight edges goals es g ≡ weight)
    way_ends g is =
        let at_goal = begins_so (AtGoal g) is in (
          subst (λ l. IsPathTo edges goals node l g) (nothing_behind es)
              (way.whole [] g (ends way.now g at_goal.goal at_goal.at at_goal.node)),
          ap (λ l. path_weight edges goals l g) (sym (nothing_behind es)) ∙ way.weighs [] g (sym (weighed_so (AtGoal g) is)),
        )

  -- each path that was found is one
  pub path_there : (bound n k : ℕ) → k < bound → numbers n ≡ Some k → HasPathToGoal edges goals n
  path_there zero n k h is = absurd (omega arith)
  path_there (suc bound) n k h is =
      let p = search.found n k is in
      begins_there bound n k h p.path.step p.begins (λ m j l i. path_there bound m j l i)
    where
      begins_there : (bound n k : ℕ) → k < suc bound → (step : PathStep) → BeginsPath edges goals numbers n k step →
          ((m j : ℕ) → j < bound → numbers m ≡ Some j → HasPathToGoal edges goals m) → HasPathToGoal edges goals n
      begins_there bound n k h (AtGoal g) b below =
          record { edges_of = []; goal = g; is = ends n g b.goal b.at b.node }
      begins_there bound n k h (OverEdge e rest) b below =
          let next = below b.edge.to rest (omega (arith, b.earlier, h)) b.is in
          record {
            edges_of = e ∷ next.edges_of;
            goal = next.goal;
            is = goes_on n e b.edge next.edges_of next.goal b.at b.from_it next.is;
          }
