-- What the search of paths in the graph of edges turned round says of the edges at the states: for new paths.
use Rattle.std.proofs.Common.{◌≡◌, ◌∙◌, ◌⊎◌, inl, inr, ℕ, zero, suc, ◌<◌, Bool, true, false, List, []}
use Rattle.std.proofs.Common.{◌∷◌, length, map, Option, Some, None}
use Rattle.std.proofs.Common.{◌+◌, ◌≤◌, ◌++◌, refl, sym, ap, subst, arith, length-append, slice_get}
use Rattle.std.specs.Option.{option_and_then, unwrap_or}
use Rattle.std.specs.Prelude.{if◌then◌else◌, nat_lt}
use Rattle.std.proofs.lemmas.Bool.{cases_lt, lt-ltb, ltb-true}
use Rattle.std.proofs.lemmas.Option.{slice_get_within}
use Rattle.lalrpop_lr1_theory.proofs.ListLemmas.{get_front, get_last}
use Rattle.lalrpop_lr1_paths.specs.declared.graph_paths.graph.Edge as weighed
use Rattle.lalrpop_lr1_paths.specs.declared.graph_paths.graph.Goal.{Goal}
use Rattle.lalrpop_lr1_paths.specs.declared.graph_paths.path_table.PathStep.{PathStep}
use Rattle.lalrpop_lr1_paths.specs.declared.graph_paths.path_table.PathStep.TheVariants.{AtGoal, OverEdge}
use Rattle.lalrpop_lr1_paths.specs.declared.graph_paths.paths.GoalPaths.{GoalPaths}
use Rattle.lalrpop_lr1_paths.specs.GraphPaths.{EdgesAreBelow}
use Rattle.lalrpop_lr1_paths.specs.Graphs.{graph_edges}
use Rattle.lalrpop_lr1_paths.specs.PathSearches.{AreGoalPaths, BeginsPath, HasNumber, IsWaitingFor}
use Rattle.lalrpop_lr1_paths.specs.PathSearches.{edge_of_step, found_first_edge, path_numbers}
use Rattle.lalrpop_lr1_paths.proofs.PathLemmas.{first_edge_found, first_edge_none}
use Rattle.lalrpop_lr1_paths.specs.declared.state_paths.path_edges.NumberEdge.{NumberEdge}
use Rattle.lalrpop_lr1_paths.specs.NumberEdges.{AreBetweenStates}
use Rattle.lalrpop_lr1_paths.specs.ReversedGraphs.{AreLastEdges, edge_ends, last_edge_of, start_goals, reversed_ends}

-- a place of a list is one of another that is mapped to the same
record IsTwin {X Y Z : Type 0} (f : X → Z) (g : Y → Z) (ys : List Y) (k : ℕ) (x : X) : Type 0 where
  other : Y
  at : slice_get ys k ≡ Some other
  same : f x ≡ g other

twin : {X Y Z : Type 0} (f : X → Z) (g : Y → Z) (xs : List X) (ys : List Y) → map f xs ≡ map g ys → (k : ℕ) (x : X) →
    slice_get xs k ≡ Some x → IsTwin f g ys k x
twin f g [] ys e k x h = let w : ⊥ = cc in absurd w
twin f g (a ∷ xs) [] e k x h = let w : ⊥ = cc in absurd w
twin f g (a ∷ xs) (b ∷ ys) e zero x h =
    let here : a ≡ x = cc in
    let first : f a ≡ g b = cc in
    record { other = b; at = refl; same = ap f (sym here) ∙ first }
twin f g (a ∷ xs) (b ∷ ys) e (suc k) x h = let rest : map f xs ≡ map g ys = cc in
    let t = twin f g xs ys rest k x h in record { other = t.other; at = t.at; same = t.same }

-- the edges turned round lead between the nodes
pub reversed_below : (states : ℕ) (edges : List NumberEdge) (reversed : List weighed.Edge) →
    map edge_ends reversed ≡ map reversed_ends edges →
    AreBetweenStates states edges → EdgesAreBelow states reversed
reversed_below states edges reversed e between = λ k edge at.
    let t = twin edge_ends reversed_ends reversed edges e k edge at in
    let inside = between k t.other t.at in (
      subst (λ n. n < states) (sym (ap (λ (p : ℕ × ℕ). p.0) t.same)) inside.1,
      subst (λ n. n < states) (sym (ap (λ (p : ℕ × ℕ). p.1) t.same)) inside.0,
    )

-- the only goal is state 0
pub goal_first : (states g : ℕ) (goal : Goal) → slice_get (start_goals states) g ≡ Some goal → (0 < states) × (goal.node ≡ 0)
goal_first states g goal e = go (nat_lt 0 states) refl e
  where
    start : Goal
    start = record { node = 0; weight = 0 }

    one : (g : ℕ) → slice_get (start ∷ []) g ≡ Some goal → goal.node ≡ 0
    one zero f = let same : start ≡ goal = cc in sym (ap (λ (x : Goal). x.node) same)
    one (suc g) f = let w : ⊥ = cc in absurd w

    go : (b : Bool) → nat_lt 0 states ≡ b → slice_get (if b then start ∷ [] else []) g ≡ Some goal →
        (0 < states) × (goal.node ≡ 0)
    go true h f = (ltb-true 0 states h, one g f)
    go false h f = let w : ⊥ = cc in absurd w

goal_there : (states : ℕ) → 0 < states → (goal : Goal) × (slice_get (start_goals states) 0 ≡ Some goal)
goal_there states h = go (nat_lt 0 states) refl
  where
    start : Goal
    start = record { node = 0; weight = 0 }

    go : (b : Bool) → nat_lt 0 states ≡ b → (goal : Goal) × (slice_get (if b then start ∷ [] else []) 0 ≡ Some goal)
    go true e = (start, refl)
    go false e = let both : true ≡ false = sym (lt-ltb 0 states h) ∙ e in let w : ⊥ = cc in absurd w

module _ (edges : List NumberEdge) (states : ℕ) (paths : GoalPaths) (search : AreGoalPaths paths)
    (ends : map edge_ends (graph_edges paths.graph.now) ≡ map reversed_ends edges) (goals : paths.goals.now ≡ start_goals states) where
  abbrev numbers : ℕ → Option ℕ
  numbers = path_numbers paths.table

  -- the number of a state's path, 0 where it has none
  abbrev pub rank_of : ℕ → ℕ
  rank_of n = unwrap_or (numbers n) 0

  -- the last edge of a state's path: it leads to the state, from one whose path has a smaller number
  pub record IsSearchedEdge (n : ℕ) (edge : NumberEdge) : Type 0 where
    pub place : ℕ
    pub at : slice_get edges place ≡ Some edge
    pub target : edge.target ≡ n
    pub number : ℕ
    pub number_is : numbers n ≡ Some number
    pub rest : ℕ
    pub rest_is : numbers edge.source ≡ Some rest
    pub falls : rest < number

  over_edge : (n k : ℕ) → numbers n ≡ Some k → (path_step : PathStep) →
      BeginsPath (graph_edges paths.graph.now) paths.goals.now numbers n k path_step →
      (edge : NumberEdge) → option_and_then (slice_get edges) (edge_of_step path_step) ≡ Some edge → IsSearchedEdge n edge
  over_edge n k is (AtGoal g) begins edge e = let w : ⊥ = cc in absurd w
  over_edge n k is (OverEdge number rest) begins edge e =
      let t = twin edge_ends reversed_ends (graph_edges paths.graph.now) edges ends number begins.edge begins.at in
      let one : t.other ≡ edge = let both : Some t.other ≡ Some edge = sym t.at ∙ e in cc in
      let from : begins.edge.from ≡ edge.target =
      ap (λ (p : ℕ × ℕ). p.0) t.same ∙ ap (λ (x : NumberEdge). x.target) one in
      let to : begins.edge.to ≡ edge.source = ap (λ (p : ℕ × ℕ). p.1) t.same ∙ ap (λ (x : NumberEdge). x.source) one in
      record {
        place = number;
        at = e;
        target = sym from ∙ begins.from_it;
        number = k;
        number_is = is;
        rest = rest;
        rest_is = ap numbers (sym to) ∙ begins.is;
        falls = begins.earlier;
      }

  pub searched_edge : (n : ℕ) (edge : NumberEdge) → last_edge_of edges paths n ≡ Some edge → IsSearchedEdge n edge
  searched_edge zero edge e = let w : ⊥ = cc in absurd w
  searched_edge (suc n) edge e = go (numbers (suc n)) refl
    where
      go : (o : Option ℕ) → numbers (suc n) ≡ o → IsSearchedEdge (suc n) edge
      go None f =
          let z : None ≡ Some edge = sym (ap (option_and_then (slice_get edges)) (first_edge_none paths (suc n) f)) ∙ e in
          let w : ⊥ = cc in absurd w
      go (Some k) f =
          let there = search.found (suc n) k f in
          over_edge (suc n) k f there.path.step there.begins edge
          (sym (ap (option_and_then (slice_get edges)) (first_edge_found paths (suc n) k f there.path there.at)) ∙ e)

  pub rank_falls : (n : ℕ) (edge : NumberEdge) → IsSearchedEdge n edge → rank_of edge.source < rank_of n
  rank_falls n edge s =
      let here : rank_of n ≡ s.number = ap (λ o. unwrap_or o 0) s.number_is in
      let there : rank_of edge.source ≡ s.rest = ap (λ o. unwrap_or o 0) s.rest_is in
      omega (arith, here, there, s.falls)

  none_waits : (n : ℕ) → HasNumber numbers n ⊎ IsWaitingFor [] n → HasNumber numbers n
  none_waits n (inl h) = h
  none_waits n (inr w) = absurd (omega (arith, w.has.1))

  -- state 0 has a path, and a state has one where an edge leads to it from one that has one
  pub first_numbered : 0 < states → HasNumber numbers 0
  first_numbered h =
      let g = goal_there states h in
      let zero_node = (goal_first states 0 g.0 g.1).1 in
      subst (HasNumber numbers) zero_node
      (none_waits g.0.node (search.goals_met 0 g.0 (subst (λ (l : List Goal). slice_get l 0 ≡ Some g.0) (sym goals) g.1)))

  pub next_numbered : (e : ℕ) (edge : NumberEdge) → slice_get edges e ≡ Some edge → HasNumber numbers edge.source →
      HasNumber numbers edge.target
  next_numbered e edge at has =
      let t = twin reversed_ends edge_ends edges (graph_edges paths.graph.now) (sym ends) e edge at in
      subst (HasNumber numbers) (sym (ap (λ (p : ℕ × ℕ). p.0) t.same))
      (none_waits t.other.from (search.edges_met e t.other t.at
      (subst (HasNumber numbers) (ap (λ (p : ℕ × ℕ). p.1) t.same) has)))

  -- a state with a path is state 0, or has a last edge
  pub first_or_edge : (n : ℕ) → HasNumber numbers n →
      (n ≡ 0) ⊎ ((edge : NumberEdge) × (last_edge_of edges paths n ≡ Some edge))
  first_or_edge zero has = inl refl
  first_or_edge (suc n) has =
      let there = search.found (suc n) has.number has.is in
      go there.path.step there.begins (first_edge_found paths (suc n) has.number has.is there.path there.at)
    where
      go : (path_step : PathStep) → BeginsPath (graph_edges paths.graph.now) paths.goals.now numbers (suc n) has.number path_step →
          found_first_edge paths (suc n) ≡ edge_of_step path_step →
          (suc n ≡ 0) ⊎ ((edge : NumberEdge) × (last_edge_of edges paths (suc n) ≡ Some edge))
      go (AtGoal g) begins e =
          let zero_node = (goal_first states g begins.goal
          (subst (λ (l : List Goal). slice_get l g ≡ Some begins.goal) goals begins.at)).1 in
          inl (sym begins.node ∙ zero_node)
      go (OverEdge number rest) begins e =
          let t = twin edge_ends reversed_ends (graph_edges paths.graph.now) edges ends number begins.edge begins.at in
          inr (t.other, ap (option_and_then (slice_get edges)) e ∙ t.at)

  -- the edges at the states
  pub edge_at_state : (steps : List (Option NumberEdge)) → AreLastEdges edges paths states steps → (n : ℕ) (edge : NumberEdge) →
      slice_get steps n ≡ Some (Some edge) → last_edge_of edges paths n ≡ Some edge
  edge_at_state steps are n edge e =
      let within : n < states = omega (arith, slice_get_within steps n (Some edge) e, are.count) in
      let both : Some (last_edge_of edges paths n) ≡ Some (Some edge) = sym (are.each n within) ∙ e in cc

-- one edge more at the states
pub last_edges_more : (edges : List NumberEdge) (paths : GoalPaths) (n : ℕ) (old new : List (Option NumberEdge)) →
    AreLastEdges edges paths n old → new ≡ old ++ last_edge_of edges paths n ∷ [] → AreLastEdges edges paths (n + 1) new
last_edges_more edges paths n old new are e =
    record {
      count = ap length e ∙ length-append old (last_edge_of edges paths n ∷ []) ∙ ap (λ k. k + 1) are.count;
      each = λ m h. ap (λ l. slice_get l m) e ∙ at m (cases_lt m n) h;
    }
  where
    at : (m : ℕ) → (m < n) ⊎ (n ≤ m) → m < n + 1 →
        slice_get (old ++ last_edge_of edges paths n ∷ []) m ≡ Some (last_edge_of edges paths m)
    at m (inl l) h = get_front old (last_edge_of edges paths n ∷ []) m (last_edge_of edges paths m) (are.each m l)
    at m (inr g) h =
        let same : m ≡ n = omega (arith, g, h) in
        ap (slice_get (old ++ last_edge_of edges paths n ∷ [])) (same ∙ sym are.count)
        ∙ get_last old (last_edge_of edges paths n) ∙ ap (λ k. Some (last_edge_of edges paths k)) (sym same)
