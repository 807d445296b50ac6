-- Graphs of traces that nodes and edges come to: they stay whole, and have what they had and what came.
use Rattle.std.proofs.Common.{◌≡◌, ◌∙◌, ◌⊎◌, ◌↔◌, ◌<◌, ◌≤◌, ℕ, zero, suc, List, [], ◌∷◌, ◌++◌, length, map, take, refl, sym, ap, subst, inl, inr, ⊎_elim, arith}
use Rattle.std.proofs.Common.{Some, Contains, slice_get, length-append}
use Rattle.std.proofs.lemmas.List.{take-append-le, take_all}
use Rattle.std.proofs.lemmas.List.Elements.{Contains-append_cases, Contains-append_left, Contains-append_right}
use Rattle.std.proofs.lemmas.Option.{slice_get_within}
use Rattle.lalrpop_lr1_theory.proofs.ListLemmas.{contains_here, contains_later, contains_split, get_contains, get_front}
use Rattle.lalrpop_lr1_theory.proofs.NameLemmas.{no_element}
use Rattle.lalrpop_lr1_theory.proofs.StepLemmas.{some_same}
use Rattle.lalrpop_lane_report.specs.declared.traces.trace_graph.TraceGraphEdge.{TraceGraphEdge}
use Rattle.lalrpop_lane_report.specs.declared.traces.trace_graph.TraceGraphNode.{TraceGraphNode}
use Rattle.lalrpop_lane_report.specs.GraphViews.{graph_view}
use Rattle.lalrpop_lane_report.specs.Paths.{EachOnce}
use Rattle.lalrpop_lane_report.specs.TraceGraphs.{GainsEdge, AddsOne, GraphView, IsWhole}
use Rattle.lalrpop_lane_report.specs.TraceNodes.{EdgeLabel, TraceEdge, GraphNode, trace_edge_view, node_view}

module _ {X : Type 0} where
  -- one more at the end
  pub once_more : (xs : List X) (x : X) → EachOnce xs → (Contains xs x → ⊥) → EachOnce (xs ++ x ∷ [])
  once_more [] x once fresh = (λ c. no_element x c, tt)
  once_more (y ∷ xs) x once fresh = (
    λ c. ⊎_elim (λ d. once.0 d)
        (λ d. ⊎_elim (λ e. fresh (subst (λ z. Contains (y ∷ xs) z) (sym e) (contains_here y xs))) (λ z. no_element y z)
        (contains_split x y [] d)) (Contains-append_cases xs (x ∷ []) y c),
    once_more xs x once.1 (λ c. fresh (contains_later y x xs c)),
  )

  pub once_added : (old new : List X) (x : X) → EachOnce old → AddsOne old x new → EachOnce new
  once_added old new x once (inl h) = subst EachOnce (sym h.1) once
  once_added old new x once (inr h) = subst EachOnce (sym h.1) (once_more old x once h.0)

  pub has_added : (old new : List X) (x y : X) → AddsOne old x new → Contains new y ↔ (Contains old y ⊎ (x ≡ y))
  has_added old new x y (inl h) = (
    λ c. inl (subst (λ l. Contains l y) h.1 c),
    λ c. subst (λ l. Contains l y) (sym h.1) (⊎_elim (λ d. d) (λ e. subst (Contains old) e h.0) c),
  )
  has_added old new x y (inr h) = (
    λ c. ⊎_elim (λ d. inl d) (λ d. ⊎_elim (λ e. inr e) (λ z. absurd (no_element y z)) (contains_split x y [] d))
        (Contains-append_cases old (x ∷ []) y (subst (λ l. Contains l y) h.1 c)),
    λ c. subst (λ l. Contains l y) (sym h.1)
        (⊎_elim (λ d. Contains-append_left old (x ∷ []) y d)
        (λ e. Contains-append_right old (x ∷ []) y (subst (Contains (x ∷ [])) e (contains_here x []))) c),
  )

  pub place_kept : (old new : List X) (x y : X) (k : ℕ) → AddsOne old x new → slice_get old k ≡ Some y → slice_get new k ≡ Some y
  place_kept old new x y k (inl h) at = subst (λ l. slice_get l k ≡ Some y) (sym h.1) at
  place_kept old new x y k (inr h) at = subst (λ l. slice_get l k ≡ Some y) (sym h.1) (get_front old (x ∷ []) k y at)

  pub longer_added : (old new : List X) (x : X) → AddsOne old x new → length old ≤ length new
  longer_added old new x (inl h) = let e = ap length h.1 in omega (arith, e)
  longer_added old new x (inr h) = let e = ap length h.1 in let l = length-append old (x ∷ []) in omega (arith, e, l)

  -- two places of one element are one
  pub one_place : (xs : List X) (x : X) (j k : ℕ) → EachOnce xs → slice_get xs j ≡ Some x → slice_get xs k ≡ Some x → j ≡ k
  one_place [] x j k once a b = let w : ⊥ = cc in absurd w
  one_place (y ∷ xs) x zero zero once a b = refl
  one_place (y ∷ xs) x zero (suc k) once a b =
      absurd (once.0 (subst (Contains xs) (sym (some_same y x a)) (get_contains xs k x b)))
  one_place (y ∷ xs) x (suc j) zero once a b =
      absurd (once.0 (subst (Contains xs) (sym (some_same y x b)) (get_contains xs j x a)))
  one_place (y ∷ xs) x (suc j) (suc k) once a b = ap suc (one_place xs x j k once.1 a b)

-- a graph is whole with a node that comes, and with an edge between nodes
pub whole_node : (nodes new : List GraphNode) (edges : List TraceEdge) (x : GraphNode) → IsWhole (record { nodes = nodes; edges = edges }) →
    AddsOne nodes x new → IsWhole (record { nodes = new; edges = edges })
whole_node nodes new edges x w a =
    let l = longer_added nodes new x a in
    record {
      nodes_once = once_added nodes new x w.nodes_once a;
      edges_once = w.edges_once;
      from_within = λ e c. let h = w.from_within e c in omega (arith, h, l);
      to_within = λ e c. let h = w.to_within e c in omega (arith, h, l);
    }

pub whole_edge : (old new : GraphView) (x y : GraphNode) (label : EdgeLabel) → IsWhole old → GainsEdge old x y label new → IsWhole new
whole_edge old new x y label w a =
    let first = whole_node old.nodes a.between old.edges x w a.source.node in
    let both = whole_node a.between new.nodes old.edges y first a.target.node in
    let from = slice_get_within a.between a.from x a.source.place in
    let to = slice_get_within new.nodes a.to y a.target.place in
    let l = longer_added a.between new.nodes y a.target.node in
    record {
      nodes_once = both.nodes_once;
      edges_once = once_added old.edges new.edges (record { from = a.from; to = a.to; label = label }) w.edges_once a.edge;
      from_within = λ e c. ⊎_elim (λ d. both.from_within e d) (λ s. subst (λ (d : TraceEdge). d.from < length new.nodes) s (omega (arith, from, l)))
          ((has_added old.edges new.edges (record { from = a.from; to = a.to; label = label }) e a.edge).0 c);
      to_within = λ e c. ⊎_elim (λ d. both.to_within e d) (λ s. subst (λ (d : TraceEdge). d.to < length new.nodes) s to)
          ((has_added old.edges new.edges (record { from = a.from; to = a.to; label = label }) e a.edge).0 c);
    }

-- a graph that is cut where memory was refused is as before
pub cut_added : {X : Type 0} (old new : List X) (x : X) → AddsOne old x new → take (length old) new ≡ old
cut_added old new x (inl h) = ap (take (length old)) h.1 ∙ take_all (length old) old (omega arith)
cut_added old new x (inr h) = ap (take (length old)) h.1 ∙ take-append-le (length old) old (x ∷ []) (omega arith) ∙ take_all (length old) old (omega arith)

pub cut_twice : {X : Type 0} (old between new : List X) (x y : X) → AddsOne old x between → AddsOne between y new →
    take (length old) new ≡ old
cut_twice old between new x y a (inl h) = ap (take (length old)) h.1 ∙ cut_added old between x a
cut_twice old between new x y a (inr h) =
    let l = longer_added old between x a in
    ap (take (length old)) h.1 ∙ take-append-le (length old) between (y ∷ []) (omega (arith, l)) ∙ cut_added old between x a

abbrev graph_with : List GraphNode → List TraceEdge → GraphView
graph_with n e = record { nodes = n; edges = e }

map_take : {X Y : Type 0} (f : X → Y) (n : ℕ) (xs : List X) → map f (take n xs) ≡ take n (map f xs)
map_take f zero xs = refl
map_take f (suc n) [] = refl
map_take f (suc n) (x ∷ xs) = ap (λ l. f x ∷ l) (map_take f n xs)

-- the graph that was cut where memory was refused
pub cut_graph : (old between new : List TraceGraphNode) (edges others : List TraceGraphEdge) (count : ℕ) → new ≡ take count between →
    count ≡ length old → take (length old) (map node_view between) ≡ map node_view old → others ≡ edges →
    graph_view new others ≡ graph_view old edges
cut_graph old between new edges others count cut counted same kept =
    ap (λ n. graph_with n (map trace_edge_view others))
    (ap (map node_view) cut ∙ map_take node_view count between ∙ ap (λ n. take n (map node_view between)) counted ∙ same)
    ∙ ap (λ e. graph_with (map node_view old) (map trace_edge_view e)) kept

pub whole_none : (nodes : List TraceGraphNode) (edges : List TraceGraphEdge) → nodes ≡ [] → edges ≡ [] → IsWhole (graph_view nodes edges)
whole_none nodes edges a b =
    subst (λ (n : List TraceGraphNode). IsWhole (graph_view n edges)) (sym a)
    (subst (λ (e : List TraceGraphEdge). IsWhole (graph_view [] e)) (sym b) (record {
      nodes_once = tt;
      edges_once = tt;
      from_within = λ e c. absurd (no_element e c);
      to_within = λ e c. absurd (no_element e c);
    }))
