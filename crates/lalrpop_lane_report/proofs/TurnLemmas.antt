-- Turns of a search for paths over the steps of an enumerator.
use Rattle.std.proofs.Common.{◌≡◌, ◌∙◌, ◌↔◌, ◌||◌, ◌<◌, ℕ, zero, suc, Bool, true, false, cond, List, [], ◌∷◌, ◌++◌, map, filter, reverse, length, drop, refl, sym, ap, subst}
use Rattle.std.proofs.Common.{⊎_elim, arith, Contains, None, Some, slice_get, take}
use Rattle.std.specs.Prelude.{eqb, ◌==◌, ◌≤◌}
use Rattle.std.specs.List.{list_any}
use Rattle.std.proofs.lemmas.List.{append-nil, length-map, map-append, reverse-append, take_all}
use Rattle.std.proofs.lemmas.Bool.Decides.{Decides-eqb}
use Rattle.std.proofs.lemmas.List.Elements.{Contains-append_cases}
use Rattle.lalrpop_lr1_theory.proofs.ListLemmas.{contains_here, contains_later, contains_split}
use Rattle.lalrpop_lr1_theory.proofs.NameLemmas.{no_element}
use Rattle.lalrpop_lr1_theory.proofs.StepLemmas.{some_same}
use Rattle.lalrpop_lr1_core.proofs.MemberLemmas.{in_filter}
use Rattle.lalrpop_lane_report.specs.declared.traces.path_enumerator.TakenEdge.{TakenEdge}
use Rattle.lalrpop_lane_report.specs.declared.traces.trace_graph.TraceGraphEdge.{TraceGraphEdge}
use Rattle.lalrpop_lane_report.specs.declared.traces.trace_graph.TraceGraphNode.{TraceGraphNode}
use Rattle.lalrpop_lane_report.specs.Enumerators.{TracePath}
use Rattle.lalrpop_lane_report.specs.GraphViews.{graph_view}
use Rattle.lalrpop_lane_report.specs.Paths.{AreBackwardPaths, EachOnce, PathGraph, Taken, is_among, led, left_at, left_beside, nodes_of, paths}
use Rattle.lalrpop_lane_report.specs.PathSteps.{AreStepsWithin, IsAtPath, into_node, is_passed, left_into, graph_size, paths_left, step_path, taken_onto, taken_step, taken_steps}
use Rattle.lalrpop_lane_report.specs.PathWalks.{IsWalk, IsWalked, ArrivesAt, WalksOn}
use Rattle.lalrpop_lane_report.specs.TraceGraphs.{GraphView, IsWhole, edges_into, is_item_node, path_graph}
use Rattle.lalrpop_lane_report.specs.TraceNodes.{TraceEdge, GraphNode, trace_edge_view, node_view}
use Rattle.lalrpop_lane_report.proofs.PathLemmas.{bool_cases, depth_suffices, eqb_same}
use Rattle.lalrpop_lane_report.proofs.PathOrderLemmas.{listed_in_order, once_in_order}
use Rattle.lalrpop_lane_report.proofs.PathWalkLemmas.{left_gives_back, left_item, left_seen, left_takes, less_gives_back, less_others, less_takes, walk_begins, walk_gives_back, walk_others, walk_takes}
use Rattle.lalrpop_lane_report.proofs.TraceGraphLemmas.{once_more, one_place}

-- lists from their ends
map_reverse : {X Y : Type 0} (f : X → Y) (xs : List X) → map f (reverse xs) ≡ reverse (map f xs)
map_reverse f [] = refl
map_reverse f (x ∷ xs) =
    ap (map f) (reverse-append (x ∷ []) xs) ∙ map-append f (reverse xs) (x ∷ []) ∙ ap (λ l. l ++ f x ∷ []) (map_reverse f xs)
    ∙ sym (reverse-append (f x ∷ []) (map f xs))

filter_map : {X Y : Type 0} (f : X → Y) (p : Y → Bool) (xs : List X) → filter p (map f xs) ≡ map f (filter (λ x. p (f x)) xs)
filter_map f p [] = refl
filter_map {X} {Y} f p (x ∷ xs) = go (p (f x)) (filter_map f p xs)
  where
    go : (b : Bool) → filter p (map f xs) ≡ map f (filter (λ y. p (f y)) xs) →
        cond b (f x ∷ filter p (map f xs)) (filter p (map f xs))
        ≡ map f (cond b (x ∷ filter (λ y. p (f y)) xs) (filter (λ y. p (f y)) xs))
    go true h = ap (λ l. f x ∷ l) h
    go false h = h

in_reverse : {X : Type 0} (xs : List X) (x : X) → Contains (reverse xs) x → Contains xs x
in_reverse [] x c = c
in_reverse (y ∷ xs) x c =
    ⊎_elim (λ d. contains_later y x xs (in_reverse xs x d))
    (λ d. ⊎_elim (λ e. subst (Contains (y ∷ xs)) e (contains_here y xs)) (λ z. absurd (no_element x z)) (contains_split y x [] d))
    (Contains-append_cases (reverse xs) (y ∷ []) x (subst (λ l. Contains l x) (reverse-append (y ∷ []) xs) c))

-- the edges into a node, as the program looks for them
pub incoming_is : (edges : List TraceGraphEdge) (n : ℕ) → into_node edges n ≡ edges_into (map trace_edge_view edges) n
incoming_is edges n =
    sym (filter_map trace_edge_view (λ (e : TraceEdge). e.to == n) (reverse edges))
    ∙ ap (filter (λ (e : TraceEdge). e.to == n)) (map_reverse trace_edge_view edges)

pub within_into : (graph : GraphView) → IsWhole graph → (n : ℕ) (e : TraceEdge) → Contains (edges_into graph.edges n) e →
    e.from < length graph.nodes
within_into graph whole n e c =
    whole.from_within e (in_reverse graph.edges e (in_filter (λ (d : TraceEdge). d.to == n) (reverse graph.edges) e c).1)

pub all_into : (edges : List TraceGraphEdge) (left n : ℕ) → left ≡ length edges → left_into edges left n ≡ edges_into (map trace_edge_view edges) n
all_into edges left n all =
    ap (λ (l : List TraceGraphEdge). into_node l n) (take_all left edges (let h : length edges ≤ left = omega (arith, all) in h)) ∙ incoming_is edges n

-- each of them stands once
once_filter : {X : Type 0} (p : X → Bool) (xs : List X) → EachOnce xs → EachOnce (filter p xs)
once_filter p [] once = tt
once_filter p (x ∷ xs) once = go (p x) (once_filter p xs once.1)
  where
    go : (b : Bool) → EachOnce (filter p xs) → EachOnce (cond b (x ∷ filter p xs) (filter p xs))
    go true rest = (λ c. once.0 (in_filter p xs x c).1, rest)
    go false rest = rest

once_reverse : {X : Type 0} (xs : List X) → EachOnce xs → EachOnce (reverse xs)
once_reverse [] once = tt
once_reverse (x ∷ xs) once =
    subst EachOnce (sym (reverse-append (x ∷ []) xs))
    (once_more (reverse xs) x (once_reverse xs once.1) (λ c. once.0 (in_reverse xs x c)))

into_once : (graph : GraphView) → IsWhole graph → (n : ℕ) → EachOnce (edges_into graph.edges n)
into_once graph whole n = once_filter (λ (e : TraceEdge). e.to == n) (reverse graph.edges) (once_reverse graph.edges whole.edges_once)

-- edges are looked at from the last one on
take_one : {X : Type 0} (n : ℕ) (xs : List X) (x : X) → slice_get xs n ≡ Some x → take (suc n) xs ≡ take n xs ++ x ∷ []
take_one n [] x e = let w : ⊥ = cc in absurd w
take_one zero (y ∷ xs) x e = ap (λ z. z ∷ []) (some_same y x e)
take_one (suc n) (y ∷ xs) x e = ap (λ l. y ∷ l) (take_one n xs x e)

take_none : {X : Type 0} (n : ℕ) (xs : List X) → slice_get xs n ≡ None → take (suc n) xs ≡ take n xs
take_none zero [] e = refl
take_none (suc n) [] e = refl
take_none zero (y ∷ xs) e = let w : ⊥ = cc in absurd w
take_none (suc n) (y ∷ xs) e = ap (λ l. y ∷ l) (take_none n xs e)

into_more : (edges : List TraceGraphEdge) (e : TraceGraphEdge) (n : ℕ) →
    into_node (edges ++ e ∷ []) n ≡ cond (e.to == n) (trace_edge_view e ∷ into_node edges n) (into_node edges n)
into_more edges e n =
    ap (λ (l : List TraceGraphEdge). map trace_edge_view (filter (λ (d : TraceGraphEdge). d.to == n) l)) (reverse-append edges (e ∷ []))
    ∙ go (e.to == n)
  where
    go : (b : Bool) → map trace_edge_view (cond b (e ∷ filter (λ (d : TraceGraphEdge). d.to == n) (reverse edges)) (filter (λ (d : TraceGraphEdge). d.to == n) (reverse edges)))
        ≡ cond b (trace_edge_view e ∷ into_node edges n) (into_node edges n)
    go true = refl
    go false = refl

-- the last of the edges that are left leads into the node, or not
pub left_found : (edges : List TraceGraphEdge) (left next n : ℕ) (e : TraceGraphEdge) → left ≡ suc next → slice_get edges next ≡ Some e → e.to ≡ n →
    left_into edges left n ≡ trace_edge_view e ∷ left_into edges next n
left_found edges left next n e is at to =
    ap (λ k. left_into edges k n) is ∙ ap (λ (l : List TraceGraphEdge). into_node l n) (take_one next edges e at) ∙ into_more (take next edges) e n
    ∙ ap (λ b. cond b (trace_edge_view e ∷ left_into edges next n) (left_into edges next n)) ((Decides-eqb e.to n).1 to)

pub left_other : (edges : List TraceGraphEdge) (left next n : ℕ) (e : TraceGraphEdge) → left ≡ suc next → slice_get edges next ≡ Some e →
    (e.to ≡ n → ⊥) → left_into edges left n ≡ left_into edges next n
left_other edges left next n e is at other =
    ap (λ k. left_into edges k n) is ∙ ap (λ (l : List TraceGraphEdge). into_node l n) (take_one next edges e at) ∙ into_more (take next edges) e n
    ∙ go (e.to == n) refl
  where
    go : (b : Bool) → (e.to == n) ≡ b → cond b (trace_edge_view e ∷ left_into edges next n) (left_into edges next n) ≡ left_into edges next n
    go true h = absurd (other ((Decides-eqb e.to n).0 h))
    go false h = refl

pub left_past : (edges : List TraceGraphEdge) (left next n : ℕ) → left ≡ suc next → slice_get edges next ≡ None → left_into edges left n ≡ left_into edges next n
left_past edges left next n is past =
    ap (λ k. left_into edges k n) is ∙ ap (λ (l : List TraceGraphEdge). into_node l n) (take_none next edges past)

-- the steps, the last one first
taken_more : (edges : List TraceGraphEdge) (steps : List TakenEdge) (s : TakenEdge) (ts : List (Taken TraceEdge)) → taken_onto edges (steps ++ s ∷ []) ts ≡ taken_step edges s ∷ taken_onto edges steps ts
taken_more edges [] s ts = refl
taken_more edges (r ∷ steps) s ts = taken_more edges steps s (taken_step edges r ∷ ts)

led_onto : (edges : List TraceGraphEdge) (steps : List TakenEdge) (ts : List (Taken TraceEdge)) (p : TracePath) → led (taken_onto edges steps ts) p ≡ led ts (step_path steps ++ p)
led_onto edges [] ts p = refl
led_onto edges (s ∷ steps) ts p = led_onto edges steps (taken_step edges s ∷ ts) p

passed_onto : (edges : List TraceGraphEdge) (graph : GraphView) (n : ℕ) (steps : List TakenEdge) (ts : List (Taken TraceEdge)) →
    is_among n (nodes_of (path_graph graph) (taken_onto edges steps ts)) ≡ (is_passed steps n || is_among n (nodes_of (path_graph graph) ts))
passed_onto edges graph n [] ts = refl
passed_onto edges graph n (s ∷ steps) ts =
    passed_onto edges graph n steps (taken_step edges s ∷ ts)
    ∙ turned (is_passed steps n) (n == s.edge.now.from) (is_among n (nodes_of (path_graph graph) ts))
  where
    turned : (a b c : Bool) → (a || (b || c)) ≡ ((b || a) || c)
    turned true true c = refl
    turned true false c = refl
    turned false true c = refl
    turned false false c = refl

or_none : (b : Bool) → (b || false) ≡ b
or_none true = refl
or_none false = refl

pub passed_is : (edges : List TraceGraphEdge) (graph : GraphView) (n : ℕ) (steps : List TakenEdge) →
    is_among n (nodes_of (path_graph graph) (taken_steps edges steps)) ≡ is_passed steps n
passed_is edges graph n steps = passed_onto edges graph n steps [] ∙ or_none (is_passed steps n)

-- the first path that is left is that of the steps
pub first_left : (nodes : List TraceGraphNode) (edges : List TraceGraphEdge) (steps : List TakenEdge) (p : TracePath) (others : List TracePath) →
    paths_left nodes edges steps ≡ p ∷ others → p ≡ step_path steps
first_left nodes edges steps p others e = go (taken_steps edges steps) refl e ∙ led_onto edges steps [] [] ∙ append-nil (step_path steps)
  where
    go : (ts : List (Taken TraceEdge)) → taken_steps edges steps ≡ ts →
        left_beside (path_graph (graph_view nodes edges)) (graph_size nodes) ts ≡ p ∷ others → p ≡ led (taken_steps edges steps) []
    go [] h f = let w : ⊥ = cc in absurd w
    go (t ∷ ts) h f = let z : led (t ∷ ts) [] ≡ p = cc in sym z ∙ ap (λ (us : List (Taken TraceEdge)). led us []) (sym h)

-- there is one where there are steps
pub some_left : (nodes : List TraceGraphNode) (edges : List TraceGraphEdge) (front : List TakenEdge) (s : TakenEdge) →
    0 < length (paths_left nodes edges (front ++ s ∷ []))
some_left nodes edges front s =
    let e = ap (λ (ts : List (Taken TraceEdge)). length (left_beside (path_graph (graph_view nodes edges)) (graph_size nodes) ts)) (taken_more edges front s []) in
    omega (arith, e)

-- the last step is taken back
pub turn_back : (edges : List TraceGraphEdge) (g : PathGraph TraceEdge) (count : ℕ) (steps front : List TakenEdge) (s : TakenEdge) → steps ≡ front ++ s ∷ [] →
    IsWalk g count (taken_steps edges steps) [] →
    WalksOn g count (taken_steps edges steps) [] (taken_steps edges front) (left_into edges s.left s.edge.now.to)
turn_back edges g count steps front s e w =
    let same : taken_steps edges steps ≡ taken_step edges s ∷ taken_steps edges front = ap (taken_steps edges) e ∙ taken_more edges front s [] in
    subst (λ ts. WalksOn g count ts [] (taken_steps edges front) (left_into edges s.left s.edge.now.to)) (sym same) (
      sym (left_gives_back g count (taken_steps edges front) (taken_step edges s)),
      walk_gives_back g count (taken_steps edges front) (taken_step edges s) [] (subst (λ ts. IsWalk g count ts []) same w),
      less_gives_back g count (taken_steps edges front) (taken_step edges s),
    )

pub turn_ends : (edges : List TraceGraphEdge) (g : PathGraph TraceEdge) (count : ℕ) (steps new : List TakenEdge) → steps ≡ [] → new ≡ [] →
    ArrivesAt g count (taken_steps edges steps) [] (taken_steps edges new)
turn_ends edges g count steps new e n =
    subst (λ (l : List TakenEdge). ArrivesAt g count (taken_steps edges l) [] (taken_steps edges new)) (sym e)
    (subst (λ (l : List TakenEdge). ArrivesAt g count [] [] (taken_steps edges l)) (sym n) (refl, tt))

-- a step is taken along an edge
module _ (edges : List TraceGraphEdge) (graph : GraphView) (whole : IsWhole graph) (steps : List TakenEdge) (e : TraceEdge) (es : List TraceEdge)
    (walk : IsWalk (path_graph graph) (length graph.nodes) (taken_steps edges steps) (e ∷ es)) where
  abbrev g : PathGraph TraceEdge
  g = path_graph graph

  abbrev count : ℕ
  count = length graph.nodes

  pub turn_found : (new : List TakenEdge) (s : TakenEdge) → new ≡ steps ++ s ∷ [] → taken_step edges s ≡ (e, es) →
      is_item_node (slice_get graph.nodes e.from) ≡ true → ArrivesAt g count (taken_steps edges steps) (e ∷ es) (taken_steps edges new)
  turn_found new s n t item =
      let same : taken_steps edges new ≡ (e, es) ∷ taken_steps edges steps =
      ap (taken_steps edges) n ∙ taken_more edges steps s [] ∙ ap (λ (u : Taken TraceEdge). u ∷ taken_steps edges steps) t in
      subst (λ ts. ArrivesAt g count (taken_steps edges steps) (e ∷ es) ts) (sym same) (
        sym (left_item g count (taken_steps edges steps) e es item),
        (walk.edges e (contains_here e es), walk_others g count (taken_steps edges steps) e es walk),
      )

  pub turn_passed : is_item_node (slice_get graph.nodes e.from) ≡ false → is_passed steps e.from ≡ true →
      WalksOn g count (taken_steps edges steps) (e ∷ es) (taken_steps edges steps) es
  turn_passed other passed = (
    sym (left_seen g count (taken_steps edges steps) e es other (passed_is edges graph e.from steps ∙ passed)),
    walk_others g count (taken_steps edges steps) e es walk,
    less_others g count (taken_steps edges steps) e es,
  )

  pub turn_along : (new : List TakenEdge) (s : TakenEdge) (right : List TraceEdge) → new ≡ steps ++ s ∷ [] → taken_step edges s ≡ (e, es) →
      right ≡ edges_into graph.edges e.from → is_item_node (slice_get graph.nodes e.from) ≡ false → is_passed steps e.from ≡ false →
      WalksOn g count (taken_steps edges steps) (e ∷ es) (taken_steps edges new) right
  turn_along new s right n t r other fresh =
      let same : taken_steps edges new ≡ (e, es) ∷ taken_steps edges steps =
      ap (taken_steps edges) n ∙ taken_more edges steps s [] ∙ ap (λ (u : Taken TraceEdge). u ∷ taken_steps edges steps) t in
      let unseen = passed_is edges graph e.from steps ∙ fresh in
      subst (λ ts. WalksOn g count (taken_steps edges steps) (e ∷ es) ts right) (sym same)
      (subst (λ l. WalksOn g count (taken_steps edges steps) (e ∷ es) ((e, es) ∷ taken_steps edges steps) l) (sym r) (
        sym (left_takes g count (taken_steps edges steps) e es other unseen walk),
        walk_takes g count (taken_steps edges steps) e es (edges_into graph.edges e.from) unseen (within_into graph whole e.from) walk,
        less_takes g count (taken_steps edges steps) e es unseen walk,
      ))

-- where the search begins, all paths are left
pub search_begins : (graph : GraphView) → IsWhole graph → (n : ℕ) →
    IsWalk (path_graph graph) (length graph.nodes) [] (edges_into graph.edges n)
search_begins graph whole n = walk_begins (path_graph graph) (length graph.nodes) (edges_into graph.edges n) (within_into graph whole n)

pub all_paths : (graph : GraphView) → IsWhole graph → (n k : ℕ) (x : GraphNode) → slice_get graph.nodes n ≡ Some x →
    slice_get graph.nodes k ≡ Some x → (ps : List TracePath) →
    ps ≡ left_at (path_graph graph) (length graph.nodes) [] (edges_into graph.edges k) → AreBackwardPaths (path_graph graph) n ps
all_paths graph whole n k x at_n at_k ps is =
    let same = one_place graph.nodes x k n whole.nodes_once at_k at_n in
    subst (λ m. AreBackwardPaths (path_graph graph) m ps) same
    (subst (AreBackwardPaths (path_graph graph) k) (sym is) (record {
      all = λ p. depth_suffices (path_graph graph) (length graph.nodes) (within_into graph whole) k p;
      once = once_in_order (path_graph graph) (into_once graph whole) k (paths (path_graph graph) (suc (length graph.nodes)) [] k)
          (listed_in_order (path_graph graph) (suc (length graph.nodes)) [] k);
      ordered = listed_in_order (path_graph graph) (suc (length graph.nodes)) [] k;
    }))

-- the last step is taken back, where the steps are a path
pub next_walk : (nodes : List TraceGraphNode) (edges : List TraceGraphEdge) (steps front : List TakenEdge) (s : TakenEdge) → steps ≡ front ++ s ∷ [] →
    IsWalked (path_graph (graph_view nodes edges)) (graph_size nodes) (taken_steps edges steps) →
    IsWalk (path_graph (graph_view nodes edges)) (graph_size nodes) (taken_steps edges front) (left_into edges s.left s.edge.now.to)
next_walk nodes edges steps front s e w =
    (subst (IsWalked (path_graph (graph_view nodes edges)) (graph_size nodes)) (ap (taken_steps edges) e ∙ taken_more edges front s []) w).1

pub next_left : (nodes : List TraceGraphNode) (edges : List TraceGraphEdge) (steps front : List TakenEdge) (s : TakenEdge) → steps ≡ front ++ s ∷ [] →
    left_at (path_graph (graph_view nodes edges)) (graph_size nodes) (taken_steps edges front) (left_into edges s.left s.edge.now.to)
    ≡ drop 1 (paths_left nodes edges steps)
next_left nodes edges steps front s e =
    sym (ap (λ (ts : List (Taken TraceEdge)). drop 1 (left_beside (path_graph (graph_view nodes edges)) (graph_size nodes) ts))
    (ap (taken_steps edges) e ∙ taken_more edges front s []))

any_of : {X : Type 0} (p : X → Bool) (xs : List X) (x : X) → Contains xs x → p x ≡ true → list_any p xs ≡ true
any_of p [] x c e = absurd (no_element x c)
any_of p (y ∷ xs) x c e = ⊎_elim (λ s. here (ap p s ∙ e)) (λ d. later (p y) (any_of p xs x d e)) (contains_split y x xs c)
  where
    here : p y ≡ true → (p y || list_any p xs) ≡ true
    here h = ap (λ b. b || list_any p xs) h

    later : (b : Bool) → list_any p xs ≡ true → (b || list_any p xs) ≡ true
    later true h = refl
    later false h = h

-- each step leads to a node of the graph
pub within_steps : (nodes : List TraceGraphNode) (edges : List TraceGraphEdge) (steps : List TakenEdge) →
    IsWalked (path_graph (graph_view nodes edges)) (graph_size nodes) (taken_steps edges steps) → AreStepsWithin (length nodes) steps
within_steps nodes edges steps w s c =
    let among : is_among s.edge.now.from (nodes_of (path_graph (graph_view nodes edges)) (taken_steps edges steps)) ≡ true =
    passed_is edges (graph_view nodes edges) s.edge.now.from steps
    ∙ any_of (λ (r : TakenEdge). s.edge.now.from == r.edge.now.from) steps s c (same s.edge.now.from) in
    let l : graph_size nodes ≡ length nodes = length-map nodes node_view in
    let h = go (taken_steps edges steps) w among in
    omega (arith, h, l)
  where
    same : (n : ℕ) → (n == n) ≡ true
    same n = (Decides-eqb n n).1 refl

    go : (ts : List (Taken TraceEdge)) → IsWalked (path_graph (graph_view nodes edges)) (graph_size nodes) ts →
        is_among s.edge.now.from (nodes_of (path_graph (graph_view nodes edges)) ts) ≡ true → s.edge.now.from < graph_size nodes
    go [] v e = let z : ⊥ = cc in absurd z
    go (t ∷ ts) v e =
        ⊎_elim (λ f. subst (λ n. n < graph_size nodes) (sym (eqb_same s.edge.now.from t.0.from f)) v.0)
        (λ f. v.1.below s.edge.now.from (sym (ap (λ b. b || is_among s.edge.now.from (nodes_of (path_graph (graph_view nodes edges)) ts)) f) ∙ e))
        (bool_cases (eqb s.edge.now.from t.0.from))

-- where there are steps, and just there, a path is left
taken_some : (edges : List TraceGraphEdge) (steps : List TakenEdge) (t : Taken TraceEdge) (ts : List (Taken TraceEdge)) →
    (u : Taken TraceEdge) × (us : List (Taken TraceEdge)) × (taken_onto edges steps (t ∷ ts) ≡ u ∷ us)
taken_some edges [] t ts = (t, ts, refl)
taken_some edges (s ∷ steps) t ts = taken_some edges steps (taken_step edges s) (t ∷ ts)

pub left_some : (nodes : List TraceGraphNode) (edges : List TraceGraphEdge) (steps : List TakenEdge) →
    (0 < length (paths_left nodes edges steps)) ↔ (0 < length steps)
left_some nodes edges [] = (λ h. h, λ h. h)
left_some nodes edges (s ∷ steps) = (λ h. omega arith, λ h. more (taken_some edges steps (taken_step edges s) []))
  where
    more : ((u : Taken TraceEdge) × (us : List (Taken TraceEdge)) × (taken_onto edges steps (taken_step edges s ∷ []) ≡ u ∷ us)) →
        0 < length (paths_left nodes edges (s ∷ steps))
    more r =
        let e = ap (λ (ts : List (Taken TraceEdge)). length (left_beside (path_graph (graph_view nodes edges)) (graph_size nodes) ts)) r.2 in
        omega (arith, e)

-- no step is left
pub none_left : (nodes : List TraceGraphNode) (edges : List TraceGraphEdge) (steps : List TakenEdge) → steps ≡ [] →
    paths_left nodes edges steps ≡ []
none_left nodes edges steps e = ap (λ (l : List TakenEdge). paths_left nodes edges l) e

pub none_next : (nodes : List TraceGraphNode) (edges : List TraceGraphEdge) (steps new : List TakenEdge) → steps ≡ [] → new ≡ [] →
    paths_left nodes edges new ≡ drop 1 (paths_left nodes edges steps)
none_next nodes edges steps new e n =
    none_left nodes edges new n ∙ sym (ap (λ (l : List TakenEdge). drop 1 (paths_left nodes edges l)) e)

pub at_none : (nodes : List TraceGraphNode) (edges : List TraceGraphEdge) (steps : List TakenEdge) → IsWhole (graph_view nodes edges) →
    steps ≡ [] → IsAtPath nodes edges steps
at_none nodes edges steps whole e = record {
  whole = whole;
  walked = subst (λ (l : List TakenEdge). IsWalked (path_graph (graph_view nodes edges)) (graph_size nodes) (taken_steps edges l)) (sym e) tt;
}

pub same_graph : (nodes others : List TraceGraphNode) (edges ends : List TraceGraphEdge) → nodes ≡ others → edges ≡ ends →
    graph_view nodes edges ≡ graph_view others ends
same_graph nodes others edges ends a b =
    ap (λ (l : List TraceGraphNode). graph_view l edges) a ∙ ap (λ (l : List TraceGraphEdge). graph_view others l) b

-- where the search begins
pub begin_walk : (nodes : List TraceGraphNode) (edges : List TraceGraphEdge) → IsWhole (graph_view nodes edges) → (left n : ℕ) → left ≡ length edges →
    (steps : List TakenEdge) → steps ≡ [] → IsWalk (path_graph (graph_view nodes edges)) (graph_size nodes) (taken_steps edges steps) (left_into edges left n)
begin_walk nodes edges whole left n all steps none =
    subst (λ (l : List TakenEdge). IsWalk (path_graph (graph_view nodes edges)) (graph_size nodes) (taken_steps edges l) (left_into edges left n)) (sym none)
    (subst (IsWalk (path_graph (graph_view nodes edges)) (graph_size nodes) []) (sym (all_into edges left n all))
    (search_begins (graph_view nodes edges) whole n))

pub begin_paths : (graph : GraphView) (nodes : List TraceGraphNode) (edges : List TraceGraphEdge) → graph_view nodes edges ≡ graph → IsWhole graph →
    (k : ℕ) (x : GraphNode) → slice_get graph.nodes k ≡ Some x → (left : ℕ) → left ≡ length edges → (steps new : List TakenEdge) → steps ≡ [] →
    left_beside (path_graph (graph_view nodes edges)) (graph_size nodes) (taken_steps edges new)
    ≡ left_at (path_graph (graph_view nodes edges)) (graph_size nodes) (taken_steps edges steps) (left_into edges left k) →
    (n : ℕ) → slice_get graph.nodes n ≡ Some x → AreBackwardPaths (path_graph graph) n (paths_left nodes edges new)
begin_paths graph nodes edges same whole k x at_k left all steps new none found n at_n =
    let g = path_graph (graph_view nodes edges) in
    subst (λ (h : GraphView). AreBackwardPaths (path_graph h) n (paths_left nodes edges new)) same
    (all_paths (graph_view nodes edges) (subst IsWhole (sym same) whole) n k x (ap (λ (h : GraphView). slice_get h.nodes n) same ∙ at_n)
    (ap (λ (h : GraphView). slice_get h.nodes k) same ∙ at_k) (paths_left nodes edges new)
    (found ∙ ap (λ (l : List TakenEdge). left_at g (graph_size nodes) (taken_steps edges l) (left_into edges left k)) none
    ∙ ap (left_at g (graph_size nodes) []) (all_into edges left k all)))

-- the first of what is left
pub first_of_list : {X : Type 0} (xs : List X) → 0 < length xs → (x : X) × (rest : List X) × (xs ≡ x ∷ rest)
first_of_list [] h = absurd (omega (arith, h))
first_of_list (x ∷ xs) h = (x, xs, refl)
