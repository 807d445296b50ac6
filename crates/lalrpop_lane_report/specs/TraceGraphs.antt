-- Graphs of traces, as they are seen: nodes and edges in the order in which they came, each once; what comes of adding to them.
use Rattle.std.specs.Prelude.{ℕ, ◌<◌, ◌==◌, Bool, true, false, List, [], ◌∷◌, ◌++◌, length, filter, reverse, Option, Some, None, ◌≡◌, ◌⊎◌, Contains, slice_get}
use Rattle.lalrpop_lane_report.specs.Paths.{EachOnce, PathGraph}
use Rattle.lalrpop_lane_report.specs.TraceNodes.{EdgeLabel, TraceEdge, GraphNode, item_node, nonterminal_node}

pub record GraphView : Type 0 where
  pub nodes : List GraphNode
  pub edges : List TraceEdge

-- an element comes to the end of a list, unless it is there
abbrev pub AddsOne : {X : Type 0} → List X → X → List X → Type 0
AddsOne old x new = (Contains old x × (new ≡ old)) ⊎ ((Contains old x → ⊥) × (new ≡ old ++ x ∷ []))

-- nodes and edges stand once each, and edges lead from nodes to nodes
pub record IsWhole (graph : GraphView) : Type 0 where
  pub nodes_once : EachOnce graph.nodes
  pub edges_once : EachOnce graph.edges
  pub from_within : (e : TraceEdge) → Contains graph.edges e → e.from < length graph.nodes
  pub to_within : (e : TraceEdge) → Contains graph.edges e → e.to < length graph.nodes

-- a node comes, unless it is there, and stands at this place then
pub record PlacesNode (old : List GraphNode) (x : GraphNode) (k : ℕ) (new : List GraphNode) : Type 0 where
  pub node : AddsOne old x new
  pub place : slice_get new k ≡ Some x

abbrev pub AddsNode : GraphView → GraphNode → ℕ → GraphView → Type 0
AddsNode old x k new = PlacesNode old.nodes x k new.nodes × (new.edges ≡ old.edges)

-- an edge comes, unless it is there, and so do its nodes
pub record GainsEdge (old : GraphView) (x y : GraphNode) (label : EdgeLabel) (new : GraphView) : Type 0 where
  pub between : List GraphNode
  pub from : ℕ
  pub to : ℕ
  pub source : PlacesNode old.nodes x from between
  pub target : PlacesNode between y to new.nodes
  pub edge : AddsOne old.edges (record { from = from; to = to; label = label }) new.edges

-- an edge with this label leads from one node to another
pub record HasLabelledEdge (graph : GraphView) (x y : GraphNode) (label : EdgeLabel) : Type 0 where
  pub from : ℕ
  pub to : ℕ
  pub source : slice_get graph.nodes from ≡ Some x
  pub target : slice_get graph.nodes to ≡ Some y
  pub edge : Contains graph.edges (record { from = from; to = to; label = label })

abbrev pub is_item_node : Option GraphNode → Bool
is_item_node None = false
is_item_node (Some (nonterminal_node n)) = false
is_item_node (Some (item_node p i)) = true

-- the edges into a node, the newest first
abbrev pub edges_into : List TraceEdge → ℕ → List TraceEdge
edges_into edges n = filter (λ e. e.to == n) (reverse edges)

-- the graph as its paths see it
abbrev pub path_graph : GraphView → PathGraph TraceEdge
path_graph graph = record {
  from = λ e. e.from;
  incoming = λ n. edges_into graph.edges n;
  is_item = λ n. is_item_node (slice_get graph.nodes n);
}
