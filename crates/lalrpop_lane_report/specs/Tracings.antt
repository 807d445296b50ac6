-- A trace in the making: where nonterminals were visited, what items do that ask for one, and what was drawn.
use Rattle.std.specs.Prelude.{ℕ, ◌<◌, List, [], Option, Some, None, ◌≡◌, ◌⊎◌, ◌↔◌, ⊤, Contains, slice_get}
use Rattle.lalrpop_grammar_symbols.specs.declared.names.NonterminalString.{NonterminalString}
use Rattle.lalrpop_grammar_repr.specs.declared.grammar.Grammar.{Grammar}
use Rattle.lalrpop_grammar_repr.specs.declared.production.Symbol.TheVariants as symbols
use Rattle.lalrpop_grammar_repr.specs.declared.terminal_set.TerminalSet.{TerminalSet}
use Rattle.lalrpop_lr1_core.specs.Dots.{at_dot}
use Rattle.lalrpop_lr1_core.specs.declared.item.Item.{Item}
use Rattle.lalrpop_lr1_core.specs.declared.state.State.{State}
use Rattle.lalrpop_lr1_first.specs.FirstSetsOf.{AreFirstSetsOf}
use Rattle.lalrpop_lane_report.specs.declared.traces.tracer.Asked.{Asked}
use Rattle.lalrpop_lane_report.specs.declared.traces.tracer.Kind.{Kind}
use Rattle.lalrpop_lane_report.specs.declared.traces.tracer.Kind.TheVariants.{Shift, Reduction}
use Rattle.lalrpop_lane_report.specs.Backtraces.{Draws, HasDotInFront, IsEndOf, IsGraphOf, MayEnd, PrefixLeads, Visits}
use Rattle.lalrpop_lane_report.specs.TraceGraphs.{GraphView, HasLabelledEdge, IsWhole}
use Rattle.lalrpop_lane_report.specs.TraceNodes.{EdgeLabel, GraphNode, label_of_item, graph_node_of, nonterminal_node}

-- by which test a trace goes on from an item: that of a shift, or that of a reduction over a grammar
abbrev pub GoesBy : {L : Type 0} → Option Grammar → Item L → Type 0
GoesBy None item = HasDotInFront item
GoesBy (Some g) item = MayEnd g item

-- a kind of trace goes on so: that of a reduction by the grammar of which these are the first sets and the terminals
abbrev pub Suits : Kind → List (NonterminalString × List ℕ) → TerminalSet → Option Grammar → Type 0
Suits Shift firsts terminals None = ⊤
Suits Shift firsts terminals (Some g) = ⊥
Suits Reduction firsts terminals None = ⊥
Suits Reduction firsts terminals (Some g) = AreFirstSetsOf g firsts × (terminals ≡ g.terminals)

-- a state and a nonterminal that is asked for there
abbrev pub Pair : Type 0
Pair = ℕ × NonterminalString

abbrev pub pair_asked : Asked → Pair
pair_asked asked = (asked.state, asked.name.now)

-- pairs come that meet a condition, and no others; those that were there keep their places
pub record GainsPairs (old : List Pair) (Came : Pair → Type 0) (new : List Pair) : Type 0 where
  pub kept : (j : ℕ) (p : Pair) → slice_get old j ≡ Some p → slice_get new j ≡ Some p
  pub pairs : (p : Pair) → Contains new p ↔ (Contains old p ⊎ Came p)

-- edges come that meet a condition, with their ends, and nothing else
pub record GainsEdgesBy (old : GraphView) (Came : GraphNode → GraphNode → EdgeLabel → Type 0) (new : GraphView) : Type 0 where
  pub whole : IsWhole new
  pub edges : (x y : GraphNode) (label : EdgeLabel) → HasLabelledEdge new x y label ↔ (HasLabelledEdge old x y label ⊎ Came x y label)
  pub nodes : (x : GraphNode) → Contains new.nodes x ↔ (Contains old.nodes x ⊎ IsEndOf Came x)

-- a graph without nodes
abbrev pub no_graph : GraphView
no_graph = record { nodes = []; edges = [] }

-- one of the first pairs says so
abbrev pub SomePair : (Pair → Type 0) → List Pair → ℕ → Type 0
SomePair Says visited count = (j : ℕ) × (p : Pair) × (j < count) × (slice_get visited j ≡ Some p) × Says p

-- the items of the state with this number; none where it isn't there
abbrev pub items_of_state : {L : Type 0} → Option (State L) → List (Item L)
items_of_state None = []
items_of_state (Some state) = state.items.vec

abbrev pub items_of_number : {L : Type 0} → List (State L) → ℕ → List (Item L)
items_of_number states m = items_of_state (slice_get states m)

-- the given item's edge
pub data GivenEdge {M : Type 0} (given : Item M) : GraphNode → GraphNode → EdgeLabel → Type 0 where
  is_given : GivenEdge given (nonterminal_node given.production.now.nonterminal) (graph_node_of given) (label_of_item given)

module _ {L : Type 0} (states : List (State L)) (by : Option Grammar) where
  -- the edge of an item that asks for a nonterminal
  pub data ItemEdge (X : NonterminalString) (item : Item L) : GraphNode → GraphNode → EdgeLabel → Type 0 where
    stops : (GoesBy by item → ⊥) → ItemEdge X item (graph_node_of item) (nonterminal_node X) (label_of_item item)
    goes : GoesBy by item → ItemEdge X item (nonterminal_node item.production.now.nonterminal) (nonterminal_node X) (label_of_item item)

  -- one of the items has its dot before the nonterminal, and says so
  abbrev pub SomeAsking : NonterminalString → List (Item L) → (Item L → Type 0) → Type 0
  SomeAsking X items Says = (item : Item L) × Contains items item × (at_dot item ≡ Some (symbols.Nonterminal X)) × Says item

  -- where the trace goes on from an item of a state: its nonterminal, in the states where the item begins
  abbrev pub IsTracedTo : ℕ → Pair → Item L → Type 0
  IsTracedTo m q item = GoesBy by item × PrefixLeads states q.0 item m × (q.1 ≡ item.production.now.nonterminal)

  -- the items of a state are asked for a nonterminal
  pub record AsksOfItems (p : Pair) (items : List (Item L)) (old new : List Pair) (before after : GraphView) : Type 0 where
    pub pairs : GainsPairs old (λ q. SomeAsking p.1 items (IsTracedTo p.0 q)) new
    pub edges : GainsEdgesBy before (λ x y label. SomeAsking p.1 items (λ item. ItemEdge p.1 item x y label)) after

  module _ {M : Type 0} (n : ℕ) (given : Item M) where
    -- what was drawn, where the items of the states of the first pairs were asked
    abbrev pub DrawnBy : List Pair → ℕ → GraphNode → GraphNode → EdgeLabel → Type 0
    DrawnBy visited count x y label =
        GivenEdge given x y label ⊎ SomePair (λ p. SomeAsking p.1 (items_of_number states p.0) (λ item. ItemEdge p.1 item x y label)) visited count

    -- The nonterminals in states that were visited, where the items of the states of the first ones were asked, and what was drawn.
    pub record IsBacktracing (visited : List Pair) (count : ℕ) (graph : GraphView) : Type 0 where
      pub visits : (p : Pair) → Contains visited p → Visits states (λ item. GoesBy by item) n given p.0 p.1
      pub begun : (m : ℕ) → PrefixLeads states m given n → Contains visited (m, given.production.now.nonterminal)
      pub led : (q : Pair) → SomePair (λ p. SomeAsking p.1 (items_of_number states p.0) (IsTracedTo p.0 q)) visited count → Contains visited q
      pub drawn : GainsEdgesBy no_graph (DrawnBy visited count) graph

    -- the graph of the trace
    abbrev pub IsTraced : GraphView → Type 0
    IsTraced graph = IsGraphOf (Draws states (λ item. GoesBy by item) n given) graph
