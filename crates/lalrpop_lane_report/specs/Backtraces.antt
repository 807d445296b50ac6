-- Graphs of traces by what they mean: from which items, in which states, a nonterminal came to be asked for that an item is of.
use Rattle.std.specs.Prelude.{ℕ, List, map, Some, None, ◌≡◌, ◌⊎◌, ◌↔◌, Contains, slice_get}
use Rattle.lalrpop_grammar_symbols.specs.declared.names.NonterminalString.{NonterminalString}
use Rattle.lalrpop_grammar_repr.specs.declared.grammar.Grammar.{Grammar}
use Rattle.lalrpop_grammar_repr.specs.declared.production.Symbol.TheVariants as symbols
use Rattle.lalrpop_lr1_theory.specs.FirstSets.{First0}
use Rattle.lalrpop_lr1_core.specs.Dots.{at_dot, before_dot, behind_cursor}
use Rattle.lalrpop_lr1_core.specs.Edges.{SymbolsLead, edges_of}
use Rattle.lalrpop_lr1_core.specs.Views.{production_symbol_view}
use Rattle.lalrpop_lr1_core.specs.declared.item.Item.{Item}
use Rattle.lalrpop_lr1_core.specs.declared.state.State.{State}
use Rattle.lalrpop_lr1_first.specs.FirstSetsOf.{IsProductionOf}
use Rattle.lalrpop_lane_report.specs.Paths.{EachOnce}
use Rattle.lalrpop_lane_report.specs.TraceGraphs.{GraphView, HasLabelledEdge}
use Rattle.lalrpop_lane_report.specs.TraceNodes.{EdgeLabel, GraphNode, label_of_item, graph_node_of, nonterminal_node}

-- the item stands in the state with this number, and its dot before the nonterminal
pub record AsksFor {L : Type 0} (states : List (State L)) (m : ℕ) (X : NonterminalString) (item : Item L) : Type 0 where
  pub state : State L
  pub at : slice_get states m ≡ Some state
  pub item_in : Contains state.items.vec item
  pub before : at_dot item ≡ Some (symbols.Nonterminal X)

-- the item's symbols before the dot lead from one state to the other
abbrev pub PrefixLeads : {L : Type 0} {M : Type 0} → List (State L) → ℕ → Item M → ℕ → Type 0
PrefixLeads states k item m = SymbolsLead (edges_of states) k (before_dot item) m

module _ {L M : Type 0} (states : List (State L)) (Continues : Item L → Type 0) (n : ℕ) (given : Item M) where
  -- In these states a nonterminal is asked for: that of the given item, which begins there and comes to the given state; and that of an item
  -- that asks for one and from which the trace goes on, where that item begins.
  pub data Visits : ℕ → NonterminalString → Type 0 where
    begins : (m : ℕ) → PrefixLeads states m given n → Visits m given.production.now.nonterminal
    goes_on : (m k : ℕ) (X : NonterminalString) (item : Item L) → Visits m X → AsksFor states m X item → Continues item →
        PrefixLeads states k item m → Visits k item.production.now.nonterminal

  -- the edges: to the given item from its nonterminal; and to each nonterminal from the items that ask for it, or from their nonterminals,
  -- where the trace goes on from there
  pub data Draws : GraphNode → GraphNode → EdgeLabel → Type 0 where
    to_given : Draws (nonterminal_node given.production.now.nonterminal) (graph_node_of given) (label_of_item given)
    from_item : (m : ℕ) (X : NonterminalString) (item : Item L) → Visits m X → AsksFor states m X item → (Continues item → ⊥) →
        Draws (graph_node_of item) (nonterminal_node X) (label_of_item item)
    from_name : (m : ℕ) (X : NonterminalString) (item : Item L) → Visits m X → AsksFor states m X item → Continues item →
        Draws (nonterminal_node item.production.now.nonterminal) (nonterminal_node X) (label_of_item item)

-- a node is at an end of some edge
abbrev pub IsEndOf : (GraphNode → GraphNode → EdgeLabel → Type 0) → GraphNode → Type 0
IsEndOf Edge x = ((y : GraphNode) × (label : EdgeLabel) × Edge x y label) ⊎ ((y : GraphNode) × (label : EdgeLabel) × Edge y x label)

-- a graph has just these edges and their ends, each once
pub record IsGraphOf (Edge : GraphNode → GraphNode → EdgeLabel → Type 0) (graph : GraphView) : Type 0 where
  pub edges : (x y : GraphNode) (label : EdgeLabel) → HasLabelledEdge graph x y label ↔ Edge x y label
  pub nodes : (x : GraphNode) → Contains graph.nodes x ↔ IsEndOf Edge x
  pub edges_once : EachOnce graph.edges
  pub nodes_once : EachOnce graph.nodes

-- the trace of a shift goes on where the dot is in front, that of a reduction where nothing need come behind the nonterminal
abbrev pub HasDotInFront : {L : Type 0} → Item L → Type 0
HasDotInFront item = item.index ≡ 0

abbrev pub MayEnd : {L : Type 0} → Grammar → Item L → Type 0
MayEnd g item = First0 (IsProductionOf g) (map production_symbol_view (behind_cursor item)) None

abbrev pub IsShiftTrace : {L M : Type 0} → List (State L) → ℕ → Item M → GraphView → Type 0
IsShiftTrace states n given graph = IsGraphOf (Draws states HasDotInFront n given) graph

abbrev pub IsReductionTrace : {L M : Type 0} → Grammar → List (State L) → ℕ → Item M → GraphView → Type 0
IsReductionTrace g states n given graph = IsGraphOf (Draws states (MayEnd g) n given) graph
