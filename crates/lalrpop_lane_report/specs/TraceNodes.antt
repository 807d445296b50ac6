-- Nodes and edges of graphs of traces, as they are seen: a nonterminal, or an item without a lookahead; the nodes of an edge by their places.
use Rattle.std.specs.Prelude.{ℕ, List, Option}
use Rattle.std.specs.Option.{option_copied}
use Rattle.lalrpop_grammar_symbols.specs.declared.names.NonterminalString.{NonterminalString}
use Rattle.lalrpop_grammar_repr.specs.declared.production.Production.{Production}
use Rattle.lalrpop_grammar_repr.specs.declared.production.Symbol.{Symbol}
use Rattle.lalrpop_lr1_core.specs.Dots.{at_dot, before_dot, behind_cursor}
use Rattle.lalrpop_lr1_core.specs.declared.item.Item.{Item}
use Rattle.lalrpop_lr1_core.specs.declared.symbol_sets.SymbolSets.{SymbolSets}
use Rattle.lalrpop_lane_report.specs.declared.traces.trace_graph.TraceGraphEdge.{TraceGraphEdge}
use Rattle.lalrpop_lane_report.specs.declared.traces.trace_graph.TraceGraphNode.{TraceGraphNode}
use Rattle.lalrpop_lane_report.specs.declared.traces.trace_graph.TraceGraphNode.TheVariants as nodes

-- a nonterminal, or a production with a dot before the symbol at this place
pub data GraphNode : Type 0 where
  nonterminal_node : NonterminalString → GraphNode
  item_node : Production → ℕ → GraphNode

-- a right side, parted at a dot
pub record EdgeLabel : Type 0 where
  pub prefix : List Symbol
  pub cursor : Option Symbol
  pub suffix : List Symbol

-- an edge from one place to another
pub record TraceEdge : Type 0 where
  pub from : ℕ
  pub to : ℕ
  pub label : EdgeLabel

abbrev pub graph_node_of : {L : Type 0} → Item L → GraphNode
graph_node_of item = item_node item.production.now item.index

abbrev pub node_view : TraceGraphNode → GraphNode
node_view (nodes.Nonterminal n) = nonterminal_node n
node_view (nodes.Item item) = graph_node_of item

abbrev pub label_view : SymbolSets → EdgeLabel
label_view sets = record { prefix = sets.prefix.now; cursor = option_copied sets.cursor; suffix = sets.suffix.now }

abbrev pub label_of_item : {L : Type 0} → Item L → EdgeLabel
label_of_item item = record { prefix = before_dot item; cursor = at_dot item; suffix = behind_cursor item }

abbrev pub trace_edge_view : TraceGraphEdge → TraceEdge
trace_edge_view e = record { from = e.from; to = e.to; label = label_view e.labels }
