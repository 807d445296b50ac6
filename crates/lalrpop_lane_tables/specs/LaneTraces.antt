-- Traces over states as the program has them: what nodes do, and what a trace puts into a lane table, by the numbers of tokens.
use Rattle.std.specs.Prelude.{ℕ, ◌≤◌, List, ◌∷◌, map, drop, length, Some, None, ◌≡◌, ◌⊎◌, Contains, slice_get}
use Rattle.lalrpop_grammar_symbols.specs.Symbols.{Terminal, Text}
use Rattle.lalrpop_grammar_symbols.specs.Views.{terminal_view}
use Rattle.lalrpop_grammar_symbols.specs.declared.names.NonterminalString.{NonterminalString}
use Rattle.lalrpop_grammar_repr.specs.declared.grammar.Grammar.{Grammar}
use Rattle.lalrpop_lr1_theory.specs.FirstSets.{First0}
use Rattle.lalrpop_lr1_theory.specs.Productions.{Next, Production, Symbol, nonterminal}
use Rattle.lalrpop_lr1_theory.specs.States as theory
use Rattle.lalrpop_lr1_theory.specs.Trees.{Move, reduce, shift}
use Rattle.lalrpop_sets.specs.Tokens.{eof_number}
use Rattle.lalrpop_lr1_core.specs.Views.{lr_state_view, next_of_number, production_view}
use Rattle.lalrpop_lr1_core.specs.declared.conflict.Action.{Action}
use Rattle.lalrpop_lr1_core.specs.declared.conflict.Action.TheVariants.{Shift, Reduce}
use Rattle.lalrpop_lr1_core.specs.declared.item.Item.{Item}
use Rattle.lalrpop_lr1_core.specs.declared.state.State.{State}
use Rattle.lalrpop_lr1_core.specs.declared.state_index.StateIndex.{StateIndex}
use Rattle.lalrpop_lr1_core.specs.Edges.{edges_of}
use Rattle.lalrpop_lr1_core.specs.declared.edge.Edge.{Edge}
use Rattle.lalrpop_lr1_first.specs.FirstSetsOf.{AreFirstSetsOf, IsProductionOf}
use Rattle.lalrpop_lane_theory.specs.Lanes.{TraceAdds, TraceEnters, TraceNotes}
use Rattle.lalrpop_lane_tables.specs.TableGains.{AddsNothing, EntersNowhere, NotesNothing, TableGains}
use Rattle.lalrpop_lane_tables.specs.TableViews.{TableView}
use Rattle.lalrpop_lane_tables.specs.TraceNodes.{AreTraced, ExtendsNodes, NodeAdds, NodeEnters, NodeLeads, NodeNotes, SomeNode, TraceNode}
use Rattle.lalrpop_lane_tables.specs.TraceNodes.{node_of_item}

-- the move of an action
abbrev pub action_move : Action → Move
action_move (Shift t m) = shift (terminal_view t)
action_move (Reduce p) = reduce (production_view p.now)

-- a number up to the end's is that of a next which comes
abbrev pub ByNumber : Grammar → (Next → Type 0) → ℕ → Type 0
ByNumber g Comes k = (k ≤ eof_number g.terminals) × Comes (next_of_number g.terminals k)

-- steps back from a state to an item, in each of the states from which one leads: nodes come, and edges are noted
pub record StepsToSources (sources : List StateIndex) (to : ℕ) (p : Production) (i : ℕ) (c : ℕ) (old new : List TraceNode)
    (before after : TableView) : Type 0 where
  pub nodes : ExtendsNodes old new (λ k. (n : StateIndex) × Contains sources n × (k ≡ node_of_item n.0 p i))
  pub gains : TableGains AddsNothing EntersNowhere (λ k m. (m ≡ to) × ((n : StateIndex) × Contains sources n × (k ≡ n.0))) c before after

module _ (g : Grammar) (m : ℕ) (A : Text) where
  -- what an item of a state does for a nonterminal, where its dot stands before that: it is come to, where nothing may come behind; the
  -- terminals that can come first behind are added; and an entry is made
  abbrev pub ItemLeads : Production → ℕ → TraceNode → Type 0
  ItemLeads r j k = (b : List Symbol) × (drop j r.right ≡ nonterminal A ∷ b) × First0 (IsProductionOf g) b None × (k ≡ node_of_item m r j)

  abbrev pub ItemAdds : Production → ℕ → ℕ → Next → Type 0
  ItemAdds r j n x =
      (n ≡ m) × ((b : List Symbol) × (t : Terminal) × (drop j r.right ≡ nonterminal A ∷ b) × (x ≡ Some t)
      × First0 (IsProductionOf g) b (Some t))

  abbrev pub ItemEnters : Production → ℕ → ℕ → Type 0
  ItemEnters r j n = (n ≡ m) × ((b : List Symbol) × (drop j r.right ≡ nonterminal A ∷ b))

  module _ {L : Type 0} where
    abbrev pub SomeItem : List (Item L) → (Production → ℕ → Type 0) → Type 0
    SomeItem items Says = (item : Item L) × Contains items item × Says (production_view item.production.now) item.index

    -- the items are asked for the nonterminal, one after the other
    pub record AsksItems (items : List (Item L)) (c : ℕ) (old new : List TraceNode) (before after : TableView) : Type 0 where
      pub nodes : ExtendsNodes old new (λ k. SomeItem items (λ r j. ItemLeads r j k))
      pub gains : TableGains (λ n. ByNumber g (λ x. SomeItem items (λ r j. ItemAdds r j n x)))
          (λ n. SomeItem items (λ r j. ItemEnters r j n)) NotesNothing c before after

module _ {L : Type 0} (look : L → theory.LookaheadSet) (g : Grammar) (s : Text) (states : List (State L)) where
  abbrev pub TracedItem : ℕ → Production → ℕ → Type 0
  TracedItem = theory.HasItem (map (lr_state_view look) states)

  abbrev pub TracedEdge : ℕ → Symbol → ℕ → Type 0
  TracedEdge = theory.HasEdge (map (lr_state_view look) states)

  -- a node leads on to others, and its tokens, entries and edges come to the table
  pub record TakesSteps (node : TraceNode) (c : ℕ) (old new : List TraceNode) (before after : TableView) : Type 0 where
    pub nodes : ExtendsNodes old new (NodeLeads (IsProductionOf g) s TracedItem TracedEdge node)
    pub gains : TableGains (λ m. ByNumber g (NodeAdds (IsProductionOf g) s TracedItem TracedEdge node m))
        (NodeEnters (IsProductionOf g) s TracedItem TracedEdge node) (NodeNotes (IsProductionOf g) s TracedItem TracedEdge node) c before after

  -- what the trace of a move of a state puts into the table
  abbrev pub TracesMove : ℕ → Move → ℕ → TableView → TableView → Type 0
  TracesMove n v c before after =
      TableGains (λ m. ByNumber g (TraceAdds (IsProductionOf g) s TracedItem TracedEdge n v m))
      (TraceEnters (IsProductionOf g) s TracedItem TracedEdge n v) (TraceNotes (IsProductionOf g) TracedItem TracedEdge n v) c before after

-- the item is one of the state with this number
abbrev pub IsItemIn : {L : Type 0} → List (State L) → ℕ → Item L → Type 0
IsItemIn {L} states n item = (state : State L) × (slice_get states n ≡ Some state) × Contains state.items.vec item

-- the end comes to a state for the start
pub record AddsEnd (g : Grammar) (s : Text) (m : ℕ) (A : Text) (c : ℕ) (before after : TableView) : Type 0 where
  pub gains : TableGains (λ n. ByNumber g (λ x. (n ≡ m) × ((A ≡ s) × (x ≡ None)))) (λ n. (n ≡ m) × (A ≡ s)) NotesNothing c before after

-- A trace from a finished item of a state: the nodes that were visited, of which the first ones took their steps, and what these put into
-- the table, beside the entry of the state itself.
pub record IsTracing {L : Type 0} (look : L → theory.LookaheadSet) (g : Grammar) (s : Text) (states : List (State L)) (n : ℕ)
    (p : Production) (c : ℕ) (visited : List TraceNode) (count : ℕ) (before now : TableView) : Type 0 where
  pub traced : AreTraced (IsProductionOf g) s (TracedItem look g s states) (TracedEdge look g s states) n p (length p.right) visited count
  pub gains : TableGains
      (λ m. ByNumber g (λ x. SomeNode
      (λ node. NodeAdds (IsProductionOf g) s (TracedItem look g s states) (TracedEdge look g s states) node m x) visited count))
      (λ m. (m ≡ n) ⊎ SomeNode
      (λ node. NodeEnters (IsProductionOf g) s (TracedItem look g s states) (TracedEdge look g s states) node m) visited count)
      (λ k m. SomeNode
      (λ node. NodeNotes (IsProductionOf g) s (TracedItem look g s states) (TracedEdge look g s states) node k m) visited count) c before now

-- first sets are those of the grammar, and a graph is that of the states
pub record IsGround {L : Type 0} (g : Grammar) (firsts : List (NonterminalString × List ℕ)) (graph : List Edge) (states : List (State L)) :
    Type 0 where
  pub firsts_of : AreFirstSetsOf g firsts
  pub graph_of : graph ≡ edges_of states
