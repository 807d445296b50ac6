-- Edges that a tracer draws, as calls tell them, and what comes of them.
use Rattle.std.proofs.Common.{◌≡◌, ◌∙◌, ◌↔◌, ℕ, List, [], ◌∷◌, Bool, true, false, refl, sym, ap, subst}
use Rattle.std.proofs.Common.{IsTrue, Option, None, Some, option_copied, slice_get}
use Rattle.lalrpop_grammar_symbols.specs.declared.names.NonterminalString.{NonterminalString}
use Rattle.lalrpop_grammar_repr.specs.declared.grammar.Grammar.{Grammar}
use Rattle.lalrpop_grammar_repr.specs.declared.production.Symbol.{Symbol}
use Rattle.lalrpop_grammar_repr.specs.declared.production.Symbol.TheVariants as symbols
use Rattle.lalrpop_lr1_core.specs.Dots.{at_dot, before_dot, behind_cursor}
use Rattle.lalrpop_lr1_core.specs.Edges.{SymbolsLead, edges_of}
use Rattle.lalrpop_lr1_core.specs.declared.item.Item.{Item}
use Rattle.lalrpop_lr1_core.specs.declared.state.State.{State}
use Rattle.lalrpop_lr1_core.specs.declared.symbol_sets.SymbolSets.{SymbolSets}
use Rattle.lalrpop_lane_report.specs.Backtraces.{PrefixLeads}
use Rattle.lalrpop_lane_report.specs.TraceGraphs.{GainsEdge, GraphView, IsWhole}
use Rattle.lalrpop_lane_report.specs.TraceNodes.{EdgeLabel, GraphNode, graph_node_of, label_of_item, label_view, nonterminal_node}
use Rattle.lalrpop_lane_report.specs.Tracings.{AsksOfItems, GainsPairs, GoesBy, IsBacktracing, Pair, items_of_number, items_of_state, no_graph}
use Rattle.lalrpop_lane_report.proofs.TraceGraphLemmas.{whole_edge, whole_none}
use Rattle.lalrpop_lane_report.proofs.TracingLemmas.{asks_goes, asks_stops, tracing_begins}

abbrev label_with : List Symbol → Option Symbol → List Symbol → EdgeLabel
label_with a b c = record { prefix = a; cursor = b; suffix = c }

pub labels_are : {L : Type 0} (sets : SymbolSets) (item : Item L) → sets.prefix.now ≡ before_dot item → option_copied sets.cursor ≡ at_dot item →
    sets.suffix.now ≡ behind_cursor item → label_view sets ≡ label_of_item item
labels_are sets item a b c =
    ap (λ x. label_with x (option_copied sets.cursor) sets.suffix.now) a ∙ ap (λ x. label_with (before_dot item) x sets.suffix.now) b
    ∙ ap (label_with (before_dot item) (at_dot item)) c

pub gains_as : (before after : GraphView) (x y u v : GraphNode) (l k : EdgeLabel) → x ≡ u → y ≡ v → l ≡ k → GainsEdge before x y l after →
    GainsEdge before u v k after
gains_as before after x y u v l k a b c g =
    subst (λ z. GainsEdge before z v k after) a (subst (λ z. GainsEdge before x z k after) b (subst (λ z. GainsEdge before x y z after) c g))

-- a test that says no
pub not_so : {P : Type 0} (b : Bool) → IsTrue b ↔ P → b ≡ false → P → ⊥
not_so true d e p = let w : ⊥ = cc in w
not_so false d e p = let z : false ≡ true = d.1 p in let w : ⊥ = cc in w

-- the edge of an item at which the trace stops, and of one from which it goes on
pub item_stops : {L : Type 0} (states : List (State L)) (by : Option Grammar) (p : Pair) (item : Item L) →
    at_dot item ≡ Some (symbols.Nonterminal p.1) → (GoesBy by item → ⊥) → (visited : List Pair) (before after : GraphView) → IsWhole before →
    (x y : GraphNode) (name : NonterminalString) (l : EdgeLabel) → x ≡ graph_node_of item → y ≡ nonterminal_node name → name ≡ p.1 →
    l ≡ label_of_item item → GainsEdge before x y l after → AsksOfItems states by p (item ∷ []) visited visited before after
item_stops states by p item asks stop visited before after whole x y name l first second named label gains =
    asks_stops states by p item asks stop visited before after whole
    (gains_as before after x y (graph_node_of item) (nonterminal_node p.1) l (label_of_item item) first (second ∙ ap nonterminal_node named) label gains)

pub item_goes : {L : Type 0} (states : List (State L)) (by : Option Grammar) (p : Pair) (item : Item L) →
    at_dot item ≡ Some (symbols.Nonterminal p.1) → GoesBy by item → (old new : List Pair) (before after : GraphView) → IsWhole before →
    (x y : GraphNode) (own name : NonterminalString) (l : EdgeLabel) → x ≡ nonterminal_node own → own ≡ item.production.now.nonterminal →
    y ≡ nonterminal_node name → name ≡ p.1 → l ≡ label_of_item item → GainsEdge before x y l after → (prefix : List Symbol) →
    prefix ≡ before_dot item → GainsPairs old (λ q. SymbolsLead (edges_of states) q.0 prefix p.0 × (q.1 ≡ item.production.now.nonterminal)) new →
    AsksOfItems states by p (item ∷ []) old new before after
item_goes {L} states by p item asks go old new before after whole x y own name l first owned second named label gains prefix is pairs =
    asks_goes states by p item asks go old new before after whole
    (gains_as before after x y (nonterminal_node item.production.now.nonterminal) (nonterminal_node p.1) l (label_of_item item)
    (first ∙ ap nonterminal_node owned) (second ∙ ap nonterminal_node named) label gains)
    (subst (λ (side : List Symbol). GainsPairs old
    (λ q. SymbolsLead (edges_of states) q.0 side p.0 × (q.1 ≡ item.production.now.nonterminal)) new) is pairs)

-- the given item's edge, where nothing was drawn
pub given_begins : {L M : Type 0} (states : List (State L)) (by : Option Grammar) (n : ℕ) (given : Item M) (old visited : List Pair)
    (before graph : GraphView) → old ≡ [] → before ≡ no_graph → (x y : GraphNode) (own : NonterminalString) (l : EdgeLabel) →
    x ≡ nonterminal_node own → own ≡ given.production.now.nonterminal → y ≡ graph_node_of given → l ≡ label_of_item given →
    GainsEdge before x y l graph → (prefix : List Symbol) → prefix ≡ before_dot given →
    GainsPairs old (λ q. SymbolsLead (edges_of states) q.0 prefix n × (q.1 ≡ given.production.now.nonterminal)) visited →
    IsBacktracing states by n given visited 0 graph
given_begins {L} {M} states by n given old visited before graph none empty x y own l first owned second label gains prefix is pairs =
    tracing_begins states by n given visited graph
    (subst (λ (g : GraphView). GainsEdge g (nonterminal_node given.production.now.nonterminal) (graph_node_of given) (label_of_item given) graph) empty
    (gains_as before graph x y (nonterminal_node given.production.now.nonterminal) (graph_node_of given) l (label_of_item given)
    (first ∙ ap nonterminal_node owned) second label gains))
    (subst (λ (o : List Pair). GainsPairs o (λ q. PrefixLeads states q.0 given n × (q.1 ≡ given.production.now.nonterminal)) visited) none
    (subst (λ (side : List Symbol). GainsPairs old
    (λ q. SymbolsLead (edges_of states) q.0 side n × (q.1 ≡ given.production.now.nonterminal)) visited) is pairs))

pub whole_begins : (before graph : GraphView) (x y : GraphNode) (l : EdgeLabel) → before ≡ no_graph → GainsEdge before x y l graph → IsWhole graph
whole_begins before graph x y l empty gains =
    whole_edge before graph x y l (subst IsWhole (sym empty) (whole_none [] [] refl refl)) gains

-- the items of a state, and of one that isn't there
pub items_some : {L : Type 0} (states : List (State L)) (m : ℕ) (state : State L) (items : List (Item L)) → slice_get states m ≡ Some state →
    items ≡ state.items.vec → items ≡ items_of_number states m
items_some {L} states m state items at is = is ∙ sym (ap (λ (o : Option (State L)). items_of_state o) at)

pub items_none : {L : Type 0} (states : List (State L)) (m : ℕ) → slice_get states m ≡ None → [] ≡ items_of_number states m
items_none {L} states m at = sym (ap (λ (o : Option (State L)). items_of_state o) at)
