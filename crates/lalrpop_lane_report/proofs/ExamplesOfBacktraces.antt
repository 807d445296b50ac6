-- The graph of a trace, over the states of `S = "a" B` and `B = "b"`: how the state behind `"a"` came to have `B = (*) "b"`; and two graphs
-- that aren't it.
use Rattle.std.proofs.Common.{◌≡◌, ◌∙◌, ℕ, zero, suc, List, [], ◌∷◌, Some, Contains, get_or, slice_get, refl, sym, ap, subst, ⊎_elim, arith}
use Rattle.std.specs.Borrow.{Bor}
use Rattle.lalrpop_grammar_symbols.specs.declared.names.NonterminalString.{NonterminalString}
use Rattle.lalrpop_grammar_repr.specs.declared.production.Production.{Production}
use Rattle.lalrpop_grammar_repr.specs.declared.production.Symbol.TheVariants as symbols
use Rattle.lalrpop_sets.specs.declared.nil.Nil.{Nil}
use Rattle.lalrpop_lr1_theory.proofs.ListLemmas.{contains_here, contains_later, contains_split}
use Rattle.lalrpop_lr1_theory.proofs.NameLemmas.{no_element}
use Rattle.lalrpop_lr1_theory.proofs.StepLemmas.{some_same}
use Rattle.lalrpop_lr1_core.specs.Dots.{at_dot}
use Rattle.lalrpop_lr1_core.specs.Edges.{state_index}
use Rattle.lalrpop_lr1_core.specs.declared.item.Item.{Item}
use Rattle.lalrpop_lr1_core.specs.declared.state.State.{State}
use Rattle.lalrpop_lr1_core.proofs.ExamplesOfViews.{name, quoted}
use Rattle.lalrpop_lane_report.specs.Backtraces.{AsksFor, Draws, HasDotInFront, Visits, begins, from_item, from_name, goes_on, to_given}
use Rattle.lalrpop_lane_report.specs.TraceGraphs.{GraphView, HasLabelledEdge}
use Rattle.lalrpop_lane_report.specs.TraceNodes.{EdgeLabel, TraceEdge, GraphNode, label_of_item, graph_node_of, nonterminal_node}

abbrev rule_s : Production
rule_s = record {
  nonterminal = name "S";
  symbols = symbols.Terminal (quoted "a") ∷ symbols.Nonterminal (name "B") ∷ [];
  action = record { 0 = 0 };
  span = record { 0 = 0; 1 = 1 };
}

abbrev rule_b : Production
rule_b = record {
  nonterminal = name "B";
  symbols = symbols.Terminal (quoted "b") ∷ [];
  action = record { 0 = 1 };
  span = record { 0 = 2; 1 = 3 };
}

module _ (s b : Bor Production) (s_is : s.now ≡ rule_s) (b_is : b.now ≡ rule_b) (nil : Nil) where
  abbrev item : Bor Production → ℕ → Item Nil
  item p dot = record { production = p; index = dot; lookahead = nil }

  abbrev state_of : ℕ → List (Item Nil) → State Nil
  state_of n items = record { index = state_index n; items = record { vec = items }; shifts = []; reductions = []; gotos = [] }

  -- the states at the start, behind `"a"`, behind `"a" B` and behind `"a" "b"`
  abbrev states : List (State Nil)
  states = state_of 0 (item s 0 ∷ []) ∷ state_of 1 (item s 1 ∷ item b 0 ∷ []) ∷ state_of 2 (item s 2 ∷ []) ∷ state_of 3 (item b 1 ∷ []) ∷ []

  abbrev given : Item Nil
  given = item b 0

  abbrev asking : Item Nil
  asking = item s 1

  abbrev Drawn : GraphNode → GraphNode → EdgeLabel → Type 0
  Drawn = Draws states HasDotInFront 1 given

  abbrev Visited : ℕ → NonterminalString → Type 0
  Visited = Visits states HasDotInFront 1 given

  abbrev edge : ℕ → ℕ → EdgeLabel → TraceEdge
  edge n m l = record { from = n; to = m; label = l }

  -- from `S = "a" (*) B` to B, and from B to `B = (*) "b"`
  abbrev graph : GraphView
  graph = record {
    nodes = nonterminal_node b.now.nonterminal ∷ graph_node_of given ∷ graph_node_of asking ∷ [];
    edges = edge 0 1 (label_of_item given) ∷ edge 2 0 (label_of_item asking) ∷ [];
  }

  asks_for_b : at_dot asking ≡ Some (symbols.Nonterminal b.now.nonterminal)
  asks_for_b =
      ap (λ (p : Production). slice_get p.symbols 1) s_is
      ∙ ap (λ (p : Production). Some (symbols.Nonterminal p.nonterminal)) (sym b_is)

  -- of the state behind `"a"`, only this item asks for a nonterminal
  one_asks : (X : NonterminalString) (i : Item Nil) → AsksFor states 1 X i → asking ≡ i
  one_asks X i asks =
      let same : state_of 1 (item s 1 ∷ item b 0 ∷ []) ≡ asks.state = some_same (state_of 1 (item s 1 ∷ item b 0 ∷ [])) asks.state asks.at in
      let there : Contains (item s 1 ∷ item b 0 ∷ []) i = subst (λ (st : State Nil). Contains st.items.vec i) (sym same) asks.item_in in
      ⊎_elim (λ e. e)
      (λ d. ⊎_elim (λ e. absurd (terminal i e asks.before)) (λ z. absurd (no_element i z)) (contains_split (item b 0) i [] d))
      (contains_split (item s 1) i (item b 0 ∷ []) there)
    where
      terminal : (j : Item Nil) → item b 0 ≡ j → at_dot j ≡ Some (symbols.Nonterminal X) → ⊥
      terminal j e before =
          let z : Some (symbols.Terminal (quoted "b")) ≡ Some (symbols.Nonterminal X) =
          sym (ap (λ (p : Production). slice_get p.symbols 0) b_is) ∙ ap (λ (k : Item Nil). at_dot k) e ∙ before in
          cc

  -- B alone is visited, there alone
  visits_are : (m : ℕ) (X : NonterminalString) → Visited m X → (m ≡ 1) × (X ≡ b.now.nonterminal)
  visits_are m X (begins k leads) = (leads, refl)
  visits_are m X (goes_on n k Y i before asks front leads) =
      let h = visits_are n Y before in
      let same = one_asks Y i (subst (λ j. AsksFor states j Y i) h.0 asks) in
      let z : 1 ≡ 0 = ap (λ (j : Item Nil). j.index) same ∙ front in
      absurd (omega (arith, z))

  has_given : HasLabelledEdge graph (nonterminal_node b.now.nonterminal) (graph_node_of given) (label_of_item given)
  has_given = record {
    from = 0;
    to = 1;
    source = refl;
    target = refl;
    edge = contains_here (edge 0 1 (label_of_item given)) (edge 2 0 (label_of_item asking) ∷ []);
  }

  has_asking : HasLabelledEdge graph (graph_node_of asking) (nonterminal_node b.now.nonterminal) (label_of_item asking)
  has_asking = record {
    from = 2;
    to = 0;
    source = refl;
    target = refl;
    edge = contains_later (edge 0 1 (label_of_item given)) (edge 2 0 (label_of_item asking)) (edge 2 0 (label_of_item asking) ∷ [])
        (contains_here (edge 2 0 (label_of_item asking)) []);
  }

  -- what is drawn is there
  drawn_there : (x y : GraphNode) (label : EdgeLabel) → Drawn x y label → HasLabelledEdge graph x y label
  drawn_there x y label to_given = has_given
  drawn_there x y label (from_item m X i visits asks stops) =
      let h = visits_are m X visits in
      let same = one_asks X i (subst (λ j. AsksFor states j X i) h.0 asks) in
      subst (λ (j : Item Nil). HasLabelledEdge graph (graph_node_of j) (nonterminal_node X) (label_of_item j)) same
      (subst (λ Y. HasLabelledEdge graph (graph_node_of asking) (nonterminal_node Y) (label_of_item asking)) (sym h.1) has_asking)
  drawn_there x y label (from_name m X i visits asks front) =
      let h = visits_are m X visits in
      let same = one_asks X i (subst (λ j. AsksFor states j X i) h.0 asks) in
      let z : 1 ≡ 0 = ap (λ (j : Item Nil). j.index) same ∙ front in
      absurd (omega (arith, z))

  visits_b : Visited 1 b.now.nonterminal
  visits_b = begins 1 refl

  asking_asks : AsksFor states 1 b.now.nonterminal asking
  asking_asks = record {
    state = state_of 1 (item s 1 ∷ item b 0 ∷ []);
    at = refl;
    item_in = contains_here (item s 1) (item b 0 ∷ []);
    before = asks_for_b;
  }

  not_in_front : HasDotInFront asking → ⊥
  not_in_front e = omega (arith, e)

  -- and what is there is drawn
  there_drawn : (x y : GraphNode) (label : EdgeLabel) → HasLabelledEdge graph x y label → Drawn x y label
  there_drawn x y label h =
      ⊎_elim
      (λ e. by_places x y label 0 1 (label_of_item given) (nonterminal_node b.now.nonterminal) (graph_node_of given) h e refl refl to_given)
      (λ d. ⊎_elim
      (λ e. by_places x y label 2 0 (label_of_item asking) (graph_node_of asking) (nonterminal_node b.now.nonterminal) h e refl refl
      (from_item 1 b.now.nonterminal asking visits_b asking_asks not_in_front))
      (λ z. absurd (no_element (edge h.from h.to label) z)) (contains_split (edge 2 0 (label_of_item asking)) (edge h.from h.to label) [] d))
      (contains_split (edge 0 1 (label_of_item given)) (edge h.from h.to label) (edge 2 0 (label_of_item asking) ∷ []) h.edge)
    where
      by_places : (x y : GraphNode) (label : EdgeLabel) (n m : ℕ) (l : EdgeLabel) (u v : GraphNode) (h : HasLabelledEdge graph x y label) →
          edge n m l ≡ edge h.from h.to label → slice_get graph.nodes n ≡ Some u → slice_get graph.nodes m ≡ Some v → Drawn u v l →
          Drawn x y label
      by_places x y label n m l u v h e at_n at_m drawn =
          let first : u ≡ x = some_same u x (sym at_n ∙ ap (λ (d : TraceEdge). slice_get graph.nodes d.from) e ∙ h.source) in
          let second : v ≡ y = some_same v y (sym at_m ∙ ap (λ (d : TraceEdge). slice_get graph.nodes d.to) e ∙ h.target) in
          subst (λ z. Drawn z y label) first
          (subst (λ z. Drawn u z label) second (subst (λ z. Drawn u v z) (ap (λ (d : TraceEdge). d.label) e) drawn))

  -- an edge from S isn't drawn: the dot of its item isn't in front
  not_from_name : Drawn (nonterminal_node s.now.nonterminal) (nonterminal_node b.now.nonterminal) (label_of_item asking) → ⊥
  not_from_name d =
      let h = drawn_there (nonterminal_node s.now.nonterminal) (nonterminal_node b.now.nonterminal) (label_of_item asking) d in
      no_name h.from h.source
    where
      other : b.now.nonterminal ≡ s.now.nonterminal → ⊥
      other e =
          let z : 66 ≡ 83 =
          ap (λ (n : NonterminalString). get_or n.0 0 0)
          (ap (λ (p : Production). p.nonterminal) (sym b_is) ∙ e ∙ ap (λ (p : Production). p.nonterminal) s_is) in
          omega (arith, z)

      no_name : (k : ℕ) → slice_get graph.nodes k ≡ Some (nonterminal_node s.now.nonterminal) → ⊥
      no_name zero e = other (let z : b.now.nonterminal ≡ s.now.nonterminal = cc in z)
      no_name (suc zero) e = let w : ⊥ = cc in w
      no_name (suc (suc zero)) e = let w : ⊥ = cc in w
      no_name (suc (suc (suc k))) e = let w : ⊥ = cc in w

  -- and a graph without the edge from the item that asks isn't the trace's
  abbrev one_edge : GraphView
  one_edge = record {
    nodes = nonterminal_node b.now.nonterminal ∷ graph_node_of given ∷ [];
    edges = edge 0 1 (label_of_item given) ∷ [];
  }

  not_one_edge : ((x y : GraphNode) (label : EdgeLabel) → Drawn x y label → HasLabelledEdge one_edge x y label) → ⊥
  not_one_edge all =
      let h = all (graph_node_of asking) (nonterminal_node b.now.nonterminal) (label_of_item asking)
      (from_item 1 b.now.nonterminal asking visits_b asking_asks not_in_front) in
      ⊎_elim (λ e. away h.from h.source (ap (λ (d : TraceEdge). d.from) e)) (λ z. no_element (edge h.from h.to (label_of_item asking)) z)
      (contains_split (edge 0 1 (label_of_item given)) (edge h.from h.to (label_of_item asking)) [] h.edge)
    where
      away : (k : ℕ) → slice_get one_edge.nodes k ≡ Some (graph_node_of asking) → 0 ≡ k → ⊥
      away zero e same = let w : ⊥ = cc in w
      away (suc k) e same = omega (arith, same)
