-- The graph of a reduction's trace, over states of `S = "a" B`, `T = "a" B "c"` and `B = "b"`: what can come behind B once `B = "b" (*)` is
-- reduced; and two edges that it doesn't have.
use Rattle.std.proofs.Common.{◌≡◌, ◌∙◌, ◌+◌, ℕ, List, [], ◌∷◌, Some, None, drop, get_or, map, slice_get, take, refl, sym, ap, subst, arith}
use Rattle.std.specs.Borrow.{Bor}
use Rattle.lalrpop_grammar_symbols.specs.declared.names.NonterminalString.{NonterminalString}
use Rattle.lalrpop_grammar_repr.specs.declared.grammar.Grammar.{Grammar}
use Rattle.lalrpop_grammar_repr.specs.declared.production.Production.{Production}
use Rattle.lalrpop_grammar_repr.specs.declared.production.Symbol.{Symbol}
use Rattle.lalrpop_grammar_repr.specs.declared.production.Symbol.TheVariants as symbols
use Rattle.lalrpop_sets.specs.declared.nil.Nil.{Nil}
use Rattle.lalrpop_lr1_theory.specs.FirstSets.{Derives, First0, ends, keeps}
use Rattle.lalrpop_lr1_theory.specs.Productions as theory
use Rattle.lalrpop_lr1_theory.proofs.ListLemmas.{contains_here, contains_later}
use Rattle.lalrpop_lr1_core.specs.Edges.{SymbolsLead, edge_of, state_index}
use Rattle.lalrpop_lr1_core.specs.Views.{production_symbol_view}
use Rattle.lalrpop_lr1_core.specs.declared.edge.Edge.{Edge}
use Rattle.lalrpop_lr1_core.specs.declared.item.Item.{Item}
use Rattle.lalrpop_lr1_core.specs.declared.state.State.{State}
use Rattle.lalrpop_lr1_core.proofs.ExamplesOfViews.{name, quoted}
use Rattle.lalrpop_lr1_first.specs.FirstSetsOf.{IsProductionOf}
use Rattle.lalrpop_lane_report.specs.Backtraces.{AsksFor, Draws, MayEnd, Visits, begins, from_item, from_name, goes_on, to_given}
use Rattle.lalrpop_lane_report.specs.TraceNodes.{EdgeLabel, GraphNode, label_of_item, graph_node_of, nonterminal_node}

abbrev rule : NonterminalString → List Symbol → ℕ → Production
rule n side k = record { nonterminal = n; symbols = side; action = record { 0 = k }; span = record { 0 = k; 1 = k } }

abbrev a : Symbol
a = symbols.Terminal (quoted "a")

abbrev b : Symbol
b = symbols.Terminal (quoted "b")

abbrev c : Symbol
c = symbols.Terminal (quoted "c")

abbrev asked : Symbol
asked = symbols.Nonterminal (name "B")

abbrev rule_s : Production
rule_s = rule (name "S") (a ∷ asked ∷ []) 0

abbrev rule_t : Production
rule_t = rule (name "T") (a ∷ asked ∷ c ∷ []) 1

abbrev rule_b : Production
rule_b = rule (name "B") (b ∷ []) 2

module _ (g : Grammar) (s t p : Bor Production) (s_is : s.now ≡ rule_s) (t_is : t.now ≡ rule_t) (b_is : p.now ≡ rule_b) (nil : Nil) where
  abbrev item : Bor Production → ℕ → Item Nil
  item q dot = record { production = q; index = dot; lookahead = nil }

  -- the states at the start, behind `"a"`, behind `"a" B` and behind `"a" "b"`
  abbrev at_start : State Nil
  at_start = record {
    index = state_index 0;
    items = record { vec = item s 0 ∷ item t 0 ∷ [] };
    shifts = (quoted "a", state_index 1) ∷ [];
    reductions = [];
    gotos = [];
  }

  abbrev behind_a : State Nil
  behind_a = record {
    index = state_index 1;
    items = record { vec = item s 1 ∷ item t 1 ∷ item p 0 ∷ [] };
    shifts = (quoted "b", state_index 3) ∷ [];
    reductions = [];
    gotos = (name "B", state_index 2) ∷ [];
  }

  abbrev states : List (State Nil)
  states =
      at_start ∷ behind_a
      ∷ record { index = state_index 2; items = record { vec = item s 2 ∷ item t 2 ∷ [] }; shifts = []; reductions = []; gotos = [] }
      ∷ record { index = state_index 3; items = record { vec = item p 1 ∷ [] }; shifts = []; reductions = []; gotos = [] } ∷ []

  abbrev edges : List Edge
  edges = edge_of 0 a 1 ∷ edge_of 1 b 3 ∷ edge_of 1 asked 2 ∷ []

  abbrev given : Item Nil
  given = item p 1

  abbrev Drawn : GraphNode → GraphNode → EdgeLabel → Type 0
  Drawn = Draws states (MayEnd g) 3 given

  abbrev Visited : ℕ → NonterminalString → Type 0
  Visited = Visits states (MayEnd g) 3 given

  -- B is visited behind `"a"`
  abbrev Leads : ℕ → List Symbol → ℕ → Type 0
  Leads n xs m = SymbolsLead edges n xs m

  visits_b : Visited 1 p.now.nonterminal
  visits_b =
      begins 1 (subst (λ (q : Production). Leads 1 (take 1 q.symbols) 3) (sym b_is) (
        3,
        contains_later (edge_of 0 a 1) (edge_of 1 b 3) (edge_of 1 b 3 ∷ edge_of 1 asked 2 ∷ [])
            (contains_here (edge_of 1 b 3) (edge_of 1 asked 2 ∷ [])),
        refl,
      ))

  s_asks : AsksFor states 1 p.now.nonterminal (item s 1)
  s_asks = record {
    state = behind_a;
    at = refl;
    item_in = contains_here (item s 1) (item t 1 ∷ item p 0 ∷ []);
    before = ap (λ (q : Production). slice_get q.symbols 1) s_is
        ∙ ap (λ (q : Production). Some (symbols.Nonterminal q.nonterminal)) (sym b_is);
  }

  t_asks : AsksFor states 1 p.now.nonterminal (item t 1)
  t_asks = record {
    state = behind_a;
    at = refl;
    item_in = contains_later (item s 1) (item t 1) (item t 1 ∷ item p 0 ∷ []) (contains_here (item t 1) (item p 0 ∷ []));
    before = ap (λ (q : Production). slice_get q.symbols 1) t_is
        ∙ ap (λ (q : Production). Some (symbols.Nonterminal q.nonterminal)) (sym b_is);
  }

  -- nothing need come behind `S = "a" B`, and `"c"` has to behind `T = "a" B "c"`
  abbrev Ends : List Symbol → Type 0
  Ends xs = First0 (IsProductionOf g) (map production_symbol_view xs) None

  s_ends : MayEnd g (item s 1)
  s_ends = subst (λ (q : Production). Ends (drop 2 q.symbols)) (sym s_is) ends

  never : (ys : List theory.Symbol) → Derives (IsProductionOf g) (map production_symbol_view (c ∷ [])) ys → ys ≡ [] → ⊥
  never ys (keeps x more) e = let w : ⊥ = cc in w

  t_stops : MayEnd g (item t 1) → ⊥
  t_stops h = never [] (subst (λ (q : Production). Ends (drop 2 q.symbols)) t_is h) refl

  -- so an edge leads to B from S, and from the item of T
  from_s : Drawn (nonterminal_node s.now.nonterminal) (nonterminal_node p.now.nonterminal) (label_of_item (item s 1))
  from_s = from_name 1 p.now.nonterminal (item s 1) visits_b s_asks s_ends

  from_t : Drawn (graph_node_of (item t 1)) (nonterminal_node p.now.nonterminal) (label_of_item (item t 1))
  from_t = from_item 1 p.now.nonterminal (item t 1) visits_b t_asks t_stops

  -- and the trace goes on with S at the start
  visits_s : Visited 0 s.now.nonterminal
  visits_s =
      goes_on 1 0 p.now.nonterminal (item s 1) visits_b s_asks s_ends
      (subst (λ (q : Production). Leads 0 (take 1 q.symbols) 1) (sym s_is)
      (1, contains_here (edge_of 0 a 1) (edge_of 1 b 3 ∷ edge_of 1 asked 2 ∷ []), refl))

  may : (i : Item Nil) → graph_node_of i ≡ graph_node_of (item s 1) → MayEnd g i
  may i e =
      let same : i.production.now ≡ s.now = cc in
      let at : i.index ≡ 1 = cc in
      subst (λ n. Ends (drop (n + 1) i.production.now.symbols)) (sym at)
      (subst (λ (q : Production). Ends (drop 2 q.symbols)) (sym same) s_ends)

  -- no edge leads from the item of S, where the trace goes on
  not_from_item : (x y : GraphNode) (l : EdgeLabel) → Drawn x y l → x ≡ graph_node_of (item s 1) → ⊥
  not_from_item x y l to_given e = let w : ⊥ = cc in w
  not_from_item x y l (from_item m X i visits asks stop) e = stop (may i e)
  not_from_item x y l (from_name m X i visits asks go) e = let w : ⊥ = cc in w

  -- nor does one lead to it
  not_to_item : (x y : GraphNode) (l : EdgeLabel) → Drawn x y l → y ≡ graph_node_of (item s 1) → ⊥
  not_to_item x y l to_given e =
      let same : p.now ≡ s.now = cc in
      let z : 66 ≡ 83 = ap (λ (q : Production). get_or q.nonterminal.0 0 0) (sym b_is ∙ same ∙ s_is) in
      omega (arith, z)
  not_to_item x y l (from_item m X i visits asks stop) e = let w : ⊥ = cc in w
  not_to_item x y l (from_name m X i visits asks go) e = let w : ⊥ = cc in w
