-- Steps back over edges: the sources of edges by a symbol, one after the other, and what they are over states.
use Rattle.std.proofs.Common.{◌≡◌, ◌∙◌, ◌↔◌, ◌⊎◌, ◌≤◌, ◌&&◌, ℕ, zero, suc, Bool, List, [], ◌∷◌, map, drop, length, refl, sym, ap, subst}
use Rattle.std.proofs.Common.{inl, inr, ⊎_elim, arith, Contains, Some, slice_get, nat_eq, filter, reverse}
use Rattle.std.specs.Bool.{Decides}
use Rattle.std.specs.Cmp.Derive.{both_true}
use Rattle.std.proofs.lemmas.Bool.Decides.{Decides-eqb}
use Rattle.std.proofs.lemmas.List.Sorted.{Contains-permutation, IsPermutation-reverse, IsPermutation-sym}
use Rattle.lalrpop_grammar_symbols.specs.Symbols.{Text}
use Rattle.lalrpop_grammar_repr.specs.contracts.production.SymbolPartialEq.TheImpl as compared
use Rattle.lalrpop_grammar_repr.specs.declared.grammar.Grammar.{Grammar}
use Rattle.lalrpop_grammar_repr.specs.declared.production.Symbol.{Symbol}
use Rattle.lalrpop_grammar_repr.specs.declared.production.Symbol.TheVariants as symbols
use Rattle.lalrpop_grammar_repr.proofs.EqualLemmas.{both_parts, same_names, same_terminals}
use Rattle.lalrpop_lr1_theory.specs.Productions as theory
use Rattle.lalrpop_lr1_theory.specs.States as states
use Rattle.lalrpop_lr1_theory.proofs.ListLemmas.{contains_here, contains_later, contains_split}
use Rattle.lalrpop_lr1_theory.proofs.NameLemmas.{no_element}
use Rattle.lalrpop_lr1_theory.proofs.StepLemmas.{some_same}
use Rattle.lalrpop_lr1_core.specs.Edges.{HasGraphEdge, edge_of, edges_of, sources_of, state_index}
use Rattle.lalrpop_lr1_core.specs.Views.{lr_state_view, production_symbol_view}
use Rattle.lalrpop_lr1_core.specs.declared.edge.Edge.{Edge}
use Rattle.lalrpop_lr1_core.specs.declared.state.State.{State}
use Rattle.lalrpop_lr1_core.specs.declared.state_index.StateIndex.{StateIndex}
use Rattle.lalrpop_lr1_core.proofs.GraphLemmas.{graph_edge_seen, seen_edge_there}
use Rattle.lalrpop_lr1_core.proofs.MemberLemmas.{filter_has, in_filter, in_map, map_has}
use Rattle.lalrpop_lr1_first.specs.FirstSetsOf.{IsProductionOf}
use Rattle.lalrpop_lane_tables.specs.LaneTraces.{ByNumber, StepsToSources, TakesSteps, TracedEdge, TracedItem}
use Rattle.lalrpop_lane_tables.specs.TableGains.{AddsNothing, EntersNowhere, NotesOne, TableGains}
use Rattle.lalrpop_lane_tables.specs.TableViews.{TableView}
use Rattle.lalrpop_lane_tables.specs.TraceNodes.{EntersBy, ExtendsNodes, NodeAdds, NodeEnters, NodeLeads, NodeNotes, TraceNode, moved_node, node_of_item}
use Rattle.lalrpop_lane_tables.proofs.TableGainLemmas.{table_gains_alike, table_gains_both, table_gains_none}
use Rattle.lalrpop_lane_tables.proofs.TraceLemmas.{extends_alike, extends_both, extends_none}

-- symbols that compare as equal are one
symbol_same : (a b : Symbol) → Decides ((compared.ghosts).eq a b) (a ≡ b)
symbol_same (symbols.Nonterminal m) (symbols.Nonterminal n) =
    (λ e. ap symbols.Nonterminal ((same_names m n).0 e), λ e. (same_names m n).1 (let same : m ≡ n = cc in same))
symbol_same (symbols.Nonterminal m) (symbols.Terminal t) = (λ e. cc, λ e. cc)
symbol_same (symbols.Terminal t) (symbols.Nonterminal n) = (λ e. cc, λ e. cc)
symbol_same (symbols.Terminal t) (symbols.Terminal u) =
    (λ e. ap symbols.Terminal ((same_terminals t u).0 e), λ e. (same_terminals t u).1 (let same : t ≡ u = cc in same))

-- the sources of edges by a symbol to a state
pub source_is : (edges : List Edge) (m : ℕ) (x : Symbol) (n : StateIndex) → Contains (sources_of m x edges) n ↔ HasGraphEdge edges n.0 x m
source_is edges m x n = (there, back)
  where
    test : Edge → Bool
    test e = nat_eq e.target m && (compared.ghosts).eq e.symbol x

    there : Contains (sources_of m x edges) n → HasGraphEdge edges n.0 x m
    there h =
        let r : (e : Edge) × Contains (filter (λ (e : Edge). nat_eq e.target m && (compared.ghosts).eq e.symbol x) (reverse edges)) e × (state_index e.source ≡ n) =
        in_map (λ (e : Edge). state_index e.source) (filter (λ (e : Edge). nat_eq e.target m && (compared.ghosts).eq e.symbol x) (reverse edges)) n h in
        let f = in_filter (λ (e : Edge). nat_eq e.target m && (compared.ghosts).eq e.symbol x) (reverse edges) r.0 r.1 in
        let p = both_parts (nat_eq r.0.target m) ((compared.ghosts).eq r.0.symbol x) f.0 in
        let among : Contains edges r.0 =
        Contains-permutation (reverse edges) edges r.0 (IsPermutation-sym edges (reverse edges) (IsPermutation-reverse edges)) f.1 in
        let same : r.0 ≡ edge_of n.0 x m =
        ap (λ k. edge_of k r.0.symbol r.0.target) (ap (λ (k : StateIndex). k.0) r.2)
        ∙ ap (λ y. edge_of n.0 y r.0.target) ((symbol_same r.0.symbol x).0 p.1) ∙ ap (edge_of n.0 x) ((Decides-eqb r.0.target m).0 p.0) in
        subst (Contains edges) same among

    back : HasGraphEdge edges n.0 x m → Contains (sources_of m x edges) n
    back h =
        map_has (λ (e : Edge). state_index e.source) (filter (λ (e : Edge). nat_eq e.target m && (compared.ghosts).eq e.symbol x) (reverse edges))
        (edge_of n.0 x m)
        (filter_has (λ (e : Edge). nat_eq e.target m && (compared.ghosts).eq e.symbol x) (reverse edges) (edge_of n.0 x m)
        (both_true ((Decides-eqb m m).1 refl) ((symbol_same x x).1 refl))
        (Contains-permutation edges (reverse edges) (edge_of n.0 x m) (IsPermutation-reverse edges) h))

-- sources that were stepped to, where some are left
pub record SteppedToSources (all left : List StateIndex) (to : ℕ) (p : theory.Production) (i : ℕ) (c : ℕ) (old new : List TraceNode)
    (before after : TableView) : Type 0 where
  pub done : List StateIndex
  pub parts : (n : StateIndex) → Contains all n ↔ (Contains done n ⊎ Contains left n)
  pub steps : StepsToSources done to p i c old new before after

module _ (all : List StateIndex) (to : ℕ) (p : theory.Production) (i c : ℕ) (old : List TraceNode) (before : TableView) where
  pub stepping_begins : (left : List StateIndex) → left ≡ all → SteppedToSources all left to p i c old old before before
  stepping_begins left is = record {
    done = [];
    parts = λ n. (
      λ h. inr (subst (λ l. Contains l n) (sym is) h),
      λ h. ⊎_elim (λ d. absurd (no_element n d)) (λ d. subst (λ l. Contains l n) is d) h,
    );
    steps = record {
      nodes = extends_none old (λ k. (n : StateIndex) × Contains [] n × (k ≡ node_of_item n.0 p i)) (λ k h. no_element h.0 h.1);
      gains = table_gains_none AddsNothing EntersNowhere (λ k m. (m ≡ to) × ((n : StateIndex) × Contains [] n × (k ≡ n.0))) c before
          (λ m x h. h) (λ m h. h) (λ k m h. no_element h.1.0 h.1.1);
    };
  }

  pub stepping_goes_on : (left rest : List StateIndex) (from : StateIndex) (now new : List TraceNode) (between after : TableView) →
      left ≡ from ∷ rest → SteppedToSources all left to p i c old now before between →
      ExtendsNodes now new (λ k. k ≡ node_of_item from.0 p i) → TableGains AddsNothing EntersNowhere (NotesOne from.0 to) c between after →
      SteppedToSources all rest to p i c old new before after
  stepping_goes_on left rest from now new between after is s ext gains = record {
    done = from ∷ s.done;
    parts = λ n. (
      λ h. ⊎_elim
          (λ d. inl (contains_later from n s.done d))
          (λ l. ⊎_elim
          (λ z. inl (subst (Contains (from ∷ s.done)) z (contains_here from s.done)))
          (λ r. inr r) (contains_split from n rest (subst (λ k. Contains k n) is l))) ((s.parts n).0 h),
      λ h. (s.parts n).1 (⊎_elim
          (λ d. ⊎_elim
          (λ z. inr (subst (λ k. Contains k n) (sym is) (subst (Contains (from ∷ rest)) z (contains_here from rest))))
          (λ r. inl r) (contains_split from n s.done d))
          (λ r. inr (subst (λ k. Contains k n) (sym is) (contains_later from n rest r))) h),
    );
    steps = record {
      nodes = extends_both old now new (λ k. (n : StateIndex) × Contains s.done n × (k ≡ node_of_item n.0 p i)) (λ k. k ≡ node_of_item from.0 p i)
          (λ k. (n : StateIndex) × Contains (from ∷ s.done) n × (k ≡ node_of_item n.0 p i))
          (λ k. (
            λ h. ⊎_elim
                (λ z. inr (h.2 ∙ ap (λ (n : StateIndex). node_of_item n.0 p i) (sym z)))
                (λ d. inl (h.0, d, h.2)) (contains_split from h.0 s.done h.1),
            λ h. ⊎_elim
                (λ d. (d.0, contains_later from d.0 s.done d.1, d.2))
                (λ z. (from, contains_here from s.done, z)) h,
          )) s.steps.nodes ext;
      gains = table_gains_both AddsNothing AddsNothing AddsNothing EntersNowhere EntersNowhere EntersNowhere
          (λ k m. (m ≡ to) × ((n : StateIndex) × Contains s.done n × (k ≡ n.0))) (NotesOne from.0 to)
          (λ k m. (m ≡ to) × ((n : StateIndex) × Contains (from ∷ s.done) n × (k ≡ n.0))) c before between after
          (λ m x. (λ h. inl h, λ h. ⊎_elim (λ z. z) (λ z. z) h)) (λ m. (λ h. inl h, λ h. ⊎_elim (λ z. z) (λ z. z) h))
          (λ k m. (
            λ h. ⊎_elim
                (λ z. inr (h.1.2 ∙ ap (λ (n : StateIndex). n.0) (sym z), h.0))
                (λ d. inl (h.0, (h.1.0, d, h.1.2))) (contains_split from h.1.0 s.done h.1.1),
            λ h. ⊎_elim
                (λ d. (d.0, (d.1.0, contains_later from d.1.0 s.done d.1.1, d.1.2)))
                (λ z. (z.1, (from, contains_here from s.done, z.0))) h,
          )) s.steps.gains gains;
    };
  }

  pub stepping_ends : (left : List StateIndex) (new : List TraceNode) (after : TableView) → left ≡ [] →
      SteppedToSources all left to p i c old new before after → StepsToSources all to p i c old new before after
  stepping_ends left new after is s = record {
    nodes = extends_alike old new (λ k. (n : StateIndex) × Contains s.done n × (k ≡ node_of_item n.0 p i))
        (λ k. (n : StateIndex) × Contains all n × (k ≡ node_of_item n.0 p i))
        (λ k. (λ h. (h.0, (whole h.0).0 h.1, h.2), λ h. (h.0, (whole h.0).1 h.1, h.2))) s.steps.nodes;
    gains = table_gains_alike AddsNothing AddsNothing EntersNowhere EntersNowhere
        (λ k m. (m ≡ to) × ((n : StateIndex) × Contains s.done n × (k ≡ n.0)))
        (λ k m. (m ≡ to) × ((n : StateIndex) × Contains all n × (k ≡ n.0))) c before after (λ m x. (λ h. h, λ h. h)) (λ m. (λ h. h, λ h. h))
        (λ k m. (λ h. (h.0, (h.1.0, (whole h.1.0).0 h.1.1, h.1.2)), λ h. (h.0, (h.1.0, (whole h.1.0).1 h.1.1, h.1.2)))) s.steps.gains;
  }
    where
      whole : (n : StateIndex) → Contains s.done n ↔ Contains all n
      whole n = (
        λ d. (s.parts n).1 (inl d),
        λ h. ⊎_elim (λ d. d) (λ l. absurd (no_element n (subst (λ k. Contains k n) is l))) ((s.parts n).0 h),
      )

-- what stands behind a place of a right side, as it is seen
symbol_seen : (xs : List Symbol) (j : ℕ) (x : Symbol) → slice_get xs j ≡ Some x →
    (b : List theory.Symbol) × (drop j (map production_symbol_view xs) ≡ production_symbol_view x ∷ b)
symbol_seen [] j x e = let w : ⊥ = cc in absurd w
symbol_seen (y ∷ xs) zero x e =
    (map production_symbol_view xs, ap (λ z. production_symbol_view z ∷ map production_symbol_view xs) (some_same y x e))
symbol_seen (y ∷ xs) (suc j) x e = symbol_seen xs j x e

none_behind : (xs : List Symbol) (j : ℕ) (x : theory.Symbol) (b : List theory.Symbol) → length xs ≤ j →
    drop j (map production_symbol_view xs) ≡ x ∷ b → ⊥
none_behind [] zero x b h e = let w : ⊥ = cc in w
none_behind [] (suc j) x b h e = let w : ⊥ = cc in w
none_behind (y ∷ xs) zero x b h e = omega (arith, h)
none_behind (y ∷ xs) (suc j) x b h e = none_behind xs j x b (omega (arith, h)) e

module _ {L : Type 0} (look : L → states.LookaheadSet) (g : Grammar) (s : Text) (all : List (State L)) (m : ℕ) (p : theory.Production)
    (side : List Symbol) (is_side : p.right ≡ map production_symbol_view side) (j : ℕ) where
  module _ (x : Symbol) (at : slice_get side j ≡ Some x) where
    stands : (b : List theory.Symbol) × (drop j p.right ≡ production_symbol_view x ∷ b)
    stands = let r = symbol_seen side j x at in (r.0, ap (drop j) is_side ∙ r.1)

    -- the sources of edges by the symbol are the states from which the item steps back
    pub enters_is : (n : StateIndex) → Contains (sources_of m x (edges_of all)) n ↔ EntersBy (IsProductionOf g) s (TracedItem look g s all) (TracedEdge look g s all) p j n.0 m
    enters_is n = (
      λ h. record {
        symbol = production_symbol_view x;
        rest = stands.0;
        before = stands.1;
        edge = graph_edge_seen look all n.0 x m ((source_is (edges_of all) m x n).0 h);
      },
      λ e. (source_is (edges_of all) m x n).1 (seen_edge_there look all n.0 x m
          (subst (λ y. states.HasEdge (map (lr_state_view look) all) n.0 y m)
          (let z : e.symbol ∷ e.rest ≡ production_symbol_view x ∷ stands.0 = sym e.before ∙ stands.1 in cc) e.edge)),
    )

    pub back_steps : (c : ℕ) (old new : List TraceNode) (before after : TableView) →
        StepsToSources (sources_of m x (edges_of all)) m p j c old new before after →
        TakesSteps look g s all (moved_node m p j) c old new before after
    back_steps c old new before after h = record {
      nodes = extends_alike old new (λ k. (n : StateIndex) × Contains (sources_of m x (edges_of all)) n × (k ≡ node_of_item n.0 p j))
          (NodeLeads (IsProductionOf g) s (TracedItem look g s all) (TracedEdge look g s all) (moved_node m p j))
          (λ k. (λ d. (d.0.0, (enters_is d.0).0 d.1, d.2), λ d. (state_index d.0, (enters_is (state_index d.0)).1 d.1, d.2))) h.nodes;
      gains = table_gains_alike AddsNothing
          (λ n. ByNumber g (NodeAdds (IsProductionOf g) s (TracedItem look g s all) (TracedEdge look g s all) (moved_node m p j) n)) EntersNowhere
          (NodeEnters (IsProductionOf g) s (TracedItem look g s all) (TracedEdge look g s all) (moved_node m p j))
          (λ k n. (n ≡ m) × ((o : StateIndex) × Contains (sources_of m x (edges_of all)) o × (k ≡ o.0)))
          (NodeNotes (IsProductionOf g) s (TracedItem look g s all) (TracedEdge look g s all) (moved_node m p j)) c before after
          (λ n k. (λ d. absurd d, λ d. d.1)) (λ n. (λ d. d, λ d. d))
          (λ k n. (
            λ d. (d.0, subst (λ o. EntersBy (IsProductionOf g) s (TracedItem look g s all) (TracedEdge look g s all) p j o m) (sym d.1.2) ((enters_is d.1.0).0 d.1.1)),
            λ d. (d.0, (state_index k, (enters_is (state_index k)).1 d.1, refl)),
          )) h.gains;
    }

  -- past the end nothing is stepped back over
  pub no_back_steps : length side ≤ j → (c : ℕ) (nodes : List TraceNode) (table : TableView) →
      TakesSteps look g s all (moved_node m p j) c nodes nodes table table
  no_back_steps past c nodes table = record {
    nodes = extends_none nodes (NodeLeads (IsProductionOf g) s (TracedItem look g s all) (TracedEdge look g s all) (moved_node m p j))
        (λ k d. none d.1);
    gains = table_gains_none
        (λ n. ByNumber g (NodeAdds (IsProductionOf g) s (TracedItem look g s all) (TracedEdge look g s all) (moved_node m p j) n))
        (NodeEnters (IsProductionOf g) s (TracedItem look g s all) (TracedEdge look g s all) (moved_node m p j))
        (NodeNotes (IsProductionOf g) s (TracedItem look g s all) (TracedEdge look g s all) (moved_node m p j)) c table
        (λ n k d. d.1) (λ n d. d) (λ k n d. none d.1);
  }
    where
      none : {n : ℕ} → EntersBy (IsProductionOf g) s (TracedItem look g s all) (TracedEdge look g s all) p j n m → ⊥
      none e = none_behind side j e.symbol e.rest past (sym (ap (drop j) is_side) ∙ e.before)
