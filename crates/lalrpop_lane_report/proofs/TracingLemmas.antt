-- Traces in the making: what comes of an item, of the items of a state, of one pair more, and what there is at the end.
use Rattle.std.proofs.Common.{◌≡◌, ◌∙◌, ◌⊎◌, ◌↔◌, ◌<◌, ◌≤◌, ◌+◌, ℕ, zero, suc, List, [], ◌∷◌, ◌++◌, length, refl, sym, ap, subst, inl, inr, ⊎_elim, arith}
use Rattle.std.proofs.Common.{Option, Some, None, Contains, slice_get}
use Rattle.std.proofs.lemmas.List.Elements.{Contains-append_cases, Contains-append_left, Contains-append_right}
use Rattle.std.proofs.lemmas.Option.{slice_get_within}
use Rattle.lalrpop_grammar_symbols.specs.declared.names.NonterminalString.{NonterminalString}
use Rattle.lalrpop_grammar_repr.specs.declared.grammar.Grammar.{Grammar}
use Rattle.lalrpop_grammar_repr.specs.declared.production.Symbol.TheVariants as symbols
use Rattle.lalrpop_lr1_theory.proofs.ListLemmas.{contains_get, contains_here, contains_split, get_contains}
use Rattle.lalrpop_lr1_theory.proofs.NameLemmas.{no_element}
use Rattle.lalrpop_lr1_theory.proofs.StepLemmas.{some_same}
use Rattle.lalrpop_lr1_core.specs.Dots.{at_dot}
use Rattle.lalrpop_lr1_core.specs.declared.item.Item.{Item}
use Rattle.lalrpop_lr1_core.specs.declared.state.State.{State}
use Rattle.lalrpop_lane_report.specs.Backtraces.{AsksFor, Draws, IsEndOf, PrefixLeads, Visits, begins, from_item, from_name, goes_on, to_given}
use Rattle.lalrpop_lane_report.specs.TraceGraphs.{AddsOne, GainsEdge, GraphView, HasLabelledEdge, IsWhole}
use Rattle.lalrpop_lane_report.specs.TraceNodes.{EdgeLabel, GraphNode, TraceEdge, label_of_item, graph_node_of, nonterminal_node}
use Rattle.lalrpop_lane_report.specs.Tracings.{AsksOfItems, DrawnBy, GainsEdgesBy, GainsPairs, GivenEdge, GoesBy, IsTraced, IsBacktracing, ItemEdge, IsTracedTo, Pair, SomeAsking, SomePair, goes, is_given, items_of_number, items_of_state, no_graph, stops}
use Rattle.lalrpop_lane_report.proofs.TraceGraphLemmas.{has_added, place_kept, whole_edge, whole_none}

-- what stands at an old place of a longer list stood there
place_before : {X : Type 0} (old new : List X) → ((j : ℕ) (x : X) → slice_get old j ≡ Some x → slice_get new j ≡ Some x) →
    (j : ℕ) (x : X) → j < length old → slice_get new j ≡ Some x → slice_get old j ≡ Some x
place_before {X = X} old new kept j x h e = go (long old j h)
  where
    long : (l : List X) (i : ℕ) → i < length l → (y : X) × (slice_get l i ≡ Some y)
    long [] i h = absurd (omega (arith, h))
    long (y ∷ l) zero h = (y, refl)
    long (y ∷ l) (suc i) h = long l i (omega (arith, h))

    go : (y : X) × (slice_get old j ≡ Some y) → slice_get old j ≡ Some x
    go p = p.1 ∙ ap (λ z. Some z) (some_same p.0 x (sym (kept j p.0 p.1) ∙ e))

-- pairs that come
pub no_pair : (old : List Pair) (Came : Pair → Type 0) → ((p : Pair) → Came p → ⊥) → GainsPairs old Came old
no_pair old Came none = record {
  kept = λ j p at. at;
  pairs = λ p. (λ c. inl c, λ c. ⊎_elim (λ d. d) (λ d. absurd (none p d)) c);
}

pub one_pair : (old new : List Pair) (q : Pair) → AddsOne old q new → GainsPairs old (λ p. q ≡ p) new
one_pair old new q a = record { kept = λ j p at. place_kept old new q p j a at; pairs = λ p. has_added old new q p a }

pub both_pairs : (old middle new : List Pair) (P Q R : Pair → Type 0) → ((p : Pair) → R p ↔ (P p ⊎ Q p)) → GainsPairs old P middle →
    GainsPairs middle Q new → GainsPairs old R new
both_pairs old middle new P Q R both f g = record {
  kept = λ j p at. g.kept j p (f.kept j p at);
  pairs = λ p. (
    λ h. ⊎_elim (λ m. ⊎_elim (λ o. inl o) (λ c. inr ((both p).1 (inl c))) ((f.pairs p).0 m)) (λ c. inr ((both p).1 (inr c))) ((g.pairs p).0 h),
    λ h. ⊎_elim (λ o. (g.pairs p).1 (inl ((f.pairs p).1 (inl o))))
        (λ r. ⊎_elim (λ c. (g.pairs p).1 (inl ((f.pairs p).1 (inr c)))) (λ c. (g.pairs p).1 (inr c)) ((both p).0 r)) h,
  );
}

pub alike_pairs : (old new : List Pair) (P Q : Pair → Type 0) → ((p : Pair) → P p ↔ Q p) → GainsPairs old P new → GainsPairs old Q new
alike_pairs old new P Q alike f = record {
  kept = f.kept;
  pairs = λ p. (
    λ h. ⊎_elim (λ o. inl o) (λ c. inr ((alike p).0 c)) ((f.pairs p).0 h),
    λ h. ⊎_elim (λ o. (f.pairs p).1 (inl o)) (λ c. (f.pairs p).1 (inr ((alike p).1 c))) h,
  );
}

-- edges that come
abbrev EdgeRelation : Type 1
EdgeRelation = GraphNode → GraphNode → EdgeLabel → Type 0

ends_alike : (P Q : EdgeRelation) → ((x y : GraphNode) (label : EdgeLabel) → P x y label → Q x y label) → (z : GraphNode) → IsEndOf P z → IsEndOf Q z
ends_alike P Q alike z h =
    ⊎_elim (λ e. inl (e.0, e.1, alike z e.0 e.1 e.2)) (λ e. inr (e.0, e.1, alike e.0 z e.1 e.2)) h

pub no_edge : (graph : GraphView) → IsWhole graph → (Came : EdgeRelation) → ((x y : GraphNode) (label : EdgeLabel) → Came x y label → ⊥) →
    GainsEdgesBy graph Came graph
no_edge graph whole Came none = record {
  whole = whole;
  edges = λ x y label. (λ c. inl c, λ c. ⊎_elim (λ d. d) (λ d. absurd (none x y label d)) c);
  nodes = λ z. (
    λ c. inl c,
    λ c. ⊎_elim (λ d. d) (λ d. ⊎_elim (λ e. absurd (none z e.0 e.1 e.2)) (λ e. absurd (none e.0 z e.1 e.2)) d) c,
  );
}

pub both_edges : (old middle new : GraphView) (P Q R : EdgeRelation) →
    ((x y : GraphNode) (label : EdgeLabel) → R x y label ↔ (P x y label ⊎ Q x y label)) → GainsEdgesBy old P middle → GainsEdgesBy middle Q new →
    GainsEdgesBy old R new
both_edges old middle new P Q R both f g = record {
  whole = g.whole;
  edges = λ x y l. (
    λ h. ⊎_elim (λ m. ⊎_elim (λ o. inl o) (λ c. inr ((both x y l).1 (inl c))) ((f.edges x y l).0 m)) (λ c. inr ((both x y l).1 (inr c)))
        ((g.edges x y l).0 h),
    λ h. ⊎_elim (λ o. (g.edges x y l).1 (inl ((f.edges x y l).1 (inl o))))
        (λ r. ⊎_elim (λ c. (g.edges x y l).1 (inl ((f.edges x y l).1 (inr c)))) (λ c. (g.edges x y l).1 (inr c)) ((both x y l).0 r)) h,
  );
  nodes = λ z. (
    λ h. ⊎_elim
        (λ m. ⊎_elim (λ o. inl o) (λ c. inr (ends_alike P R (λ x y l p. (both x y l).1 (inl p)) z c)) ((f.nodes z).0 m))
        (λ c. inr (ends_alike Q R (λ x y l q. (both x y l).1 (inr q)) z c)) ((g.nodes z).0 h),
    λ h. ⊎_elim (λ o. (g.nodes z).1 (inl ((f.nodes z).1 (inl o)))) (λ r. parted z r) h,
  );
}
  where
    left : (z : GraphNode) → IsEndOf P z → Contains new.nodes z
    left z c = (g.nodes z).1 (inl ((f.nodes z).1 (inr c)))

    right : (z : GraphNode) → IsEndOf Q z → Contains new.nodes z
    right z c = (g.nodes z).1 (inr c)

    parted : (z : GraphNode) → IsEndOf R z → Contains new.nodes z
    parted z r =
        ⊎_elim (λ e. ⊎_elim (λ p. left z (inl (e.0, e.1, p))) (λ q. right z (inl (e.0, e.1, q))) ((both z e.0 e.1).0 e.2))
        (λ e. ⊎_elim (λ p. left z (inr (e.0, e.1, p))) (λ q. right z (inr (e.0, e.1, q))) ((both e.0 z e.1).0 e.2)) r

pub alike_edges : (old new : GraphView) (P Q : EdgeRelation) → ((x y : GraphNode) (label : EdgeLabel) → P x y label ↔ Q x y label) →
    GainsEdgesBy old P new → GainsEdgesBy old Q new
alike_edges old new P Q alike f = record {
  whole = f.whole;
  edges = λ x y l. (
    λ h. ⊎_elim (λ o. inl o) (λ c. inr ((alike x y l).0 c)) ((f.edges x y l).0 h),
    λ h. ⊎_elim (λ o. (f.edges x y l).1 (inl o)) (λ c. (f.edges x y l).1 (inr ((alike x y l).1 c))) h,
  );
  nodes = λ z. (
    λ h. ⊎_elim (λ o. inl o) (λ c. inr (ends_alike P Q (λ x y l p. (alike x y l).0 p) z c)) ((f.nodes z).0 h),
    λ h. ⊎_elim (λ o. (f.nodes z).1 (inl o)) (λ c. (f.nodes z).1 (inr (ends_alike Q P (λ x y l q. (alike x y l).1 q) z c))) h,
  );
}

abbrev edge_at : ℕ → ℕ → EdgeLabel → TraceEdge
edge_at n m l = record { from = n; to = m; label = l }

-- this edge alone
pub data OneEdge (x y : GraphNode) (label : EdgeLabel) : GraphNode → GraphNode → EdgeLabel → Type 0 where
  this : OneEdge x y label x y label

one_of : (x y u v : GraphNode) (label l : EdgeLabel) → x ≡ u → y ≡ v → label ≡ l → OneEdge x y label u v l
one_of x y u v label l a b c =
    subst (λ z. OneEdge x y label z v l) a (subst (λ z. OneEdge x y label x z l) b (subst (λ z. OneEdge x y label x y z) c this))

pub one_edge : (old new : GraphView) (x y : GraphNode) (label : EdgeLabel) → IsWhole old → GainsEdge old x y label new →
    GainsEdgesBy old (OneEdge x y label) new
one_edge old new x y label whole a = record {
  whole = whole_edge old new x y label whole a;
  edges = λ u v l. (there u v l, back u v l);
  nodes = λ z. (
    λ c. ⊎_elim (λ d. ⊎_elim (λ o. inl o) (λ e. inr (inl (y, label, one_of x y z y label label e refl refl)))
        ((has_added old.nodes a.between x z a.source.node).0 d))
        (λ e. inr (inr (x, label, one_of x y x z label label refl e refl))) ((has_added a.between new.nodes y z a.target.node).0 c),
    λ c. ⊎_elim (λ o. kept_node z o) (λ e. ended z e) c,
  );
}
  where
    kept : (k : ℕ) (z : GraphNode) → slice_get old.nodes k ≡ Some z → slice_get new.nodes k ≡ Some z
    kept k z at = place_kept a.between new.nodes y z k a.target.node (place_kept old.nodes a.between x z k a.source.node at)

    kept_node : (z : GraphNode) → Contains old.nodes z → Contains new.nodes z
    kept_node z c = (has_added a.between new.nodes y z a.target.node).1 (inl ((has_added old.nodes a.between x z a.source.node).1 (inl c)))

    at_source : slice_get new.nodes a.from ≡ Some x
    at_source = place_kept a.between new.nodes y x a.from a.target.node a.source.place

    source_in : Contains new.nodes x
    source_in = get_contains new.nodes a.from x at_source

    target_in : Contains new.nodes y
    target_in = get_contains new.nodes a.to y a.target.place

    first_end : (u v : GraphNode) (l : EdgeLabel) → OneEdge x y label u v l → Contains new.nodes u
    first_end u v l this = source_in

    second_end : (u v : GraphNode) (l : EdgeLabel) → OneEdge x y label u v l → Contains new.nodes v
    second_end u v l this = target_in

    ended : (z : GraphNode) → IsEndOf (OneEdge x y label) z → Contains new.nodes z
    ended z c = ⊎_elim (λ e. first_end z e.0 e.1 e.2) (λ e. second_end e.0 z e.1 e.2) c

    there : (u v : GraphNode) (l : EdgeLabel) → HasLabelledEdge new u v l → HasLabelledEdge old u v l ⊎ OneEdge x y label u v l
    there u v l h =
        ⊎_elim
        (λ c. inl (record {
          from = h.from;
          to = h.to;
          source = place_before old.nodes new.nodes kept h.from u (whole.from_within (record { from = h.from; to = h.to; label = l }) c) h.source;
          target = place_before old.nodes new.nodes kept h.to v (whole.to_within (record { from = h.from; to = h.to; label = l }) c) h.target;
          edge = c;
        }))
        (λ e. inr (one_of x y u v label l
        (some_same x u (sym at_source ∙ ap (λ (d : TraceEdge). slice_get new.nodes d.from) e ∙ h.source))
        (some_same y v (sym a.target.place ∙ ap (λ (d : TraceEdge). slice_get new.nodes d.to) e ∙ h.target))
        (ap (λ (d : TraceEdge). d.label) e)))
        ((has_added old.edges new.edges (edge_at a.from a.to label) (record { from = h.from; to = h.to; label = l }) a.edge).0 h.edge)

    this_there : (u v : GraphNode) (l : EdgeLabel) → OneEdge x y label u v l → HasLabelledEdge new u v l
    this_there u v l this = record {
      from = a.from;
      to = a.to;
      source = at_source;
      target = a.target.place;
      edge = (has_added old.edges new.edges (edge_at a.from a.to label) (edge_at a.from a.to label) a.edge).1 (inr refl);
    }

    back : (u v : GraphNode) (l : EdgeLabel) → HasLabelledEdge old u v l ⊎ OneEdge x y label u v l → HasLabelledEdge new u v l
    back u v l c =
        ⊎_elim
        (λ h. record {
          from = h.from;
          to = h.to;
          source = kept h.from u h.source;
          target = kept h.to v h.target;
          edge = (has_added old.edges new.edges (edge_at a.from a.to label) (record { from = h.from; to = h.to; label = l }) a.edge).1 (inl h.edge);
        }) (λ e. this_there u v l e) c

module _ {L : Type 0} (states : List (State L)) (by : Option Grammar) where
  -- no item, one item, and items of two lists
  some_of_none : (X : NonterminalString) (Says : Item L → Type 0) → SomeAsking states by X [] Says → ⊥
  some_of_none X Says h = no_element h.0 h.1

  some_of_one : (X : NonterminalString) (item : Item L) (Says : Item L → Type 0) →
      SomeAsking states by X (item ∷ []) Says ↔ ((at_dot item ≡ Some (symbols.Nonterminal X)) × Says item)
  some_of_one X item Says = (
    λ h. ⊎_elim
        (λ e. (ap (λ (i : Item L). at_dot i) e ∙ h.2, subst Says (sym e) h.3))
        (λ z. absurd (no_element h.0 z)) (contains_split item h.0 [] h.1),
    λ h. (item, contains_here item [], h.0, h.1),
  )

  some_of_both : (X : NonterminalString) (xs ys : List (Item L)) (Says : Item L → Type 0) →
      SomeAsking states by X (xs ++ ys) Says ↔ (SomeAsking states by X xs Says ⊎ SomeAsking states by X ys Says)
  some_of_both X xs ys Says = (
    λ h. ⊎_elim (λ c. inl (h.0, c, h.2, h.3)) (λ c. inr (h.0, c, h.2, h.3)) (Contains-append_cases xs ys h.0 h.1),
    λ h. ⊎_elim (λ o. (o.0, Contains-append_left xs ys o.0 o.1, o.2, o.3)) (λ o. (o.0, Contains-append_right xs ys o.0 o.1, o.2, o.3)) h,
  )

  module _ (p : Pair) where
    abbrev Led : List (Item L) → Pair → Type 0
    Led items q = SomeAsking states by p.1 items (IsTracedTo states by p.0 q)

    abbrev Drawn : List (Item L) → GraphNode → GraphNode → EdgeLabel → Type 0
    Drawn items x y label = SomeAsking states by p.1 items (λ item. ItemEdge states by p.1 item x y label)

    pub asks_none : (visited : List Pair) (graph : GraphView) → IsWhole graph → AsksOfItems states by p [] visited visited graph graph
    asks_none visited graph whole = record {
      pairs = no_pair visited (Led []) (λ q h. some_of_none p.1 (IsTracedTo states by p.0 q) h);
      edges = no_edge graph whole (Drawn []) (λ x y l h. some_of_none p.1 (λ item. ItemEdge states by p.1 item x y l) h);
    }

    pub asks_both : (xs ys : List (Item L)) (old middle new : List Pair) (before between after : GraphView) →
        AsksOfItems states by p xs old middle before between → AsksOfItems states by p ys middle new between after →
        AsksOfItems states by p (xs ++ ys) old new before after
    asks_both xs ys old middle new before between after f g = record {
      pairs = both_pairs old middle new (Led xs) (Led ys) (Led (xs ++ ys)) (λ q. some_of_both p.1 xs ys (IsTracedTo states by p.0 q)) f.pairs g.pairs;
      edges = both_edges before between after (Drawn xs) (Drawn ys) (Drawn (xs ++ ys))
          (λ x y l. some_of_both p.1 xs ys (λ item. ItemEdge states by p.1 item x y l)) f.edges g.edges;
    }

    module _ (item : Item L) where
      -- an item that doesn't ask for the nonterminal
      pub asks_other : (at_dot item ≡ Some (symbols.Nonterminal p.1) → ⊥) → (visited : List Pair) (graph : GraphView) → IsWhole graph →
          AsksOfItems states by p (item ∷ []) visited visited graph graph
      asks_other other visited graph whole = record {
        pairs = no_pair visited (Led (item ∷ [])) (λ q h. other ((some_of_one p.1 item (IsTracedTo states by p.0 q)).0 h).0);
        edges = no_edge graph whole (Drawn (item ∷ []))
            (λ x y l h. other ((some_of_one p.1 item (λ i. ItemEdge states by p.1 i x y l)).0 h).0);
      }

      module _ (asks : at_dot item ≡ Some (symbols.Nonterminal p.1)) where
        -- one from which the trace doesn't go on
        stop_edge : (GoesBy by item → ⊥) → (x y : GraphNode) (l : EdgeLabel) →
            OneEdge (graph_node_of item) (nonterminal_node p.1) (label_of_item item) x y l ↔ Drawn (item ∷ []) x y l
        stop_edge stop x y l = (
          λ h. (some_of_one p.1 item (λ i. ItemEdge states by p.1 i x y l)).1 (asks, drawn x y l h),
          λ h. one x y l ((some_of_one p.1 item (λ i. ItemEdge states by p.1 i x y l)).0 h).1,
        )
          where
            drawn : (x y : GraphNode) (l : EdgeLabel) → OneEdge (graph_node_of item) (nonterminal_node p.1) (label_of_item item) x y l →
                ItemEdge states by p.1 item x y l
            drawn x y l this = stops stop

            one : (x y : GraphNode) (l : EdgeLabel) → ItemEdge states by p.1 item x y l →
                OneEdge (graph_node_of item) (nonterminal_node p.1) (label_of_item item) x y l
            one x y l (stops s) = this
            one x y l (goes g) = absurd (stop g)

        pub asks_stops : (GoesBy by item → ⊥) → (visited : List Pair) (before after : GraphView) → IsWhole before →
            GainsEdge before (graph_node_of item) (nonterminal_node p.1) (label_of_item item) after →
            AsksOfItems states by p (item ∷ []) visited visited before after
        asks_stops stop visited before after whole gains = record {
          pairs = no_pair visited (Led (item ∷ [])) (λ q h. stop ((some_of_one p.1 item (IsTracedTo states by p.0 q)).0 h).1.0);
          edges = alike_edges before after (OneEdge (graph_node_of item) (nonterminal_node p.1) (label_of_item item)) (Drawn (item ∷ []))
              (stop_edge stop)
              (one_edge before after (graph_node_of item) (nonterminal_node p.1) (label_of_item item) whole gains);
        }

        -- one from which it goes on
        go_edge : GoesBy by item → (x y : GraphNode) (l : EdgeLabel) →
            OneEdge (nonterminal_node item.production.now.nonterminal) (nonterminal_node p.1) (label_of_item item) x y l ↔ Drawn (item ∷ []) x y l
        go_edge go x y l = (
          λ h. (some_of_one p.1 item (λ i. ItemEdge states by p.1 i x y l)).1 (asks, drawn x y l h),
          λ h. one x y l ((some_of_one p.1 item (λ i. ItemEdge states by p.1 i x y l)).0 h).1,
        )
          where
            drawn : (x y : GraphNode) (l : EdgeLabel) →
                OneEdge (nonterminal_node item.production.now.nonterminal) (nonterminal_node p.1) (label_of_item item) x y l →
                ItemEdge states by p.1 item x y l
            drawn x y l this = goes go

            one : (x y : GraphNode) (l : EdgeLabel) → ItemEdge states by p.1 item x y l →
                OneEdge (nonterminal_node item.production.now.nonterminal) (nonterminal_node p.1) (label_of_item item) x y l
            one x y l (stops s) = absurd (s go)
            one x y l (goes g) = this

        pub asks_goes : GoesBy by item → (old new : List Pair) (before after : GraphView) → IsWhole before →
            GainsEdge before (nonterminal_node item.production.now.nonterminal) (nonterminal_node p.1) (label_of_item item) after →
            GainsPairs old (λ q. PrefixLeads states q.0 item p.0 × (q.1 ≡ item.production.now.nonterminal)) new →
            AsksOfItems states by p (item ∷ []) old new before after
        asks_goes go old new before after whole gains pairs = record {
          pairs = alike_pairs old new (λ q. PrefixLeads states q.0 item p.0 × (q.1 ≡ item.production.now.nonterminal)) (Led (item ∷ []))
              (λ q. (
                λ h. (some_of_one p.1 item (IsTracedTo states by p.0 q)).1 (asks, (go, h.0, h.1)),
                λ h. let r = ((some_of_one p.1 item (IsTracedTo states by p.0 q)).0 h).1 in (r.1, r.2),
              )) pairs;
          edges = alike_edges before after (OneEdge (nonterminal_node item.production.now.nonterminal) (nonterminal_node p.1) (label_of_item item))
              (Drawn (item ∷ [])) (go_edge go)
              (one_edge before after (nonterminal_node item.production.now.nonterminal) (nonterminal_node p.1) (label_of_item item) whole gains);
        }

-- one of the first pairs more
place_of : (j number : ℕ) → j < number + 1 → (j < number) ⊎ (j ≡ number)
place_of j number h = grind arith

some_more : (Says : Pair → Type 0) (old new : List Pair) (number : ℕ) (p : Pair) →
    ((j : ℕ) (x : Pair) → slice_get old j ≡ Some x → slice_get new j ≡ Some x) → slice_get old number ≡ Some p →
    SomePair Says new (number + 1) ↔ (SomePair Says old number ⊎ Says p)
some_more Says old new number p kept at = (
  λ h. ⊎_elim
      (λ b. inl (h.0, h.1, b, place_before old new kept h.0 h.1 (omega (arith, b, slice_get_within old number p at)) h.3, h.4))
      (λ e. inr (subst Says (some_same h.1 p (sym h.3 ∙ ap (slice_get new) e ∙ kept number p at)) h.4))
      (place_of h.0 number h.2),
  λ h. ⊎_elim
      (λ o. (o.0, o.1, omega (arith, o.2), kept o.0 o.1 o.3, o.4))
      (λ s. (number, p, omega arith, kept number p at, s)) h,
)

some_of_first : (Says : Pair → Type 0) (visited : List Pair) → SomePair Says visited 0 → ⊥
some_of_first Says visited h = omega (arith, h.2)

module _ {L M : Type 0} (states : List (State L)) (by : Option Grammar) (n : ℕ) (given : Item M) where
  abbrev Visited : ℕ → NonterminalString → Type 0
  Visited = Visits states (λ item. GoesBy by item) n given

  abbrev AllDrawn : GraphNode → GraphNode → EdgeLabel → Type 0
  AllDrawn = Draws states (λ item. GoesBy by item) n given

  abbrev SoFar : List Pair → ℕ → GraphNode → GraphNode → EdgeLabel → Type 0
  SoFar visited count x y label = DrawnBy states by n given visited count x y label

  asking : (m : ℕ) (X : NonterminalString) (item : Item L) → Contains (items_of_number states m) item → at_dot item ≡ Some (symbols.Nonterminal X) →
      AsksFor states m X item
  asking m X item c before = go (slice_get states m) refl c
    where
      go : (o : Option (State L)) → slice_get states m ≡ o → Contains (items_of_state o) item → AsksFor states m X item
      go None e d = absurd (no_element item d)
      go (Some state) e d = record { state = state; at = e; item_in = d; before = before }

  asked_in : (m : ℕ) (X : NonterminalString) (item : Item L) → AsksFor states m X item → Contains (items_of_number states m) item
  asked_in m X item asks = subst (λ (o : Option (State L)). Contains (items_of_state o) item) (sym asks.at) asks.item_in

  -- the given item's edge
  given_edge : (x y : GraphNode) (l : EdgeLabel) →
      OneEdge (nonterminal_node given.production.now.nonterminal) (graph_node_of given) (label_of_item given) x y l → GivenEdge given x y l
  given_edge x y l this = is_given

  given_one : (x y : GraphNode) (l : EdgeLabel) → GivenEdge given x y l →
      OneEdge (nonterminal_node given.production.now.nonterminal) (graph_node_of given) (label_of_item given) x y l
  given_one x y l is_given = this

  abbrev Given : GraphNode → GraphNode → EdgeLabel → Type 0
  Given = OneEdge (nonterminal_node given.production.now.nonterminal) (graph_node_of given) (label_of_item given)

  abbrev Asked : Pair → GraphNode → GraphNode → EdgeLabel → Type 0
  Asked p x y l = SomeAsking states by p.1 (items_of_number states p.0) (λ item. ItemEdge states by p.1 item x y l)

  abbrev LedBy : Pair → Pair → Type 0
  LedBy q p = SomeAsking states by p.1 (items_of_number states p.0) (IsTracedTo states by p.0 q)

  begun_there : (p : Pair) → PrefixLeads states p.0 given n → p.1 ≡ given.production.now.nonterminal → Visited p.0 p.1
  begun_there p leads same = subst (λ X. Visited p.0 X) (sym same) (begins p.0 leads)

  pub tracing_begins : (visited : List Pair) (graph : GraphView) →
      GainsEdge no_graph (nonterminal_node given.production.now.nonterminal) (graph_node_of given) (label_of_item given) graph →
      GainsPairs [] (λ q. PrefixLeads states q.0 given n × (q.1 ≡ given.production.now.nonterminal)) visited →
      IsBacktracing states by n given visited 0 graph
  tracing_begins visited graph gains pairs = record {
    visits = λ p c. ⊎_elim (λ d. absurd (no_element p d)) (λ d. begun_there p d.0 d.1) ((pairs.pairs p).0 c);
    begun = λ m leads. (pairs.pairs (m, given.production.now.nonterminal)).1 (inr (leads, refl));
    led = λ q h. absurd (some_of_first (LedBy q) visited h);
    drawn = alike_edges no_graph graph Given (SoFar visited 0)
        (λ x y l. (
          λ e. inl (given_edge x y l e),
          λ h. ⊎_elim (λ e. given_one x y l e) (λ s. absurd (some_of_first (λ p. Asked p x y l) visited s)) h,
        ))
        (one_edge no_graph graph (nonterminal_node given.production.now.nonterminal) (graph_node_of given) (label_of_item given)
        (whole_none [] [] refl refl) gains);
  }

  -- the items of one pair's state were asked
  pub tracing_goes_on : (visited new : List Pair) (number : ℕ) (p : Pair) (graph after : GraphView) →
      IsBacktracing states by n given visited number graph → slice_get visited number ≡ Some p →
      AsksOfItems states by p (items_of_number states p.0) visited new graph after → IsBacktracing states by n given new (number + 1) after
  tracing_goes_on visited new number p graph after t at asks = record {
    visits = λ q c. ⊎_elim (λ o. t.visits q o)
        (λ s. subst (λ X. Visited q.0 X) (sym s.3.2)
        (goes_on p.0 q.0 p.1 s.0 (t.visits p (get_contains visited number p at)) (asking p.0 p.1 s.0 s.1 s.2) s.3.0 s.3.1))
        ((asks.pairs.pairs q).0 c);
    begun = λ m leads. (asks.pairs.pairs (m, given.production.now.nonterminal)).1 (inl (t.begun m leads));
    led = λ q h. ⊎_elim (λ o. (asks.pairs.pairs q).1 (inl (t.led q o))) (λ s. (asks.pairs.pairs q).1 (inr s))
        ((some_more (LedBy q) visited new number p asks.pairs.kept at).0 h);
    drawn = both_edges no_graph graph after (SoFar visited number) (Asked p) (SoFar new (number + 1))
        (λ x y l.
        let more = some_more (λ r. Asked r x y l) visited new number p asks.pairs.kept at in (
          λ h. ⊎_elim (λ g. inl (inl g)) (λ s. ⊎_elim (λ o. inl (inr o)) (λ a. inr a) (more.0 s)) h,
          λ h. ⊎_elim (λ d. ⊎_elim (λ g. inl g) (λ o. inr (more.1 (inl o))) d) (λ a. inr (more.1 (inr a))) h,
        )) t.drawn asks.edges;
  }

  -- those of all were
  module _ (visited : List Pair) (number : ℕ) (graph : GraphView) (past : length visited ≤ number)
      (t : IsBacktracing states by n given visited number graph) where
    some_of : (Says : Pair → Type 0) (p : Pair) → Contains visited p → Says p → SomePair Says visited number
    some_of Says p c says = go (contains_get visited p c)
      where
        go : (k : ℕ) × (slice_get visited k ≡ Some p) → SomePair Says visited number
        go g = let h = slice_get_within visited g.0 p g.1 in (g.0, p, omega (arith, h, past), g.1, says)

    all_visited : (m : ℕ) (X : NonterminalString) → Visited m X → Contains visited (m, X)
    all_visited m X (begins k leads) = t.begun m leads
    all_visited m X (goes_on k j Y item before asks go leads) =
        t.led (m, X) (some_of (LedBy (m, X)) (k, Y) (all_visited k Y before) (item, asked_in k Y item asks, asks.before, (go, leads, refl)))

    drawn_is : (m : ℕ) (X : NonterminalString) (item : Item L) → Visited m X → AsksFor states m X item → (x y : GraphNode) (l : EdgeLabel) →
        ItemEdge states by X item x y l → AllDrawn x y l
    drawn_is m X item visits asks x y l (stops s) = from_item m X item visits asks s
    drawn_is m X item visits asks x y l (goes g) = from_name m X item visits asks g

    all_there : (x y : GraphNode) (l : EdgeLabel) → AllDrawn x y l → SoFar visited number x y l
    all_there x y l to_given = inl is_given
    all_there x y l (from_item m X item visits asks s) =
        inr (some_of (λ p. Asked p x y l) (m, X) (all_visited m X visits) (item, asked_in m X item asks, asks.before, stops s))
    all_there x y l (from_name m X item visits asks g) =
        inr (some_of (λ p. Asked p x y l) (m, X) (all_visited m X visits) (item, asked_in m X item asks, asks.before, goes g))

    given_there : (x y : GraphNode) (l : EdgeLabel) → GivenEdge given x y l → AllDrawn x y l
    given_there x y l is_given = to_given

    pub tracing_ends : IsTraced states by n given graph
    tracing_ends =
        let all = alike_edges no_graph graph (SoFar visited number) AllDrawn
        (λ x y l. (
          λ h. ⊎_elim (λ g. given_there x y l g)
              (λ s. drawn_is s.1.0 s.1.1 s.4.0 (t.visits s.1 (get_contains visited s.0 s.1 s.3)) (asking s.1.0 s.1.1 s.4.0 s.4.1 s.4.2) x y l s.4.3) h,
          λ h. all_there x y l h,
        )) t.drawn in
        record {
          edges = λ x y l. (
            λ h. ⊎_elim (λ o. absurd (no_element (record { from = o.from; to = o.to; label = l }) o.edge)) (λ d. d) ((all.edges x y l).0 h),
            λ d. (all.edges x y l).1 (inr d),
          );
          nodes = λ z. (
            λ c. ⊎_elim (λ o. absurd (no_element z o)) (λ e. e) ((all.nodes z).0 c),
            λ e. (all.nodes z).1 (inr e),
          );
          edges_once = all.whole.edges_once;
          nodes_once = all.whole.nodes_once;
        }
