-- Nodes and edges that compare as equal are seen as one, and one comes where none that is equal was.
use Rattle.std.proofs.Common.{◌≡◌, ◌∙◌, ◌||◌, ℕ, zero, suc, Bool, true, false, List, [], ◌∷◌, ◌++◌, map, refl, sym, ap, subst, inl, inr, ◌⊎◌}
use Rattle.std.proofs.Common.{Option, None, Some, Contains, nat_eq, slice_get, get_or, length, ◌<◌, arith}
use Rattle.std.specs.Borrow.{Bor}
use Rattle.std.specs.Bool.{Decides}
use Rattle.std.specs.Cmp.Derive.{both_true}
use Rattle.std.specs.Cmp.Lexicographic.{pointwise}
use Rattle.std.specs.List.{list_any, position}
use Rattle.std.proofs.lemmas.List.{map-append}
use Rattle.std.proofs.lemmas.List.Quantifiers.{position-Some}
use Rattle.std.specs.Option.{option_copied, option_eq}
use Rattle.std.specs.Prelude.{if◌then◌else◌}
use Rattle.std.proofs.lemmas.Bool.Decides.{Decides-eqb}
use Rattle.std.proofs.lemmas.Slice.Eq.{slice_eq-Decides}
use Rattle.lalrpop_grammar_repr.specs.contracts.production.ProductionPartialEq.TheImpl as productions
use Rattle.lalrpop_grammar_repr.specs.contracts.production.SymbolPartialEq.TheImpl as compared
use Rattle.lalrpop_grammar_repr.specs.declared.production.Production.{Production}
use Rattle.lalrpop_grammar_repr.specs.declared.production.Symbol.{Symbol}
use Rattle.lalrpop_grammar_repr.specs.declared.production.Symbol.TheVariants as symbols
use Rattle.lalrpop_grammar_repr.proofs.EqualLemmas.{both_parts, same_names, same_productions, same_terminals}
use Rattle.lalrpop_lr1_theory.proofs.ListLemmas.{contains_here, contains_later, contains_split}
use Rattle.lalrpop_lr1_theory.proofs.NameLemmas.{no_element}
use Rattle.lalrpop_lr1_theory.proofs.StepLemmas.{some_same}
use Rattle.lalrpop_lr1_core.specs.contracts.symbol_sets.SymbolSetsPartialEq.TheImpl as sets
use Rattle.lalrpop_lr1_core.specs.declared.symbol_sets.SymbolSets.{SymbolSets}
use Rattle.lalrpop_lane_report.specs.contracts.traces.trace_graph.TraceGraphEdgePartialEq.TheImpl as edges
use Rattle.lalrpop_lane_report.specs.contracts.traces.trace_graph.TraceGraphNodePartialEq.TheImpl as nodes
use Rattle.lalrpop_lane_report.specs.declared.traces.trace_graph.TraceGraphEdge.{TraceGraphEdge}
use Rattle.lalrpop_lane_report.specs.declared.traces.trace_graph.TraceGraphNode.{TraceGraphNode}
use Rattle.lalrpop_lane_report.specs.declared.traces.trace_graph.TraceGraphNode.TheVariants.{Item, Nonterminal}
use Rattle.lalrpop_lane_report.specs.TraceGraphs.{AddsOne, PlacesNode}
use Rattle.lalrpop_lane_report.specs.TraceNodes.{EdgeLabel, TraceEdge, trace_edge_view, item_node, label_view, node_view, nonterminal_node}

same_symbol : (a b : Symbol) → Decides ((compared.ghosts).eq a b) (a ≡ b)
same_symbol (symbols.Nonterminal m) (symbols.Nonterminal n) =
    (λ e. ap symbols.Nonterminal ((same_names m n).0 e), λ e. (same_names m n).1 (let same : m ≡ n = cc in same))
same_symbol (symbols.Nonterminal m) (symbols.Terminal t) = (λ e. cc, λ e. cc)
same_symbol (symbols.Terminal t) (symbols.Nonterminal n) = (λ e. cc, λ e. cc)
same_symbol (symbols.Terminal t) (symbols.Terminal u) =
    (λ e. ap symbols.Terminal ((same_terminals t u).0 e), λ e. (same_terminals t u).1 (let same : t ≡ u = cc in same))

same_side : (xs ys : List Symbol) → Decides (pointwise (compared.ghosts).eq xs ys) (xs ≡ ys)
same_side xs ys = slice_eq-Decides same_symbol xs ys (pointwise (compared.ghosts).eq xs ys) refl

same_cursor : (c d : Option (Bor Symbol)) →
    Decides (option_eq (λ (x y : Bor Symbol). (compared.ghosts).eq x.now y.now) c d) (option_copied c ≡ option_copied d)
same_cursor None None = (λ e. refl, λ e. refl)
same_cursor None (Some y) = (λ e. let w : ⊥ = cc in absurd w, λ e. let w : ⊥ = cc in absurd w)
same_cursor (Some x) None = (λ e. let w : ⊥ = cc in absurd w, λ e. let w : ⊥ = cc in absurd w)
same_cursor (Some x) (Some y) = (λ e. ap Some ((same_symbol x.now y.now).0 e), λ e. (same_symbol x.now y.now).1 (some_same x.now y.now e))

abbrev label_with : List Symbol → Option Symbol → List Symbol → EdgeLabel
label_with p c s = record { prefix = p; cursor = c; suffix = s }

-- right sides that compare as equal are seen as one
pub same_sets : (a b : SymbolSets) → Decides ((sets.ghosts).eq a b) (label_view a ≡ label_view b)
same_sets a b = (
  λ e.
      let x = both_parts (pointwise (compared.ghosts).eq a.prefix.now b.prefix.now) _ e in
      let y = both_parts (option_eq (λ (s t : Bor Symbol). (compared.ghosts).eq s.now t.now) a.cursor b.cursor) _ x.1 in
      ap (λ p. label_with p (option_copied a.cursor) a.suffix.now) ((same_side a.prefix.now b.prefix.now).0 x.0)
      ∙ ap (λ c. label_with b.prefix.now c a.suffix.now) ((same_cursor a.cursor b.cursor).0 y.0)
      ∙ ap (label_with b.prefix.now (option_copied b.cursor)) ((same_side a.suffix.now b.suffix.now).0 y.1),
  λ e. both_true ((same_side a.prefix.now b.prefix.now).1 (ap (λ (l : EdgeLabel). l.prefix) e))
      (both_true ((same_cursor a.cursor b.cursor).1 (ap (λ (l : EdgeLabel). l.cursor) e))
      ((same_side a.suffix.now b.suffix.now).1 (ap (λ (l : EdgeLabel). l.suffix) e))),
)

abbrev edge_with : ℕ → ℕ → EdgeLabel → TraceEdge
edge_with n m l = record { from = n; to = m; label = l }

-- edges that compare as equal are seen as one
pub same_edges : (a b : TraceGraphEdge) → Decides ((edges.ghosts).eq a b) (trace_edge_view a ≡ trace_edge_view b)
same_edges a b = (
  λ e.
      let x = both_parts (nat_eq a.from b.from) _ e in
      let y = both_parts (nat_eq a.to b.to) _ x.1 in
      ap (λ n. edge_with n a.to (label_view a.labels)) ((Decides-eqb a.from b.from).0 x.0)
      ∙ ap (λ n. edge_with b.from n (label_view a.labels)) ((Decides-eqb a.to b.to).0 y.0)
      ∙ ap (edge_with b.from b.to) ((same_sets a.labels b.labels).0 y.1),
  λ e. both_true ((Decides-eqb a.from b.from).1 (ap (λ (d : TraceEdge). d.from) e))
      (both_true ((Decides-eqb a.to b.to).1 (ap (λ (d : TraceEdge). d.to) e))
      ((same_sets a.labels b.labels).1 (ap (λ (d : TraceEdge). d.label) e))),
)

-- nodes that compare as equal are seen as one
pub same_nodes : (a b : TraceGraphNode) → Decides ((nodes.ghosts).eq a b) (node_view a ≡ node_view b)
same_nodes (Nonterminal m) (Nonterminal n) =
    (λ e. ap nonterminal_node ((same_names m n).0 e), λ e. (same_names m n).1 (let same : m ≡ n = cc in same))
same_nodes (Nonterminal m) (Item i) = (λ e. let w : ⊥ = cc in absurd w, λ e. let w : ⊥ = cc in absurd w)
same_nodes (Item i) (Nonterminal n) = (λ e. let w : ⊥ = cc in absurd w, λ e. let w : ⊥ = cc in absurd w)
same_nodes (Item i) (Item j) = (
  λ e.
      let x = both_parts ((productions.ghosts).eq i.production.now j.production.now) _ e in
      let y = both_parts (nat_eq i.index j.index) _ x.1 in
      ap (λ (p : Production). item_node p i.index) ((same_productions i.production.now j.production.now).0 x.0)
      ∙ ap (item_node j.production.now) ((Decides-eqb i.index j.index).0 y.0),
  λ e.
      let p : i.production.now ≡ j.production.now = cc in
      let k : i.index ≡ j.index = cc in
      both_true ((same_productions i.production.now j.production.now).1 p) (both_true ((Decides-eqb i.index j.index).1 k) refl),
)

module _ {X Y : Type 0} (f : X → Y) (eq : X → X → Bool) (same : (a b : X) → Decides (eq a b) (f a ≡ f b)) where
  -- an element that passes as equal is there, and the other way round
  pub any_there : (ks : List X) (k : X) → list_any (eq k) ks ≡ true → Contains (map f ks) (f k)
  any_there [] k e = let z : ⊥ = cc in absurd z
  any_there (y ∷ ks) k e = go (eq k y) refl e (any_there ks k)
    where
      go : (b : Bool) → eq k y ≡ b → (b || list_any (eq k) ks) ≡ true →
          (list_any (eq k) ks ≡ true → Contains (map f ks) (f k)) → Contains (f y ∷ map f ks) (f k)
      go true h g rec = subst (Contains (f y ∷ map f ks)) (sym ((same k y).0 h)) (contains_here (f y) (map f ks))
      go false h g rec = contains_later (f y) (f k) (map f ks) (rec g)

  pub there_any : (ks : List X) (k : X) → Contains (map f ks) (f k) → list_any (eq k) ks ≡ true
  there_any [] k c = absurd (no_element (f k) c)
  there_any (y ∷ ks) k c = go (eq k y) refl (there_any ks k) (contains_split (f y) (f k) (map f ks) c)
    where
      go : (b : Bool) → eq k y ≡ b → (Contains (map f ks) (f k) → list_any (eq k) ks ≡ true) →
          (f y ≡ f k) ⊎ Contains (map f ks) (f k) → (b || list_any (eq k) ks) ≡ true
      go true h rec d = refl
      go false h rec (inl e) =
          let z : eq k y ≡ true = (same k y).1 (sym e) in
          let w : ⊥ = cc in
          absurd w
      go false h rec (inr d) = rec d

  -- one comes, where none that is equal stands
  pub adds_key : (ks ys : List X) (k : X) → ys ≡ (if list_any (eq k) ks then ks else ks ++ k ∷ []) → AddsOne (map f ks) (f k) (map f ys)
  adds_key ks ys k e = go (list_any (eq k) ks) refl e
    where
      go : (b : Bool) → list_any (eq k) ks ≡ b → ys ≡ (if b then ks else ks ++ k ∷ []) → AddsOne (map f ks) (f k) (map f ys)
      go true h g = inl (any_there ks k h, ap (map f) g)
      go false h g = inr (
        λ c. let z : true ≡ false = sym (there_any ks k c) ∙ h in let w : ⊥ = cc in w,
        ap (map f) g ∙ map-append f ks (k ∷ []),
      )

  -- the place of one that passes as equal
  pub place_seen : (ys : List X) (place : ℕ) (k stored : X) → slice_get ys place ≡ Some stored → eq k stored ≡ true →
      slice_get (map f ys) place ≡ Some (f k)
  place_seen [] place k stored at e = let w : ⊥ = cc in absurd w
  place_seen (y ∷ ys) zero k stored at e = ap Some (ap f (some_same y stored at) ∙ sym ((same k stored).0 e))
  place_seen (y ∷ ys) (suc place) k stored at e = place_seen ys place k stored at e

-- a node is put in
pub puts_node : (ks ys : List TraceGraphNode) (node : TraceGraphNode) (k : ℕ) →
    ys ≡ (if list_any ((nodes.ghosts).eq node) ks then ks else ks ++ node ∷ []) →
    ((stored : TraceGraphNode) × (slice_get ys k ≡ Some stored) × ((nodes.ghosts).eq node stored ≡ true)) →
    PlacesNode (map node_view ks) (node_view node) k (map node_view ys)
puts_node ks ys node k keys at = record {
  node = adds_key node_view (nodes.ghosts).eq same_nodes ks ys node keys;
  place = place_seen node_view (nodes.ghosts).eq same_nodes ys k node at.0 at.1 at.2;
}

-- the place of a node that is found
some_at : {X : Type 0} (xs : List X) (k : ℕ) → k < length xs → (x : X) × (slice_get xs k ≡ Some x) × ((d : X) → get_or xs k d ≡ x)
some_at [] k h = absurd (omega (arith, h))
some_at (x ∷ xs) zero h = (x, refl, λ d. refl)
some_at (x ∷ xs) (suc k) h = some_at xs k (omega (arith, h))

pub place_found : (ks : List TraceGraphNode) (node : TraceGraphNode) (k : ℕ) → position ((nodes.ghosts).eq node) ks ≡ Some k →
    slice_get (map node_view ks) k ≡ Some (node_view node)
place_found ks node k e =
    let h = position-Some ((nodes.ghosts).eq node) ks k node e in
    let at = some_at ks k h.0 in
    place_seen node_view (nodes.ghosts).eq same_nodes ks k node at.0 at.1 (ap ((nodes.ghosts).eq node) (sym (at.2 node)) ∙ h.1)
