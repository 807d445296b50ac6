-- The edges of the graph of states are those that the theory of tables sees.
use Rattle.std.proofs.Common.{◌≡◌, ◌∙◌, ℕ, zero, suc, ◌+◌, ◌⊎◌, inl, inr, ⊎_elim, List, [], ◌∷◌}
use Rattle.std.proofs.Common.{◌++◌, map, Some, Contains}
use Rattle.std.proofs.Common.{ap, sym, subst, arith}
use Rattle.std.specs.Prelude.{flat_map, slice_get}
use Rattle.std.specs.List.{enumerate_from}
use Rattle.std.proofs.lemmas.List.Elements.{Contains-append_cases, Contains-append_left, Contains-append_right}
use Rattle.lalrpop_grammar_symbols.specs.Views.{terminal_view}
use Rattle.lalrpop_grammar_symbols.specs.declared.names.NonterminalString.{NonterminalString}
use Rattle.lalrpop_grammar_symbols.specs.declared.terminal.TerminalString.{TerminalString}
use Rattle.lalrpop_grammar_repr.specs.declared.production.Symbol.{Symbol}
use Rattle.lalrpop_grammar_repr.specs.declared.production.Symbol.TheVariants as symbols
use Rattle.lalrpop_lr1_theory.specs.States as states
use Rattle.lalrpop_lr1_theory.proofs.ListLemmas.{contains_here, contains_later, contains_split}
use Rattle.lalrpop_lr1_core.specs.Edges.{HasGraphEdge, edge_of, edges_of, goto_edge, shift_edge, state_edges}
use Rattle.lalrpop_lr1_core.specs.Views.{goto_view, lr_state_view, production_symbol_view, shift_view}
use Rattle.lalrpop_lr1_core.specs.declared.edge.Edge.{Edge}
use Rattle.lalrpop_lr1_core.specs.declared.state.State.{State}
use Rattle.lalrpop_lr1_core.specs.declared.state_index.StateIndex.{StateIndex}
use Rattle.lalrpop_lr1_core.proofs.MemberLemmas.{in_map, map_has}
use Rattle.lalrpop_lr1_core.proofs.NoConflictLemmas.{at_mapped, mapped_at, same_terminal}
use Rattle.lalrpop_lr1_theory.proofs.NameLemmas.{no_element}

-- what comes of a list comes of one of its elements
pub in_flat : {X Y : Type 0} (f : X → List Y) (xs : List X) (y : Y) → Contains (flat_map f xs) y
    → (x : X) × Contains xs x × Contains (f x) y
in_flat f [] y c = absurd (no_element y c)
in_flat {X = X} f (z ∷ zs) y c = go (in_flat f zs y) (Contains-append_cases (f z) (flat_map f zs) y c)
  where
    go : (Contains (flat_map f zs) y → (x : X) × Contains zs x × Contains (f x) y) → Contains (f z) y ⊎ Contains (flat_map f zs) y
        → (x : X) × Contains (z ∷ zs) x × Contains (f x) y
    go deeper (inl d) = (z, contains_here z zs, d)
    go deeper (inr d) = let r : (x : X) × Contains zs x × Contains (f x) y = deeper d in (r.0, contains_later z r.0 zs r.1, r.2)

pub flat_has : {X Y : Type 0} (f : X → List Y) (xs : List X) (x : X) (y : Y) → Contains xs x → Contains (f x) y
    → Contains (flat_map f xs) y
flat_has f [] x y c d = absurd (no_element x c)
flat_has f (z ∷ zs) x y c d = go (flat_has f zs x y) (contains_split z x zs c)
  where
    go : (Contains zs x → Contains (f x) y → Contains (flat_map f zs) y) → (z ≡ x) ⊎ Contains zs x
        → Contains (f z ++ flat_map f zs) y
    go deeper (inl e) = Contains-append_left (f z) (flat_map f zs) y (subst (λ u. Contains (f u) y) (sym e) d)
    go deeper (inr r) = Contains-append_right (f z) (flat_map f zs) y (deeper r d)

-- a list with places: each element at its place
pub in_places : {X : Type 0} (n : ℕ) (xs : List X) (p : ℕ × X) → Contains (enumerate_from n xs) p
    → (k : ℕ) × (p.0 ≡ n + k) × (slice_get xs k ≡ Some p.1)
in_places n [] p c = absurd (no_element p c)
in_places {X = X} n (x ∷ xs) p c = go (in_places (n + 1) xs p) (contains_split (n, x) p (enumerate_from (n + 1) xs) c)
  where
    go : (Contains (enumerate_from (n + 1) xs) p → (k : ℕ) × (p.0 ≡ n + 1 + k) × (slice_get xs k ≡ Some p.1))
        → ((n, x) ≡ p) ⊎ Contains (enumerate_from (n + 1) xs) p
        → (k : ℕ) × (p.0 ≡ n + k) × (slice_get (x ∷ xs) k ≡ Some p.1)
    go deeper (inl e) = let first : n ≡ p.0 = ap (λ q. q.0) e in (0, omega arith, ap (λ q. Some q.1) e)
    go deeper (inr d) =
        let r : (k : ℕ) × (p.0 ≡ n + 1 + k) × (slice_get xs k ≡ Some p.1) = deeper d in (suc r.0, omega (arith, r.1), r.2)

pub places_have : {X : Type 0} (n : ℕ) (xs : List X) (k : ℕ) (x : X) → slice_get xs k ≡ Some x
    → Contains (enumerate_from n xs) (n + k, x)
places_have n [] k x e = let w : ⊥ = cc in absurd w
places_have n (y ∷ ys) zero x e =
    let same : y ≡ x = cc in
    let place : n ≡ n + 0 = omega arith in
    subst (λ p. Contains ((n, y) ∷ enumerate_from (n + 1) ys) p) (ap (λ m. (m, y)) place ∙ ap (λ z. (n + 0, z)) same)
    (contains_here (n, y) (enumerate_from (n + 1) ys))
places_have n (y ∷ ys) (suc k) x e =
    let place : n + 1 + k ≡ n + suc k = omega arith in
    contains_later (n, y) (n + suc k, x) (enumerate_from (n + 1) ys)
    (subst (λ m. Contains (enumerate_from (n + 1) ys) (m, x)) place (places_have (n + 1) ys k x e))

-- an edge of the graph is one of the states
pub graph_edge_seen : {L : Type 0} (look : L → states.LookaheadSet) (all : List (State L)) (n : ℕ) (x : Symbol) (m : ℕ)
    → HasGraphEdge (edges_of all) n x m → states.HasEdge (map (lr_state_view look) all) n (production_symbol_view x) m
graph_edge_seen {L = L} look all n x m edge =
    let r : (p : ℕ × State L) × Contains (enumerate_from 0 all) p × Contains (state_edges p) (edge_of n x m) =
    in_flat state_edges (enumerate_from 0 all) (edge_of n x m) edge in
    let place : (k : ℕ) × (r.0.0 ≡ 0 + k) × (slice_get all k ≡ Some r.0.1) = in_places 0 all r.0 r.1 in
    let at : slice_get all r.0.0 ≡ Some r.0.1 =
    let same : place.0 ≡ r.0.0 = omega (arith, place.1) in subst (λ k. slice_get all k ≡ Some r.0.1) same place.2 in
    ⊎_elim (by_shift r.0.0 r.0.1 at) (by_goto r.0.0 r.0.1 at)
    (Contains-append_cases (map (shift_edge r.0.0) r.0.1.shifts) (map (goto_edge r.0.0) r.0.1.gotos) (edge_of n x m) r.2)
  where
    Seen : Type 0
    Seen = states.HasEdge (map (lr_state_view look) all) n (production_symbol_view x) m

    view : (k : ℕ) (s : State L) → slice_get all k ≡ Some s → k ≡ n
        → slice_get (map (lr_state_view look) all) n ≡ Some (lr_state_view look s)
    view k s at same = subst (λ j. slice_get (map (lr_state_view look) all) j ≡ Some (lr_state_view look s)) same
        (mapped_at (lr_state_view look) all k s at)

    by_shift : (k : ℕ) (s : State L) → slice_get all k ≡ Some s → Contains (map (shift_edge k) s.shifts) (edge_of n x m) → Seen
    by_shift k s at c =
        let e : (e : TerminalString × StateIndex) × Contains s.shifts e × (shift_edge k e ≡ edge_of n x m) =
        in_map (shift_edge k) s.shifts (edge_of n x m) c in
        let target : e.0.1.0 ≡ m = ap (λ f. f.target) e.2 in
        let leads : Contains (map shift_view s.shifts) (terminal_view e.0.0, m) =
        subst (λ j. Contains (map shift_view s.shifts) (terminal_view e.0.0, j)) target (map_has shift_view s.shifts e.0 e.1) in
        let symbol : symbols.Terminal e.0.0 ≡ x = ap (λ f. f.symbol) e.2 in
        subst (λ y. states.HasEdge (map (lr_state_view look) all) n (production_symbol_view y) m) symbol
        (lr_state_view look s, view k s at (ap (λ f. f.source) e.2), leads)

    by_goto : (k : ℕ) (s : State L) → slice_get all k ≡ Some s → Contains (map (goto_edge k) s.gotos) (edge_of n x m) → Seen
    by_goto k s at c =
        let e : (e : NonterminalString × StateIndex) × Contains s.gotos e × (goto_edge k e ≡ edge_of n x m) =
        in_map (goto_edge k) s.gotos (edge_of n x m) c in
        let target : e.0.1.0 ≡ m = ap (λ f. f.target) e.2 in
        let leads : Contains (map goto_view s.gotos) (e.0.0.0, m) =
        subst (λ j. Contains (map goto_view s.gotos) (e.0.0.0, j)) target (map_has goto_view s.gotos e.0 e.1) in
        let symbol : symbols.Nonterminal e.0.0 ≡ x = ap (λ f. f.symbol) e.2 in
        subst (λ y. states.HasEdge (map (lr_state_view look) all) n (production_symbol_view y) m) symbol
        (lr_state_view look s, view k s at (ap (λ f. f.source) e.2), leads)

-- an edge of the state at a place is one of the graph
edge_at : {L : Type 0} (all : List (State L)) (n : ℕ) (s : State L) (e : Edge) → slice_get all n ≡ Some s
    → Contains (state_edges (n, s)) e → Contains (edges_of all) e
edge_at {L = L} all n s e at there =
    let zero_more : 0 + n ≡ n = omega arith in
    flat_has state_edges (enumerate_from 0 all) (n, s) e
    (subst (λ k. Contains {X = ℕ × State L} (enumerate_from 0 all) (k, s)) zero_more (places_have 0 all n s at)) there

-- an edge of the states is one of the graph
pub seen_edge_there : {L : Type 0} (look : L → states.LookaheadSet) (all : List (State L)) (n : ℕ) (x : Symbol) (m : ℕ)
    → states.HasEdge (map (lr_state_view look) all) n (production_symbol_view x) m → HasGraphEdge (edges_of all) n x m
seen_edge_there {L = L} look all n (symbols.Terminal t) m edge =
    let s : (s : State L) × (slice_get all n ≡ Some s) × (lr_state_view look s ≡ edge.0) =
    at_mapped (lr_state_view look) all n edge.0 edge.1 in
    let shifts : Contains (map shift_view s.0.shifts) (terminal_view t, m) =
    subst (λ v. Contains v.shifts (terminal_view t, m)) (sym s.2) edge.2 in
    let e : (e : TerminalString × StateIndex) × Contains s.0.shifts e × (shift_view e ≡ (terminal_view t, m)) =
    in_map shift_view s.0.shifts (terminal_view t, m) shifts in
    let symbol : e.0.0 ≡ t = same_terminal e.0.0 t (ap (λ p. p.0) e.2) in
    let target : e.0.1.0 ≡ m = ap (λ p. p.1) e.2 in
    let same : shift_edge n e.0 ≡ edge_of n (symbols.Terminal t) m =
    ap (λ u. edge_of n (symbols.Terminal u) e.0.1.0) symbol ∙ ap (edge_of n (symbols.Terminal t)) target in
    edge_at all n s.0 (edge_of n (symbols.Terminal t) m) s.1
    (Contains-append_left (map (shift_edge n) s.0.shifts) (map (goto_edge n) s.0.gotos) (edge_of n (symbols.Terminal t) m)
    (subst (Contains (map (shift_edge n) s.0.shifts)) same (map_has (shift_edge n) s.0.shifts e.0 e.1)))
seen_edge_there {L = L} look all n (symbols.Nonterminal A) m edge =
    let s : (s : State L) × (slice_get all n ≡ Some s) × (lr_state_view look s ≡ edge.0) =
    at_mapped (lr_state_view look) all n edge.0 edge.1 in
    let gotos : Contains (map goto_view s.0.gotos) (A.0, m) = subst (λ v. Contains v.gotos (A.0, m)) (sym s.2) edge.2 in
    let e : (e : NonterminalString × StateIndex) × Contains s.0.gotos e × (goto_view e ≡ (A.0, m)) =
    in_map goto_view s.0.gotos (A.0, m) gotos in
    let symbol : e.0.0 ≡ A = name_same e.0.0 A (ap (λ p. p.0) e.2) in
    let target : e.0.1.0 ≡ m = ap (λ p. p.1) e.2 in
    let same : goto_edge n e.0 ≡ edge_of n (symbols.Nonterminal A) m =
    ap (λ u. edge_of n (symbols.Nonterminal u) e.0.1.0) symbol ∙ ap (edge_of n (symbols.Nonterminal A)) target in
    edge_at all n s.0 (edge_of n (symbols.Nonterminal A) m) s.1
    (Contains-append_right (map (shift_edge n) s.0.shifts) (map (goto_edge n) s.0.gotos) (edge_of n (symbols.Nonterminal A) m)
    (subst (Contains (map (goto_edge n) s.0.gotos)) same (map_has (goto_edge n) s.0.gotos e.0 e.1)))
  where
    name_same : (a b : NonterminalString) → a.0 ≡ b.0 → a ≡ b
    name_same a b e = let named : List ℕ → NonterminalString = λ t. record { 0 = t } in ap named e
