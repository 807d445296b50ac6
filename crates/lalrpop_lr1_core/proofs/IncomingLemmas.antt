-- Edges are found by the states to which they lead: what is noted of one edge more, and what is given of those to one state.
use Rattle.std.proofs.Common.{◌≡◌, ◌∙◌, ◌++◌, ◌∷◌, [], ◌⊎◌, ◌<◌, ◌≤◌, ◌+◌, ℕ, Bool, true, false, cond, List, Some}
use Rattle.std.proofs.Common.{ap, append-nil, arith, get_or, inl, inr, length, map, refl, set, sym, subst, take, zero, suc, append_assoc, drop, length-append}
use Rattle.std.proofs.lemmas.Bool.Decides.{eqb_tells}
use Rattle.std.proofs.lemmas.List.{get_or-replicate, get_or-set_other, get_or-set_same, length-replicate, length-set, reverse-append, take_at, take_more}
use Rattle.std.proofs.lemmas.List.{take-append-drop}
use Rattle.std.proofs.lemmas.List.Elements.{filter-append}
use Rattle.std.proofs.lemmas.Option.{get_or_from_slice_get, slice_get-get_or, slice_get_within}
use Rattle.std.specs.Prelude.{◌==◌, ◌&&◌, filter, replicate, reverse, slice_get}
use Rattle.lalrpop_grammar_repr.specs.contracts.production.SymbolPartialEq.TheImpl as compared
use Rattle.lalrpop_grammar_repr.specs.declared.production.Symbol.{Symbol}
use Rattle.lalrpop_lr1_core.specs.Edges.{sources_of, state_index}
use Rattle.lalrpop_lr1_core.specs.declared.edge.Edge.{Edge}
use Rattle.lalrpop_lr1_core.specs.declared.state_index.StateIndex.{StateIndex}
use Rattle.lalrpop_lr1_core.specs.IncomingEdges.{HasNewest, HasPrevious, HaveAllTo, edges_to}
use Rattle.lalrpop_lr1_theory.proofs.ListLemmas.{get_split}
use Rattle.lalrpop_lr1_theory.proofs.PlaceLemmas.{slice_get-append}
use Rattle.lalrpop_lr1_theory.proofs.StepLemmas.{some_same}

-- an edge to another state adds none
to_another : (m : ℕ) (edges : List Edge) (e : Edge) → e.target == m ≡ false → edges_to m (edges ++ e ∷ []) ≡ edges_to m edges
to_another m edges e other =
    filter-append (λ (x : Edge). x.target == m) edges (e ∷ []) ∙ go (e.target == m) other
  where
    go : (b : Bool) → b ≡ false → edges_to m edges ++ cond b (e ∷ []) [] ≡ edges_to m edges
    go b is = rw is (append-nil (edges_to m edges))

-- what a list has at a place where nothing was set
get_unset : {X : Type 0} (xs : List X) (n m : ℕ) (x y : X) → (m ≡ n → ⊥) → slice_get (set xs n x) m ≡ Some y → slice_get xs m ≡ Some y
get_unset xs n m x y other found =
    let within : m < length (set xs n x) = slice_get_within (set xs n x) m y found in
    let below : m < length xs = subst (λ (k : ℕ). m < k) (length-set xs n x) within in
    slice_get-get_or xs m y below
    ∙ ap Some (sym (get_or-set_other xs n m x y other) ∙ get_or_from_slice_get (set xs n x) m y y found)

-- and where something was
get_set : {X : Type 0} (xs : List X) (n : ℕ) (x y : X) → slice_get (set xs n x) n ≡ Some y → y ≡ x
get_set xs n x y found =
    let within : n < length (set xs n x) = slice_get_within (set xs n x) n y found in
    let below : n < length xs = subst (λ (k : ℕ). n < k) (length-set xs n x) within in
    sym (get_or_from_slice_get (set xs n x) n y y found) ∙ get_or-set_same xs n x y below

-- before the first edge the newest of each state is none
pub newest_begins : (edges : List Edge) (states : ℕ) → HasNewest edges 0 (replicate states 0)
newest_begins edges states m k found =
    let fewest : 0 ≤ 0 = omega arith in
    let begins : HaveAllTo m edges 0 0 = (fewest, refl) in
    let within : m < length (replicate states 0) = slice_get_within (replicate states 0) m k found in
    let below : m < states = subst (λ (l : ℕ). m < l) (length-replicate states 0) within in
    let none : k ≡ 0 =
    sym (get_or_from_slice_get (replicate states 0) m k k found) ∙ get_or-replicate states m 0 k below in
    subst (HaveAllTo m edges 0) (sym none) begins

-- the edge in a place is the newest that leads to its state
pub newest_goes_on : (edges : List Edge) (place : ℕ) (e : Edge) (newest : List ℕ) → place < length edges → e ≡ get_or edges place e
    → HasNewest edges place newest → HasNewest edges (place + 1) (set newest e.target (place + 1))
newest_goes_on edges place e newest below is has m k found = go (eqb_tells e.target m)
  where
    more : take (place + 1) edges ≡ take place edges ++ e ∷ []
    more = take_more edges place e below ∙ ap (λ (x : Edge). take place edges ++ x ∷ []) (sym is)

    go : ((e.target == m ≡ true) × (e.target ≡ m)) ⊎ ((e.target == m ≡ false) × (e.target ≡ m → ⊥)) → HaveAllTo m edges (place + 1) k
    go (inl at) =
        let itself : slice_get (set newest m (place + 1)) m ≡ Some k =
        subst (λ (t : ℕ). slice_get (set newest t (place + 1)) m ≡ Some k) at.1 found in
        let as_many : place + 1 ≤ place + 1 = omega arith in
        let all : HaveAllTo m edges (place + 1) (place + 1) = (as_many, refl) in
        subst (HaveAllTo m edges (place + 1)) (sym (get_set newest m (place + 1) k itself)) all
    go (inr at) =
        let before : HaveAllTo m edges place k =
        has m k (get_unset newest e.target m (place + 1) k (λ h. at.1 (sym h)) found) in
        let fewer : k ≤ place = before.0 in
        (omega (arith, fewer), before.1 ∙ sym (ap (edges_to m) more ∙ to_another m (take place edges) e at.0))

-- before the edge in a place is what was noted of its state so far
pub previous_noted : (edges : List Edge) (place : ℕ) (e : Edge) (newest : List ℕ) → e ≡ get_or edges place e
    → HasNewest edges place newest → e.target < length newest → (edge : Edge) → slice_get edges place ≡ Some edge
    → HaveAllTo edge.target edges place (get_or newest e.target 0)
previous_noted edges place e newest is has within edge at =
    let same : e ≡ edge = is ∙ get_or_from_slice_get edges place edge e at in
    subst (λ (x : Edge). HaveAllTo x.target edges place (get_or newest e.target 0)) same
    (has e.target (get_or newest e.target 0) (slice_get-get_or newest e.target 0 within))

-- one edge more
pub previous_goes_on : (edges : List Edge) (place k : ℕ) (previous : List ℕ) → length previous ≡ place
    → ((edge : Edge) → slice_get edges place ≡ Some edge → HaveAllTo edge.target edges place k) → HasPrevious edges previous
    → HasPrevious edges (previous ++ k ∷ [])
previous_goes_on edges place k previous count noted has n j e at found = go (get_split previous (k ∷ []) n j found)
  where
    last : (i : ℕ) → n ≡ length previous + i → slice_get (k ∷ []) i ≡ Some j → HaveAllTo e.target edges n j
    last zero f g =
        let here : place ≡ n = omega (arith, f, count) in
        let same : k ≡ j = some_same k j g in
        subst (HaveAllTo e.target edges n) same
        (subst (λ (p : ℕ). HaveAllTo e.target edges p k) here
        (noted e (subst (λ (p : ℕ). slice_get edges p ≡ Some e) (sym here) at)))
    last (suc i) f g = let z : ⊥ = cc in absurd z

    go : (slice_get previous n ≡ Some j) ⊎ ((i : ℕ) × (n ≡ length previous + i) × (slice_get (k ∷ []) i ≡ Some j))
        → HaveAllTo e.target edges n j
    go (inl h) = has n j e at h
    go (inr h) = last h.0 h.1 h.2

-- what passes of a list turned round
filter_reverse : {X : Type 0} (p : X → Bool) (xs : List X) → filter p (reverse xs) ≡ reverse (filter p xs)
filter_reverse p [] = refl
filter_reverse {X = X} p (x ∷ xs) =
    ap (filter p) (reverse-append (x ∷ []) xs) ∙ filter-append p (reverse xs) (x ∷ [])
    ∙ ap (λ (l : List X). l ++ filter p (x ∷ [])) (filter_reverse p xs) ∙ go (p x)
  where
    go : (b : Bool) → reverse (filter p xs) ++ cond b (x ∷ []) [] ≡ reverse (cond b (x ∷ filter p xs) (filter p xs))
    go true = sym (reverse-append (x ∷ []) (filter p xs))
    go false = append-nil (reverse (filter p xs))

-- of the edges to a state those by a symbol are those of all edges
pub sources_by_target : (m : ℕ) (x : Symbol) (edges : List Edge) → sources_of m x (edges_to m edges) ≡ sources_of m x edges
sources_by_target m x edges =
    ap (map (λ (e : Edge). state_index e.source)) (filter_reverse by_symbol (edges_to m edges)
    ∙ ap reverse (both edges) ∙ sym (filter_reverse by_symbol edges))
  where
    by_symbol : Edge → Bool
    by_symbol e = e.target == m && (compared.ghosts).eq e.symbol x

    both : (es : List Edge) → filter by_symbol (edges_to m es) ≡ filter by_symbol es
    both [] = refl
    both (e ∷ es) = go (e.target == m) refl (both es)
      where
        go : (b : Bool) → e.target == m ≡ b → filter by_symbol (edges_to m es) ≡ filter by_symbol es
            → filter by_symbol (cond b (e ∷ edges_to m es) (edges_to m es)) ≡ cond (by_symbol e) (e ∷ filter by_symbol es) (filter by_symbol es)
        go true is rest = ap (λ (xs : List Edge). cond (by_symbol e) (e ∷ xs) xs) rest
        go false is rest = rest ∙ passed (by_symbol e) (rw is refl)
          where
            passed : (c : Bool) → c ≡ false → filter by_symbol es ≡ cond c (e ∷ filter by_symbol es) (filter by_symbol es)
            passed c other = rw other refl

-- the sources are those of the edges to the state
pub sources_by_edges_to : (m : ℕ) (x : Symbol) (es fs : List Edge) → edges_to m es ≡ edges_to m fs → sources_of m x es ≡ sources_of m x fs
sources_by_edges_to m x es fs same =
    sym (sources_by_target m x es) ∙ ap (sources_of m x) same ∙ sources_by_target m x fs

-- what the newest edge gives, and then those before it
pub newest_gives : (m : ℕ) (x : Symbol) (es before : List Edge) (e : Edge) → edges_to m es ≡ edges_to m (before ++ e ∷ [])
    → sources_of m x es
    ≡ cond (e.target == m && (compared.ghosts).eq e.symbol x) (state_index e.source ∷ sources_of m x before) (sources_of m x before)
newest_gives m x es before e same =
    sources_by_edges_to m x es (before ++ e ∷ []) same
    ∙ ap (λ (l : List Edge). map source (filter by_symbol l)) (reverse-append before (e ∷ [])) ∙ go (by_symbol e)
  where
    source : Edge → StateIndex
    source it = state_index it.source

    by_symbol : Edge → Bool
    by_symbol it = it.target == m && (compared.ghosts).eq it.symbol x

    go : (b : Bool) → map source (cond b (e ∷ filter by_symbol (reverse before)) (filter by_symbol (reverse before)))
        ≡ cond b (source e ∷ map source (filter by_symbol (reverse before))) (map source (filter by_symbol (reverse before)))
    go true = refl
    go false = refl

-- the newest edge is one of those by the symbol to the state
pub newest_taken : (m : ℕ) (x : Symbol) (es before : List Edge) (e : Edge) → edges_to m es ≡ edges_to m (before ++ e ∷ [])
    → e.target ≡ m → (compared.ghosts).eq e.symbol x ≡ true → sources_of m x es ≡ state_index e.source ∷ sources_of m x before
newest_taken m x es before e same at by = newest_gives m x es before e same ∙ go (eqb_tells e.target m)
  where
    go : ((e.target == m ≡ true) × (e.target ≡ m)) ⊎ ((e.target == m ≡ false) × (e.target ≡ m → ⊥))
        → cond (e.target == m && (compared.ghosts).eq e.symbol x) (state_index e.source ∷ sources_of m x before) (sources_of m x before)
        ≡ state_index e.source ∷ sources_of m x before
    go (inl is) = rw is.0 (rw by refl)
    go (inr not) = absurd (not.1 at)

-- or it is by another symbol
pub newest_passed : (m : ℕ) (x : Symbol) (es before : List Edge) (e : Edge) → edges_to m es ≡ edges_to m (before ++ e ∷ [])
    → (compared.ghosts).eq e.symbol x ≡ false → sources_of m x es ≡ sources_of m x before
newest_passed m x es before e same by = newest_gives m x es before e same ∙ go (e.target == m)
  where
    go : (b : Bool) → cond (b && (compared.ghosts).eq e.symbol x) (state_index e.source ∷ sources_of m x before) (sources_of m x before)
        ≡ sources_of m x before
    go true = rw by refl
    go false = refl

-- or to another state
pub newest_elsewhere : (m : ℕ) (x : Symbol) (es before : List Edge) (e : Edge) → edges_to m es ≡ edges_to m (before ++ e ∷ [])
    → (e.target ≡ m → ⊥) → sources_of m x es ≡ sources_of m x before
newest_elsewhere m x es before e same other = newest_gives m x es before e same ∙ go (eqb_tells e.target m)
  where
    go : ((e.target == m ≡ true) × (e.target ≡ m)) ⊎ ((e.target == m ≡ false) × (e.target ≡ m → ⊥))
        → cond (e.target == m && (compared.ghosts).eq e.symbol x) (state_index e.source ∷ sources_of m x before) (sources_of m x before)
        ≡ sources_of m x before
    go (inl is) = absurd (other is.1)
    go (inr not) = rw not.0 refl

-- what is before the newest of the first so many edges, where all to a state are among the first p of those before it
pub newest_among : (m n k p : ℕ) (e : Edge) (edges : List Edge) → take n edges ≡ take p edges ++ e ∷ [] → HaveAllTo m edges p k
    → edges_to m (take n edges) ≡ edges_to m (take k edges ++ e ∷ [])
newest_among m n k p e edges is all =
    ap (edges_to m) is ∙ filter-append by_target (take p edges) (e ∷ [])
    ∙ ap (λ (l : List Edge). l ++ edges_to m (e ∷ [])) (sym all.1) ∙ sym (filter-append by_target (take k edges) (e ∷ []))
  where
    by_target : Edge → Bool
    by_target it = it.target == m

-- the last of the first so many edges stands behind the others of them
pub last_of_front : (n : ℕ) (edges others : List Edge) (e : Edge) → take n edges ≡ others ++ e ∷ []
    → (slice_get edges (length others) ≡ Some e) × (take n edges ≡ take (length others) edges ++ e ∷ [])
    × (length others < length (take n edges))
last_of_front n edges others e front = (
  ap (λ (l : List Edge). slice_get l (length others)) whole ∙ slice_get-append others (e ∷ drop n edges) 0 (length others) (omega arith),
  front ∙ ap (λ (l : List Edge). l ++ e ∷ []) (sym (ap (take (length others)) whole ∙ take_at others (e ∷ drop n edges) (length others) refl)),
  subst (λ (k : ℕ). length others < k) (sym (ap length front ∙ length-append others (e ∷ []))) (omega arith),
)
  where
    whole : edges ≡ others ++ e ∷ drop n edges
    whole =
        sym (take-append-drop n edges) ∙ ap (λ (l : List Edge). l ++ drop n edges) front
        ∙ append_assoc others (e ∷ []) (drop n edges)

-- and what is found of it, where among so many edges before it are all to its state
pub last_found : (m n k : ℕ) (edges others : List Edge) (e : Edge) → take n edges ≡ others ++ e ∷ []
    → HaveAllTo m edges (length others) k
    → (k < length (take n edges)) × (edges_to m (take n edges) ≡ edges_to m (take k edges ++ e ∷ []))
last_found m n k edges others e front all =
    let last : (slice_get edges (length others) ≡ Some e) × (take n edges ≡ take (length others) edges ++ e ∷ [])
    × (length others < length (take n edges)) = last_of_front n edges others e front in
    let few : k ≤ length others = all.0 in
    let fewer : length others < length (take n edges) = last.2 in
    (omega (arith, few, fewer), newest_among m n k (length others) e edges last.1 all)
