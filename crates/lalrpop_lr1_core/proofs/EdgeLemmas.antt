-- The newest edge first, edges state by state, and steps back over edges: for the graph of states.
use Rattle.std.proofs.Common.{◌≡◌, ◌∙◌, ◌↔◌, ℕ, ◌+◌, ◌<◌, ◌⊎◌, inl, inr}
use Rattle.std.proofs.Common.{List, [], ◌∷◌, ◌++◌}
use Rattle.std.proofs.Common.{ap, sym, refl, subst, arith, length, take, get_or, Contains}
use Rattle.std.specs.Prelude.{flat_map, OnOk, Result, Ok, Err}
use Rattle.std.specs.List.{enumerate_from}
use Rattle.std.proofs.lemmas.List.{append-nil, length-take, take_more}
use Rattle.std.proofs.lemmas.List.Concat.{flat_map-append}
use Rattle.lalrpop_grammar_repr.specs.declared.production.Symbol.{Symbol}
use Rattle.lalrpop_lr1_theory.proofs.ListLemmas.{contains_here, contains_later, contains_split}
use Rattle.lalrpop_lr1_core.specs.Edges.{HasGraphEdge, SymbolsLead, edge_of, edges_of, state_edges}
use Rattle.lalrpop_lr1_core.specs.Steps.{EntersFrom, IsSourceBy}
use Rattle.lalrpop_lr1_core.specs.declared.edge.Edge.{Edge}
use Rattle.lalrpop_lr1_core.specs.declared.state.State.{State}
use Rattle.lalrpop_lr1_theory.proofs.NameLemmas.{no_element}

pub enumerate-push : {X : Type 0} (n : ℕ) (xs : List X) (x : X)
    → enumerate_from n (xs ++ x ∷ []) ≡ enumerate_from n xs ++ (n + length xs, x) ∷ []
enumerate-push n [] x = ap (λ m. (m, x) ∷ []) (omega arith)
enumerate-push n (y ∷ ys) x =
    ap (λ l. (n, y) ∷ l) (enumerate-push (n + 1) ys x
    ∙ ap (λ m. enumerate_from (n + 1) ys ++ (m, x) ∷ []) (omega arith))

-- the edges of one state more
pub edges-more : {L : Type 0} (states : List (State L)) (i : ℕ) (s : State L) (old new : List Edge) → i < length states
    → s ≡ get_or states i s → old ≡ edges_of (take i states) → new ≡ old ++ state_edges (i, s)
    → new ≡ edges_of (take (i + 1) states)
edges-more states i s old new within read so made =
    let more : take (i + 1) states ≡ take i states ++ s ∷ [] =
    take_more states i s within ∙ ap (λ t. take i states ++ t ∷ []) (sym read) in
    let place : 0 + length (take i states) ≡ i = omega (arith, length-take i states) in
    made ∙ ap (λ l. l ++ state_edges (i, s)) so
    ∙ sym (ap edges_of more ∙ ap (flat_map state_edges) (enumerate-push 0 (take i states) s)
    ∙ flat_map-append state_edges (enumerate_from 0 (take i states)) ((0 + length (take i states), s) ∷ [])
    ∙ ap (λ l. edges_of (take i states) ++ l) (append-nil (state_edges (0 + length (take i states), s))
    ∙ ap (λ m. state_edges (m, s)) place))

edge_parts : (e : Edge) (n m : ℕ) (x : Symbol) → e ≡ edge_of n x m → (n ≡ e.source) × (e.symbol ≡ x) × (m ≡ e.target)
edge_parts e n m x same = (sym (ap (λ f. f.source) same), ap (λ f. f.symbol) same, sym (ap (λ f. f.target) same))

source_there : (targets : List ℕ) (x : Symbol) (e : Edge) (edges : List Edge) (n m : ℕ) → Contains targets m
    → (e ≡ edge_of n x m) ⊎ Contains edges (edge_of n x m) → EntersFrom targets x e n ⊎ IsSourceBy targets x edges n
source_there targets x e edges n m within (inl same) =
    let parts : (n ≡ e.source) × (e.symbol ≡ x) × (m ≡ e.target) = edge_parts e n m x same in
    inl (parts.1, subst (Contains targets) parts.2 within, parts.0)
source_there targets x e edges n m within (inr among) = inr (m, among, within)

source_back : (targets : List ℕ) (x : Symbol) (e : Edge) (edges : List Edge) (n : ℕ)
    → EntersFrom targets x e n ⊎ IsSourceBy targets x edges n → IsSourceBy targets x (e ∷ edges) n
source_back targets x e edges n (inl enters) =
    let same : e ≡ edge_of n x e.target =
    ap (λ k. edge_of k e.symbol e.target) (sym enters.2) ∙ ap (λ y. edge_of n y e.target) enters.0 in
    (e.target, subst (Contains (e ∷ edges)) same (contains_here e edges), enters.1)
source_back targets x e edges n (inr source) = (source.0, contains_later e (edge_of n x source.0) edges source.1, source.2)

-- the sources over one edge more
pub sources-first : (targets : List ℕ) (x : Symbol) (e : Edge) (edges : List Edge) (n : ℕ)
    → IsSourceBy targets x (e ∷ edges) n ↔ (EntersFrom targets x e n ⊎ IsSourceBy targets x edges n)
sources-first targets x e edges n = (
  λ source. source_there targets x e edges n source.0 source.2 (contains_split e (edge_of n x source.0) edges source.1),
  source_back targets x e edges n,
)

-- where the edge enters, its source is the number that comes
pub source_comes : {T F : Type 0} (r : Result T F) (targets : List ℕ) (x : Symbol) (e : Edge) (old new : List ℕ) → e.symbol ≡ x
    → Contains targets e.target → OnOk r ((n : ℕ) → Contains new n ↔ (Contains old n ⊎ (n ≡ e.source)))
    → OnOk r ((n : ℕ) → Contains new n ↔ (Contains old n ⊎ EntersFrom targets x e n))
source_comes (Err f) targets x e old new by within made = made
source_comes (Ok t) targets x e old new by within made = λ n. (λ c. there n ((made n).0 c), λ h. (made n).1 (back n h))
  where
    there : (n : ℕ) → Contains old n ⊎ (n ≡ e.source) → Contains old n ⊎ EntersFrom targets x e n
    there n (inl c) = inl c
    there n (inr s) = inr (by, within, s)

    back : (n : ℕ) → Contains old n ⊎ EntersFrom targets x e n → Contains old n ⊎ (n ≡ e.source)
    back n (inl c) = inl c
    back n (inr s) = inr s.2

-- one edge further
pub sources_go_on : (targets : List ℕ) (x : Symbol) (old new : List ℕ) (left rest whole : List Edge) (e : Edge) → left ≡ e ∷ rest
    → ((n : ℕ) → Contains new n ↔ (Contains old n ⊎ EntersFrom targets x e n))
    → ((n : ℕ) → IsSourceBy targets x whole n ↔ (Contains old n ⊎ IsSourceBy targets x left n)) → (n : ℕ)
    → IsSourceBy targets x whole n ↔ (Contains new n ⊎ IsSourceBy targets x rest n)
sources_go_on targets x old new left rest whole e first made so n = (λ source. there ((so n).0 source), back)
  where
    P : List Edge → Type 0
    P l = IsSourceBy targets x l n

    further : EntersFrom targets x e n ⊎ IsSourceBy targets x rest n → Contains new n ⊎ IsSourceBy targets x rest n
    further (inl enters) = inl ((made n).1 (inr enters))
    further (inr among) = inr among

    there : Contains old n ⊎ IsSourceBy targets x left n → Contains new n ⊎ IsSourceBy targets x rest n
    there (inl among) = inl ((made n).1 (inl among))
    there (inr among) = further ((sources-first targets x e rest n).0 (subst P first among))

    known : Contains old n ⊎ EntersFrom targets x e n → IsSourceBy targets x whole n
    known (inl among) = (so n).1 (inl among)
    known (inr enters) = (so n).1 (inr (subst P (sym first) ((sources-first targets x e rest n).1 (inl enters))))

    back : Contains new n ⊎ IsSourceBy targets x rest n → IsSourceBy targets x whole n
    back (inl among) = known ((made n).0 among)
    back (inr among) = (so n).1 (inr (subst P (sym first) ((sources-first targets x e rest n).1 (inr among))))

-- once no edges are left to look at, the states found are all from which the symbol leads to a target
pub sources_end : (targets : List ℕ) (x : Symbol) (old : List ℕ) (left whole : List Edge) → left ≡ []
    → ((n : ℕ) → IsSourceBy targets x whole n ↔ (Contains old n ⊎ IsSourceBy targets x left n)) → (n : ℕ)
    → Contains old n ↔ IsSourceBy targets x whole n
sources_end targets x old left whole none so n = (λ among. (so n).1 (inl among), λ source. go ((so n).0 source))
  where
    go : Contains old n ⊎ IsSourceBy targets x left n → Contains old n
    go (inl among) = among
    go (inr source) =
        absurd (no_element (edge_of n x source.0) (subst (λ l. Contains l (edge_of n x source.0)) none source.1))

-- symbols that end in one more
lead_push : (edges : List Edge) (n k m : ℕ) (xs : List Symbol) (x : Symbol) → SymbolsLead edges n xs k → HasGraphEdge edges k x m
    → SymbolsLead edges n (xs ++ x ∷ []) m
lead_push edges n k m [] x same edge = (m, subst (λ j. HasGraphEdge edges j x m) (sym same) edge, refl)
lead_push edges n k m (y ∷ ys) x lead edge = (lead.0, lead.1, lead_push edges lead.0 k m ys x lead.2 edge)

lead_pop : (edges : List Edge) (n m : ℕ) (xs : List Symbol) (x : Symbol) → SymbolsLead edges n (xs ++ x ∷ []) m
    → (k : ℕ) × SymbolsLead edges n xs k × HasGraphEdge edges k x m
lead_pop edges n m [] x lead = (n, refl, subst (HasGraphEdge edges n x) lead.2 lead.1)
lead_pop edges n m (y ∷ ys) x lead =
    let rest : (k : ℕ) × SymbolsLead edges lead.0 ys k × HasGraphEdge edges k x m = lead_pop edges lead.0 m ys x lead.2 in
    (rest.0, (lead.0, lead.1, rest.1), rest.2)

-- the symbols lead from the state into a set of states
abbrev pub LeadsInto : List Edge → List Symbol → List ℕ → ℕ → Type 0
LeadsInto edges xs set n = (m : ℕ) × Contains set m × SymbolsLead edges n xs m

-- one step back: symbols lead into states where those before the last lead into the last one's sources of these
pub lead_goes_on : (edges : List Edge) (symbols left front : List Symbol) (x : Symbol) (m : ℕ) (old new : List ℕ)
    → left ≡ front ++ x ∷ [] → ((n : ℕ) → Contains new n ↔ IsSourceBy old x edges n)
    → ((n : ℕ) → SymbolsLead edges n symbols m ↔ LeadsInto edges left old n) → (n : ℕ)
    → SymbolsLead edges n symbols m ↔ LeadsInto edges front new n
lead_goes_on edges symbols left front x m old new last made so n = (λ lead. there ((so n).0 lead), back)
  where
    there : LeadsInto edges left old n → LeadsInto edges front new n
    there into =
        let popped : (k : ℕ) × SymbolsLead edges n front k × HasGraphEdge edges k x into.0 =
        lead_pop edges n into.0 front x (subst (λ l. SymbolsLead edges n l into.0) last into.2) in
        (popped.0, (made popped.0).1 (into.0, popped.2, into.1), popped.1)

    back : LeadsInto edges front new n → SymbolsLead edges n symbols m
    back into =
        let source : IsSourceBy old x edges into.0 = (made into.0).0 into.1 in
        (so n).1 (
          source.0,
          source.2,
          subst (λ l. SymbolsLead edges n l source.0) (sym last)
              (lead_push edges n into.0 source.0 front x into.2 source.1),
        )
