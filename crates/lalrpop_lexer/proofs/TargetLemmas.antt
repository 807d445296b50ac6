-- Where transitions lead for each alphabet class, gathered one by one. For the moves of a set of states.
use Rattle.std.proofs.Common.{◌≡◌, ℕ, ◌+◌, ◌<◌, ◌≤◌, ◌⊎◌, List, [], ◌∷◌, ◌++◌, length, get_or, set}
use Rattle.std.proofs.Common.{map, Contains, Vec, Global, inl, inr, ⊎_elim, sym, ap, ◌∙◌, refl, subst, arith, eqb, eq-eqb}
use Rattle.std.specs.Prelude.{filter}
use Rattle.std.proofs.lemmas.Bool.{eqb-true, cases_lt, cases_eq}
use Rattle.std.proofs.lemmas.List.{map-set, get_or-map, get_or-set_same, get_or-set_other, length-set, length-map, get_or_past, get_or_push}
use Rattle.std.proofs.lemmas.List.{get_or_append_left, length_push, map_push}
use Rattle.std.proofs.lemmas.List.Elements.{Contains-push, Contains-push_cases, Contains-append_left}
use Rattle.lalrpop_lexer_nfa.specs.declared.edge.Edge.{Edge}
use Rattle.lalrpop_lexer_nfa.specs.declared.test.Test.{Test}
use Rattle.lalrpop_lexer_nfa.specs.Paths.{Graph, TransitionEdge, HasTransition, transition_view}
use Rattle.lalrpop_lexer_nfa.specs.Ranges.{TestHolds}
use Rattle.lalrpop_lexer_nfa.proofs.ListLemmas.{Contains-nil, Contains-head, Contains-tail, Contains-cons_cases, Contains-map}
use Rattle.lalrpop_lexer_nfa.proofs.ListLemmas.{Contains-from_map, Contains-filter, Contains-from_filter}
use Rattle.lalrpop_lexer.specs.Targets.{items_lists, items_at, start_at, StartsAscend, AddsTargets, AreTargets}

pub items_at-set_same : (vs : List (Vec ℕ Global)) (i : ℕ) (v : Vec ℕ Global) → i < length vs
    → items_at (set vs i v) i ≡ v.items
items_at-set_same vs i v l =
    ap (λ ls. get_or ls i []) (map-set (λ (v : Vec ℕ Global). v.items) vs i v)
    ∙ get_or-set_same (items_lists vs) i v.items [] (omega (arith, length-map vs (λ (v : Vec ℕ Global). v.items)))

pub items_at-set_other : (vs : List (Vec ℕ Global)) (i j : ℕ) (v : Vec ℕ Global) → (j ≡ i → ⊥)
    → items_at (set vs i v) j ≡ items_at vs j
items_at-set_other vs i j v apart =
    ap (λ ls. get_or ls j []) (map-set (λ (v : Vec ℕ Global). v.items) vs i v)
    ∙ get_or-set_other (items_lists vs) i j v.items [] apart

-- the targets of one more alphabet class, which the transition reads, get the transition's target
pub goes_more_push : (e : Edge Test) (pieces : List Test) (n : ℕ) (old mid : List (Vec ℕ Global)) (v : Vec ℕ Global)
    → n < length mid → TestHolds e.label (start_at pieces n) →
    v.items ≡ items_at mid n ++ e.to.0 ∷ [] → AddsTargets e pieces n old mid → AddsTargets e pieces (n + 1) old (set mid n v)
goes_more_push e pieces n old mid v within holds is before = record {
  size = length-set mid n v ∙ before.size;
  only = λ i x h.
      ⊎_elim
      (λ (at : i ≡ n).
      let here : Contains (items_at mid n ++ e.to.0 ∷ []) x = rw (at, items_at-set_same mid n v within, is) at h in
      ⊎_elim (λ there. ⊎_elim inl (λ k. inr (omega (arith, k.0), k.1, k.2)) (before.only i x (rw at there)))
      (λ same. inr (omega arith, rw at holds, same)) (Contains-push_cases (items_at mid n) e.to.0 x here))
      (λ (apart : i ≡ n → ⊥).
      ⊎_elim inl (λ k. inr (omega (arith, k.0), k.1, k.2)) (before.only i x (rw (items_at-set_other mid n i v apart) at h)))
      (cases_eq i n);
  kept = λ i x h. keep i x (before.kept i x h);
  all = λ i l h.
      ⊎_elim (λ (less : i < n). keep i e.to.0 (before.all i less h))
      (λ (more : n ≤ i). let at : i ≡ n = omega arith in
      rw (at, items_at-set_same mid n v within, is) (Contains-push (items_at mid n) e.to.0))
      (cases_lt i n);
}
  where
    keep : (i x : ℕ) → Contains (items_at mid i) x → Contains (items_at (set mid n v) i) x
    keep i x h =
        ⊎_elim
        (λ (at : i ≡ n). rw (at, items_at-set_same mid n v within, is)
        (Contains-append_left (items_at mid n) (e.to.0 ∷ []) x (rw at at h)))
        (λ (apart : i ≡ n → ⊥). rw (items_at-set_other mid n i v apart) h) (cases_eq i n)

-- pieces that begin below the edge
pub goes_past : (e : Edge Test) (pieces : List Test) (n : ℕ) (old : List (Vec ℕ Global))
    → ((i : ℕ) → i < n → start_at pieces i < e.label.start) → AddsTargets e pieces n old old
goes_past e pieces n old low =
    record { size = refl; only = λ i x h. inl h; kept = λ i x h. h; all = λ i l h. absurd (omega (arith, low i l, h.0)) }

-- pieces that begin above the edge
pub goes_rest : (e : Edge Test) (pieces : List Test) (n m : ℕ) (old mid : List (Vec ℕ Global)) → n ≤ m
    → ((i : ℕ) → n ≤ i → i < m → e.label.end < start_at pieces i) → AddsTargets e pieces n old mid
    → AddsTargets e pieces m old mid
goes_rest e pieces n m old mid order high before = record {
  size = before.size;
  only = λ i x h. ⊎_elim inl (λ k. inr (omega (arith, k.0), k.1, k.2)) (before.only i x h);
  kept = before.kept;
  all = λ i l h. ⊎_elim (λ (less : i < n). before.all i less h) (λ (more : n ≤ i). absurd (omega (arith, high i more l, h.1)))
      (cases_lt i n);
}

-- starts rise
pub starts_rise : (pieces : List Test) (i j : ℕ) → StartsAscend pieces → i ≤ j → j < length pieces
    → start_at pieces i ≤ start_at pieces j
starts_rise pieces i j up order l =
    ⊎_elim (λ (less : i < j). omega (arith, up i j less l))
    (λ (ge : j ≤ i). let at : i ≡ j = omega arith in omega (arith, ap (start_at pieces) at)) (cases_lt i j)

-- a piece that was read at a place
pub start_is : (pieces : List Test) (i : ℕ) → i < length pieces
    → start_at pieces i ≡ (get_or pieces i (record { start = 0; end = 0 })).start
start_is pieces i l = get_or-map (λ (t : Test). t.start) pieces i (record { start = 0; end = 0 }) 0 l

-- the edges of the state q that are left, behind those of the states of a set
pub record AreGathered (t : Graph) (edges left : List (Edge Test)) (set : List ℕ) (q : ℕ) (pieces : List Test)
    (targets : List (Vec ℕ Global)) : Type 0 where
  pub size : length targets ≡ length pieces
  pub only : (i x : ℕ) → Contains (items_at targets i) x → (i < length pieces)
      × ((p : ℕ) × (Contains set p ⊎ (p ≡ q)) × HasTransition t p (start_at pieces i) x)
  pub all : (i p x : ℕ) → i < length pieces → Contains set p → HasTransition t p (start_at pieces i) x
      → Contains (items_at targets i) x
  pub own : (i x : ℕ) → i < length pieces → HasTransition t q (start_at pieces i) x → Contains (items_at targets i) x
      ⊎ ((e : Edge Test) × Contains left e × TestHolds e.label (start_at pieces i) × (e.to.0 ≡ x))
  pub from : (e : Edge Test) → Contains left e → Contains edges e × (e.from.0 ≡ q)

module _ (t : Graph) (edges : List (Edge Test)) (is : t.tests ≡ map transition_view edges) (set : List ℕ) (q : ℕ)
    (pieces : List Test) where
  -- before the first transition of a state, all of them are left
  pub gather_start : (targets : List (Vec ℕ Global)) (left : List (Edge Test))
      → left ≡ filter (λ (e : Edge Test). eqb e.from.0 q) edges → AreTargets t set pieces targets
      → AreGathered t edges left set q pieces targets
  gather_start targets left e h = record {
    size = h.size;
    only = λ i x k. let y = h.only i x k in (y.0, (y.1.0, inl y.1.1, y.1.2));
    all = λ i p x l among reads. h.all i p x l among reads;
    own = λ i x l reads.
        let found = Contains-from_map transition_view edges reads.0 (rw is at reads.1) in
        let P : TransitionEdge → Type 0 =
        λ f. (f.from ≡ q) × (f.start ≤ start_at pieces i) × (start_at pieces i ≤ f.end) × (f.to ≡ x) in
        let y : P (transition_view found.0) = subst P (sym found.2) (reads.2, reads.3, reads.4, reads.5) in
        inr (found.0, rw e (Contains-filter (λ (e : Edge Test). eqb e.from.0 q) edges found.0 found.1 (eq-eqb _ _ y.0)), (y.1, y.2), y.3);
    from = λ f k. let y = Contains-from_filter (λ (e : Edge Test). eqb e.from.0 q) edges f (rw e at k) in (y.0, eqb-true _ _ y.1);
  }

  -- one more transition of the state has its target in each alphabet class that it reads
  pub gather_more : (mid new : List (Vec ℕ Global)) (whole left : List (Edge Test)) (e : Edge Test) → whole ≡ e ∷ left
      → AreGathered t edges whole set q pieces mid → AddsTargets e pieces (length pieces) mid new →
      AreGathered t edges left set q pieces new
  gather_more mid new whole left e is_first before one =
      let here = before.from e (rw is_first (Contains-head e left)) in
      record {
        size = one.size ∙ before.size;
        only = λ i x h. ⊎_elim (before.only i x)
            (λ k. (
              k.0,
              (
                q,
                inr refl,
                (transition_view e, rw is (Contains-map transition_view edges e here.0), here.1, k.1.0, k.1.1, k.2),
              ),
            )) (one.only i x h);
        all = λ i p x l among reads. one.kept i x (before.all i p x l among reads);
        own = λ i x l reads.
            ⊎_elim (λ there. inl (one.kept i x there))
            (λ k. ⊎_elim
            (λ same. inl (let P : Edge Test → Type 0 = λ f. TestHolds f.label (start_at pieces i) × (f.to.0 ≡ x) in
            let y : P e = subst P (sym same) (k.2, k.3) in let Q : ℕ → Type 0 = Contains (items_at new i) in
            subst Q y.1 (one.all i l y.0)))
            (λ more. inr (k.0, more, k.2, k.3)) (Contains-cons_cases e left k.0 (rw is_first at k.1)))
            (before.own i x l reads);
        from = λ f h. before.from f (rw is_first (Contains-tail e left f h));
      }

  -- once no transition is left, the state is one more of the set that the moves start from
  pub gather_end : (targets : List (Vec ℕ Global)) (left : List (Edge Test)) → left ≡ []
      → AreGathered t edges left set q pieces targets → AreTargets t (set ++ q ∷ []) pieces targets
  gather_end targets left e h = record {
    size = h.size;
    only = λ i x k.
        let y = h.only i x k in
        (y.0, (y.1.0, ⊎_elim (Contains-append_left set (q ∷ []) y.1.0) (λ at. rw at (Contains-push set q)) y.1.1, y.1.2));
    all = λ i p x l among reads.
        ⊎_elim (λ there. h.all i p x l there reads)
        (λ at. ⊎_elim (λ done. done) (λ k. absurd (Contains-nil k.0 (rw e at k.1)))
        (h.own i x l (let P : ℕ → Type 0 = λ r. HasTransition t r (start_at pieces i) x in subst P (sym at) reads)))
        (Contains-push_cases set q p among);
  }

-- empty targets are the moves of the empty set
pub moves_none : (t : Graph) (pieces : List Test) (targets : List (Vec ℕ Global)) → length targets ≡ length pieces
    → ((i : ℕ) → items_at targets i ≡ []) → AreTargets t [] pieces targets
moves_none t pieces targets size empty = record {
  size = size;
  only = λ i x h. absurd (Contains-nil x (rw (empty i) at h));
  all = λ i q x l among reads. absurd (Contains-nil q among);
}

-- lists that are all empty stay so with one more empty list
pub items_at-push : (vs : List (Vec ℕ Global)) (v : Vec ℕ Global) → ((i : ℕ) → items_at vs i ≡ []) → v.items ≡ []
    → (i : ℕ) → items_at (vs ++ v ∷ []) i ≡ []
items_at-push vs v empty none i =
    ap (λ ls. get_or ls i []) (map_push (λ (v : Vec ℕ Global). v.items) vs v)
    ∙ ⊎_elim
    (λ (less : i < length (items_lists vs)). get_or_append_left (items_lists vs) (v.items ∷ []) [] i less ∙ empty i)
    (λ (more : length (items_lists vs) ≤ i).
    ⊎_elim
    (λ (at : i ≡ length (items_lists vs)). get_or_push (items_lists vs) v.items [] i (sym at) ∙ none)
    (λ (apart : i ≡ length (items_lists vs) → ⊥). get_or_past (items_lists vs ++ v.items ∷ []) i []
    (let size = length_push (items_lists vs) v.items in omega arith)) (cases_eq i (length (items_lists vs))))
    (cases_lt i (length (items_lists vs)))
