-- Lists of edges that grow: the edges of each state stay one after another. For the functions that add states and edges.
use Rattle.std.proofs.Common.{◌≡◌, ◌≢◌, ℕ, ◌+◌, ◌-◌, ◌<◌, ◌≤◌, ◌⊎◌, List, [], ◌∷◌, ◌++◌}
use Rattle.std.proofs.Common.{length, get_or, set, inl, inr, ⊎_elim, sym, ap, ◌∙◌, refl, subst, arith, true, false, true≢false}
use Rattle.std.proofs.Common.{map, All, Bool, cond, eqb, eq-eqb, Some, None, Option}
use Rattle.std.specs.Prelude.{not, slice_get}
use Rattle.std.proofs.lemmas.Option.{get_or_from_slice_get, slice_get-get_or}
use Rattle.std.proofs.Math.ListN.{length-set}
use Rattle.std.proofs.lemmas.Bool.{cases_lt, cases_eq, eqb-true}
use Rattle.std.proofs.lemmas.List.{get_or_append_left, get_or_push, length_push, get_or-set_same, get_or-set_other, get_or-map, map_push}
use Rattle.std.proofs.lemmas.List.{map-set, set-get_or, length-map}
use Rattle.std.proofs.lemmas.List.Elements.{All-map, All-get_or}
use Rattle.lalrpop_lexer_nfa.specs.declared.edge.Edge.{Edge}
use Rattle.lalrpop_lexer_nfa.specs.EdgeLists.{sources, HasRuns, MayComeNext}
use Rattle.lalrpop_lexer_nfa.specs.Growth.{BeginsRun}

-- an index in a list with one more element is one of those before, or the last
pub push_cases : (xs : List ℕ) (y i : ℕ) → i < length (xs ++ y ∷ [])
    → ((i < length xs) × (get_or (xs ++ y ∷ []) i 0 ≡ get_or xs i 0)) ⊎ ((i ≡ length xs) × (get_or (xs ++ y ∷ []) i 0 ≡ y))
push_cases xs y i h =
    ⊎_elim
    (λ (less : i < length xs). inl (less, get_or_append_left xs (y ∷ []) 0 i less))
    (λ (more : length xs ≤ i). let e : i ≡ length xs = omega (arith, length_push xs y) in inr (e, get_or_push xs y 0 i (sym e)))
    (cases_lt i (length xs))

-- one more state, whose edges will come last
pub HasRuns-state : (firsts froms : List ℕ) (p : ℕ) → ((i : ℕ) → i < length froms → get_or froms i 0 < length firsts)
    → p ≡ length froms →
    HasRuns firsts froms → HasRuns (firsts ++ p ∷ []) froms
HasRuns-state firsts froms p inside e h =
    record {
      bounded = λ q l. ⊎_elim (λ old. rw old.1 (h.bounded q old.0)) (λ new. rw new.1 (omega arith)) (push_cases firsts p q l);
      after = λ i l. rw (get_or_append_left firsts (p ∷ []) 0 (get_or froms i 0) (inside i l)) (h.after i l);
      run = λ i j l. rw (get_or_append_left firsts (p ∷ []) 0 (get_or froms i 0) (inside i l)) (h.run i j l);
    }

-- one more edge in the last run
pub HasRuns-more : (firsts froms : List ℕ) (q : ℕ) → 0 < length froms → get_or froms (length froms - 1) 0 ≡ q
    → HasRuns firsts froms → HasRuns firsts (froms ++ q ∷ [])
HasRuns-more firsts froms q some last h =
    record { bounded = λ r l. omega (arith, h.bounded r l, length_push froms q); after = after; run = run }
  where
    end : ℕ
    end = length froms - 1

    first : (i : ℕ) → i < length (froms ++ q ∷ []) → get_or (froms ++ q ∷ []) i 0 ≡ q → get_or firsts q 0 ≤ length froms
    first i l e = let x = h.after (length froms - 1) (omega arith) in let y : get_or firsts q 0 ≤ length froms - 1 = rw last at x in
        omega arith

    after : (i : ℕ) → i < length (froms ++ q ∷ []) → get_or firsts (get_or (froms ++ q ∷ []) i 0) 0 ≤ i
    after i l =
        ⊎_elim (λ old. rw old.1 (h.after i old.0))
        (λ new. rw new.1 (let x = first i l new.1 in omega arith)) (push_cases froms q i l)

    run : (i j : ℕ) → i < length (froms ++ q ∷ []) → get_or firsts (get_or (froms ++ q ∷ []) i 0) 0 ≤ j → j ≤ i
        → get_or (froms ++ q ∷ []) j 0 ≡ get_or (froms ++ q ∷ []) i 0
    run i j l from to =
        ⊎_elim
        (λ old. get_or_append_left froms (q ∷ []) 0 j (omega arith) ∙ h.run i j old.0 (rw old.1 at from) to ∙ sym old.1)
        (λ new.
        ⊎_elim
        (λ (less : j < length froms).
        let x : get_or firsts q 0 ≤ j = rw new.1 at from in
        let y = h.run (length froms - 1) j (omega arith) (rw last x) (omega arith) in
        get_or_append_left froms (q ∷ []) 0 j less ∙ y ∙ last ∙ sym new.1)
        (λ (more : length froms ≤ j). ap (λ k. get_or (froms ++ q ∷ []) k 0) (let e : j ≡ i = omega arith in e))
        (cases_lt j (length froms)))
        (push_cases froms q i l)

-- the first edge of a state
pub HasRuns-first : (firsts froms : List ℕ) (q p : ℕ) → q < length firsts → p ≡ length froms
    → ((i : ℕ) → i < length froms → get_or froms i 0 ≢ q) →
    HasRuns firsts froms → HasRuns (set firsts q p) (froms ++ q ∷ [])
HasRuns-first firsts froms q p inside e none h = record { bounded = bounded; after = after; run = run }
  where
    bounded : (r : ℕ) → r < length (set firsts q p) → get_or (set firsts q p) r 0 ≤ length (froms ++ q ∷ [])
    bounded r l =
        ⊎_elim (λ (at : r ≡ q). rw (at, get_or-set_same firsts q p 0 inside) (omega (arith, length_push froms q)))
        (λ (apart : r ≡ q → ⊥). rw (get_or-set_other firsts q r p 0 apart)
        (let x = h.bounded r (simp length-set at l) in omega (arith, length_push froms q))) (cases_eq r q)

    after : (i : ℕ) → i < length (froms ++ q ∷ []) → get_or (set firsts q p) (get_or (froms ++ q ∷ []) i 0) 0 ≤ i
    after i l =
        ⊎_elim (λ old. rw (old.1, get_or-set_other firsts q (get_or froms i 0) p 0 (none i old.0)) (h.after i old.0))
        (λ new. rw (new.1, get_or-set_same firsts q p 0 inside) (omega arith)) (push_cases froms q i l)

    run : (i j : ℕ) → i < length (froms ++ q ∷ []) → get_or (set firsts q p) (get_or (froms ++ q ∷ []) i 0) 0 ≤ j → j ≤ i
        → get_or (froms ++ q ∷ []) j 0 ≡ get_or (froms ++ q ∷ []) i 0
    run i j l from to =
        ⊎_elim
        (λ old. get_or_append_left froms (q ∷ []) 0 j (omega arith)
        ∙ h.run i j old.0 (rw (old.1, get_or-set_other firsts q (get_or froms i 0) p 0 (none i old.0)) at from) to ∙ sym old.1)
        (λ new. let x : p ≤ j = rw (new.1, get_or-set_same firsts q p 0 inside) at from in
        ap (λ k. get_or (froms ++ q ∷ []) k 0) (let same : j ≡ i = omega arith in same))
        (push_cases froms q i l)

-- a state that may come last may come once more behind itself
pub MayComeNext-push : (froms : List ℕ) (q : ℕ) → MayComeNext froms q → MayComeNext (froms ++ q ∷ []) q
MayComeNext-push froms q h i j order l e =
    ⊎_elim
    (λ old. old.1 ∙ h i j order old.0 (sym (get_or_append_left froms (q ∷ []) 0 i (omega arith)) ∙ e))
    (λ new. new.1) (push_cases froms q j l)

-- a state that is no source may come last
pub MayComeNext-none : (froms : List ℕ) (q : ℕ) → ((i : ℕ) → i < length froms → get_or froms i 0 ≢ q) → MayComeNext froms q
MayComeNext-none froms q none i j order l e = absurd (none i (omega arith) e)

-- where the last edge is of another state, none is of this one
pub none_from_last : (froms : List ℕ) (q : ℕ) → MayComeNext froms q
    → ((i : ℕ) → i + 1 ≡ length froms → get_or froms i 0 ≢ q) → (i : ℕ) → i < length froms → get_or froms i 0 ≢ q
none_from_last froms q last other i l e = other (length froms - 1) (omega arith) (last i (length froms - 1) (omega arith) (omega arith) e)

-- one more edge of the state q, in the list for which f tells where the run of each state begins
module _ {X : Type 0} (f : X → ℕ) (states : List X) (q : ℕ) where
  pub firsts_kept : (x y : X) → q < length states → x ≡ get_or states q x → f y ≡ f x → map f (set states q y) ≡ map f states
  firsts_kept x y inside is same =
      map-set f states q y
      ∙ ap (set (map f states) q) (same ∙ ap f is ∙ sym (get_or-map f states q x 0 inside))
      ∙ set-get_or (map f states) q 0

  -- where a state changes, but not where its run begins, each run stays where it was
  pub runs_kept : (x y : X) (froms : List ℕ) → q < length states → x ≡ get_or states q x → f y ≡ f x
      → HasRuns (map f states) froms → HasRuns (map f (set states q y)) froms
  runs_kept x y froms inside is same h =
      let P : List ℕ → Type 0 = λ firsts. HasRuns firsts froms in subst P (sym (firsts_kept x y inside is same)) h

  -- a run begins at the end of the list, and its state says so
  pub runs_first : (y : X) (froms : List ℕ) → q < length states → f y ≡ length froms → MayComeNext froms q
      → BeginsRun froms q true → HasRuns (map f states) froms →
      HasRuns (map f (set states q y)) (froms ++ q ∷ [])
  runs_first y froms inside e last begins h =
      let P : List ℕ → Type 0 = λ firsts. HasRuns firsts (froms ++ q ∷ []) in
      subst P (sym (map-set f states q y))
      (HasRuns-first (map f states) froms q (f y) (omega (arith, length-map states f)) e (none_from_last froms q last begins) h)

  -- the run at the end grows by one, and no state changes
  pub runs_more : (froms : List ℕ) → BeginsRun froms q false → HasRuns (map f states) froms
      → HasRuns (map f states) (froms ++ q ∷ [])
  runs_more froms goes h = HasRuns-more (map f states) froms q goes.0 goes.1 h

pub runs_state : {X : Type 0} (f : X → ℕ) (states : List X) (x : X) (froms : List ℕ)
    → ((i : ℕ) → i < length froms → get_or froms i 0 < length states) → f x ≡ length froms →
    HasRuns (map f states) froms → HasRuns (map f (states ++ x ∷ [])) froms
runs_state f states x froms inside e h =
    let P : List ℕ → Type 0 = λ firsts. HasRuns firsts froms in
    subst P (sym (map_push f states x))
    (HasRuns-state (map f states) froms (f x) (λ i l. omega (arith, inside i l, length-map states f)) e h)

-- each edge comes from a state
pub sources_inside : {L : Type 0} (es : List (Edge L)) (n : ℕ) → All (λ e. e.from.0 < n) es → (i : ℕ) → i < length (sources es)
    → get_or (sources es) i 0 < n
sources_inside {L} es n inside i l =
    All-get_or (λ x. x < n) (sources es) i 0 l (All-map (λ x. x < n) (λ (e : Edge L). e.from.0) es inside)

-- the sources of a list with one more edge
pub sources_push : {L : Type 0} (es : List (Edge L)) (e : Edge L) → sources (es ++ e ∷ []) ≡ sources es ++ e.from.0 ∷ []
sources_push {L} es e = map_push (λ (x : Edge L). x.from.0) es e

-- one more state, where there was room for it
pub runs_state_if : {X : Type 0} (f : X → ℕ) (states new : List X) (x : X) (froms : List ℕ) (b : Bool)
    → new ≡ cond b (states ++ x ∷ []) states →
    ((i : ℕ) → i < length froms → get_or froms i 0 < length states) → f x ≡ length froms → HasRuns (map f states) froms
    → HasRuns (map f new) froms
runs_state_if f states new x froms true e inside is h = rw e (runs_state f states x froms inside is h)
runs_state_if f states new x froms false e inside is h = rw e h

-- what the last edge tells of the next one
pub begins_last : {L : Type 0} (es : List (Edge L)) (e : Edge L) (q : ℕ) (b : Bool) → slice_get es (length es - 1) ≡ Some e
    → b ≡ not (eqb e.from.0 q) → BeginsRun (sources es) q b
begins_last {L} [] e q b at is = cc
begins_last {L} (x ∷ xs) e q true at is =
    λ i end same.
    let last : get_or (sources (x ∷ xs)) i 0 ≡ e.from.0 =
    ap (λ k. get_or (sources (x ∷ xs)) k 0)
    (let k : i ≡ length xs = omega (arith, length-map (x ∷ xs) (λ (y : Edge L). y.from.0)) in k) ∙ here in
    absurd (true≢false (is ∙ ap not (eq-eqb e.from.0 q (sym last ∙ same))))
  where
    here : get_or (sources (x ∷ xs)) (length xs) 0 ≡ e.from.0
    here =
        get_or-map (λ (y : Edge L). y.from.0) (x ∷ xs) (length xs) e 0 (omega arith)
        ∙ ap (λ (y : Edge L). y.from.0)
        (get_or_from_slice_get (x ∷ xs) (length xs) e e
        (ap (slice_get (x ∷ xs)) (let k : length xs ≡ length (x ∷ xs) - 1 = omega arith in k) ∙ at))
begins_last {L} (x ∷ xs) e q false at is =
    let size : length (sources (x ∷ xs)) ≡ length (x ∷ xs) = length-map (x ∷ xs) (λ (y : Edge L). y.from.0) in (
      omega (arith, size),
      ap (λ k. get_or (sources (x ∷ xs)) (k - 1) 0) size
          ∙ get_or-map (λ (y : Edge L). y.from.0) (x ∷ xs) (length (x ∷ xs) - 1) e 0 (omega arith)
          ∙ ap (λ (y : Edge L). y.from.0) (get_or_from_slice_get (x ∷ xs) (length (x ∷ xs) - 1) e e at)
          ∙ same (eqb e.from.0 q) refl is,
    )
  where
    same : (t : Bool) → eqb e.from.0 q ≡ t → false ≡ not t → e.from.0 ≡ q
    same true h k = eqb-true e.from.0 q h
    same false h k = cc

-- in a list without a last element a run begins
pub begins_none : {L : Type 0} (es : List (Edge L)) (q : ℕ) (b : Bool) → slice_get es (length es - 1) ≡ None → b ≡ true
    → BeginsRun (sources es) q b
begins_none [] q true at is = λ i end same. omega arith
begins_none [] q false at is = cc
begins_none (x ∷ xs) q b at is =
    let found = slice_get-get_or (x ∷ xs) (length xs) x (omega arith) in let e : length (x ∷ xs) - 1 ≡ length xs = omega arith in
    absurd (clash _ _ found (ap (slice_get (x ∷ xs)) (sym e) ∙ at))
  where
    clash : {A : Type 0} (o : Option A) (y : A) → o ≡ Some y → o ≡ None → ⊥
    clash o y f g = cc

-- a list has as many sources as labelled edges
pub length-sources : {L : Type 0} (es : List (Edge L)) → length (sources es) ≡ length es
length-sources {L} es = length-map es (λ (e : Edge L). e.from.0)

-- without edges there are no runs, and each state says that its own would begin in front
pub runs_none : {X : Type 0} (f : X → ℕ) (states : List X) (froms : List ℕ) → froms ≡ [] → All (λ s. f s ≡ 0) states
    → HasRuns (map f states) froms
runs_none f states froms none front = record {
  bounded = λ q l. omega (arith, All-get_or (λ n. n ≡ 0) (map f states) q 0 l (All-map (λ n. n ≡ 0) f states front));
  after = λ i l. absurd (omega (arith, ap length none));
  run = λ i j l. absurd (omega (arith, ap length none));
}
