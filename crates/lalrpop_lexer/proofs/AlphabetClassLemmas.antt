-- The alphabet classes, into which the ranges of all transitions fall. For `pieces_of`.
use Rattle.std.proofs.Common.{◌≡◌, ℕ, ◌+◌, ◌<◌, ◌≤◌, ◌⊎◌, List, [], ◌∷◌, length, get_or, map, Contains}
use Rattle.std.proofs.Common.{inl, inr, ⊎_elim, sym, ap, ◌∙◌, refl, subst, arith, eqb, eq-eqb}
use Rattle.std.specs.Prelude.{filter}
use Rattle.std.specs.Ordering.{match_ordering, ordering_then, nat_cmp}
use Rattle.std.proofs.lemmas.Map.Lookups.{exact_unsigned}
use Rattle.std.specs.declared.cmp.Ordering.{Ordering}
use Rattle.std.specs.declared.cmp.Ordering.TheVariants.{Less, Equal, Greater}
use Rattle.std.specs.BTreeSet.{insert_key}
use Rattle.std.proofs.lemmas.Bool.{cases_lt}
use Rattle.std.proofs.lemmas.List.{get_or-map, get_or_default}
use Rattle.std.proofs.lemmas.List.Elements.{All-get_or}
use Rattle.lalrpop_lexer_nfa.specs.declared.test.Test.{Test}
use Rattle.lalrpop_lexer_nfa.specs.declared.edge.Edge.{Edge}
use Rattle.lalrpop_lexer_nfa.specs.Paths.{Graph, TransitionEdge, transition_view}
use Rattle.lalrpop_lexer_nfa.proofs.ListLemmas.{Contains-nil, Contains-head, Contains-tail, Contains-cons_cases, Contains-filter}
use Rattle.lalrpop_lexer_nfa.proofs.ListLemmas.{Contains-from_map}
use Rattle.lalrpop_lexer_nfa.specs.Ranges.{IsAlphabetClass, AreAlphabetClasses}
use Rattle.lalrpop_lexer.specs.Targets.{start_at}
use Rattle.lalrpop_lexer.specs.Explore.{end_at, AreClassesOf}

abbrev none : Test
none = record { start = 0; end = 0 }

start_is : (pieces : List Test) (i : ℕ) → i < length pieces → start_at pieces i ≡ (get_or pieces i none).start
start_is pieces i l = get_or-map (λ (t : Test). t.start) pieces i none 0 l

end_is : (pieces : List Test) (i : ℕ) → i < length pieces → end_at pieces i ≡ (get_or pieces i none).end
end_is pieces i l = get_or-map (λ (t : Test). t.end) pieces i none 0 l

-- what each edge reads is one of the ranges
pub pieces_from_split : (t : Graph) (tests pieces : List Test)
    → ((e : TransitionEdge) → Contains t.tests e → (k : Test) × Contains tests k × (k.start ≡ e.start) × (k.end ≡ e.end))
    → AreAlphabetClasses tests pieces → AreClassesOf t pieces
pieces_from_split t tests pieces known split = record {
  filled = λ i l. let p = piece i l in omega (arith, p.nonempty, start_is pieces i l, end_is pieces i l);
  ascending = λ i j order l. let up = split.ascending i j none order l in
      omega (arith, up, start_is pieces j l, end_is pieces i (omega arith));
  same = λ i q c d x l a b e f reads.
      let k = known reads.0 reads.1 in
      let p = piece i l in
      let holds = p.undivided k.0 k.1 c d (omega (arith, start_is pieces i l)) (omega (arith, end_is pieces i l))
      (omega (arith, start_is pieces i l)) (omega (arith, end_is pieces i l))
      (omega (arith, k.2, reads.3), omega (arith, k.3, reads.4)) in
      (reads.0, reads.1, reads.2, omega (arith, k.2, holds.0), omega (arith, k.3, holds.1), reads.5);
  covers = λ q c x reads.
      let k = known reads.0 reads.1 in
      let here = split.all c (k.0, k.1, (omega (arith, k.2, reads.3), omega (arith, k.3, reads.4))) in
      let i = here.1.0 in
      let l = here.1.1 in
      let at : get_or pieces i none ≡ here.0 = get_or_default pieces i none here.0 l ∙ here.1.2 in (
        i,
        l,
        omega (arith, start_is pieces i l, ap (λ (t : Test). t.start) at, here.2.0),
        omega (arith, end_is pieces i l, ap (λ (t : Test). t.end) at, here.2.1),
      );
}
  where
    piece : (i : ℕ) → i < length pieces → IsAlphabetClass tests (get_or pieces i none)
    piece i l = All-get_or (IsAlphabetClass tests) pieces i none l split.each

both_equal : (a b : Ordering) → ordering_then a b ≡ Equal → (a ≡ Equal) × (b ≡ Equal)
both_equal Less b e = cc
both_equal Equal b e = (refl, e)
both_equal Greater b e = cc

-- ranges that compare as equal are one
pub exact_test : (x y : Test) → ordering_then (nat_cmp x.start y.start) (nat_cmp x.end y.end) ≡ Equal → x ≡ y
exact_test x y e =
    let both = both_equal (nat_cmp x.start y.start) (nat_cmp x.end y.end) e in
    let first : x.start ≡ y.start = exact_unsigned x.start y.start both.0 in
    let last : x.end ≡ y.end = exact_unsigned x.end y.end both.1 in
    λ i. record { start = first i; end = last i }

-- keys stay when one more is inserted
kept_key : {K : Type 0} (cmp : K → K → Ordering) (k : K) (ks : List K) (x : K) → Contains ks x → Contains (insert_key cmp ks k) x
kept_key cmp k [] x h = absurd (Contains-nil x h)
kept_key {K} cmp k (y ∷ ks) x h = go (kept_key cmp k ks x) (cmp k y)
  where
    go : (Contains ks x → Contains (insert_key cmp ks k) x) → (o : Ordering)
        → Contains (match_ordering o (k ∷ y ∷ ks) (y ∷ ks) (y ∷ insert_key cmp ks k)) x
    go again Less = Contains-tail k (y ∷ ks) x h
    go again Equal = h
    go again Greater =
        ⊎_elim (λ at. let P : K → Type 0 = Contains (y ∷ insert_key cmp ks k) in subst P at (Contains-head y (insert_key cmp ks k)))
        (λ more. Contains-tail y (insert_key cmp ks k) x (again more)) (Contains-cons_cases y ks x h)

new_key : {K : Type 0} (cmp : K → K → Ordering) → ((x y : K) → cmp x y ≡ Equal → x ≡ y) → (k : K) (ks : List K)
    → Contains (insert_key cmp ks k) k
new_key cmp exact k [] = Contains-head k []
new_key {K} cmp exact k (y ∷ ks) = go (new_key cmp exact k ks) (cmp k y) refl
  where
    go : Contains (insert_key cmp ks k) k → (o : Ordering) → cmp k y ≡ o
        → Contains (match_ordering o (k ∷ y ∷ ks) (y ∷ ks) (y ∷ insert_key cmp ks k)) k
    go again Less is = Contains-head k (y ∷ ks)
    go again Equal is = let P : K → Type 0 = Contains (y ∷ ks) in subst P (sym (exact k y is)) (Contains-head y ks)
    go again Greater is = Contains-tail y (insert_key cmp ks k) k again

-- the labels of the edges of the first states are keys, and those of the next state but the edges that are left
pub record AreLabels (edges left : List (Edge Test)) (state : ℕ) (keys : List Test) : Type 0 where
  pub known : (e : Edge Test) → Contains edges e → e.from.0 < state → Contains keys e.label
  pub own : (e : Edge Test) → Contains edges e → e.from.0 ≡ state → Contains keys e.label ⊎ Contains left e

-- before the first transition of a state, all of them are left
pub labels_start : (edges left : List (Edge Test)) (state : ℕ) (keys : List Test)
    → left ≡ filter (λ (e : Edge Test). eqb e.from.0 state) edges →
    ((e : Edge Test) → Contains edges e → e.from.0 < state → Contains keys e.label) → AreLabels edges left state keys
labels_start edges left state keys is h = record {
  known = h;
  own = λ e among at. inr (rw is (Contains-filter (λ (e : Edge Test). eqb e.from.0 state) edges e among (eq-eqb e.from.0 state at)));
}

-- the range of one more transition is inserted among the keys
pub labels_more : (edges whole left : List (Edge Test)) (state : ℕ) (cmp : Test → Test → Ordering)
    (exact : (x y : Test) → cmp x y ≡ Equal → x ≡ y) (keys : List Test) (e : Edge Test) → whole ≡ e ∷ left →
    AreLabels edges whole state keys → AreLabels edges left state (insert_key cmp keys e.label)
labels_more edges whole left state cmp exact keys e is h = record {
  known = λ f among below. kept_key cmp e.label keys f.label (h.known f among below);
  own = λ f among at.
      ⊎_elim (λ there. inl (kept_key cmp e.label keys f.label there))
      (λ waits. ⊎_elim
      (λ same. let P : Edge Test → Type 0 = λ g. Contains (insert_key cmp keys e.label) g.label in
      inl (subst P same (new_key cmp exact e.label keys)))
      inr (Contains-cons_cases e left f (rw is at waits)))
      (h.own f among at);
}

-- once no transition is left, the ranges of this state's transitions are keys too
pub labels_end : (edges left : List (Edge Test)) (state : ℕ) (keys : List Test) → left ≡ [] → AreLabels edges left state keys →
    (e : Edge Test) → Contains edges e → e.from.0 < state + 1 → Contains keys e.label
labels_end edges left state keys none h e among below =
    ⊎_elim (λ (less : e.from.0 < state). h.known e among less)
    (λ (ge : state ≤ e.from.0). ⊎_elim (λ there. there) (λ waits. absurd (Contains-nil e (rw none at waits)))
    (h.own e among (omega arith)))
    (cases_lt e.from.0 state)

-- labels of all edges as ranges of the graph
pub labels_known : (t : Graph) (edges : List (Edge Test)) (keys : List Test) → t.tests ≡ map transition_view edges
    → ((e : Edge Test) → Contains edges e → Contains keys e.label) →
    (e : TransitionEdge) → Contains t.tests e → (k : Test) × Contains keys k × (k.start ≡ e.start) × (k.end ≡ e.end)
labels_known t edges keys is h e among =
    let found = Contains-from_map transition_view edges e (rw is at among) in
    (found.0.label, h found.0 found.1, ap (λ (f : TransitionEdge). f.start) found.2, ap (λ (f : TransitionEdge). f.end) found.2)
