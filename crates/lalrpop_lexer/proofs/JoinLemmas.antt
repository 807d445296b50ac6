-- Edges that are joined to the last one. For `push_edge` and `explore`.
use Rattle.std.proofs.Common.{◌≡◌, ℕ, zero, suc, ◌+◌, ◌<◌, ◌≤◌, ◌⊎◌, List, [], ◌∷◌, ◌++◌, length, get_or, set, inl, inr}
use Rattle.std.proofs.Common.{⊎_elim, sym, ap, ◌∙◌, refl, subst, arith}
use Rattle.std.proofs.Math.Seq.{get_or-append_seam, set-append_seam}
use Rattle.std.proofs.lemmas.List.{get_or_append_left, length_push, length-map, map_push, get_or-map}
use Rattle.std.proofs.lemmas.Bool.{cases_lt, cases_eq}
use Rattle.lalrpop_lexer.specs.declared.edge.DfaEdge.{DfaEdge}
use Rattle.lalrpop_lexer.specs.Numbering.{EdgeView, edge_at}
use Rattle.lalrpop_lexer.specs.Explore.{edge_view, edges_view, IsGrowing}
use Rattle.lalrpop_lexer.specs.Joined.{Continues, AddsDfaEdge}

-- a list that isn't empty has a last element
last_of : {A : Type 0} (xs : List A) (n : ℕ) → length xs ≡ n + 1
    → (front : List A) × (x : A) × (length front ≡ n) × (xs ≡ front ++ x ∷ [])
last_of [] n size = absurd (omega (arith, size))
last_of (x ∷ []) n size = ([], x, omega (arith, size), refl)
last_of (x ∷ y ∷ ys) zero size = absurd (omega (arith, size))
last_of (x ∷ y ∷ ys) (suc n) size =
    let rest = last_of (y ∷ ys) n (omega (arith, size)) in (x ∷ rest.0, rest.1, omega (arith, rest.2), ap (λ zs. x ∷ zs) rest.3)

-- the last edge goes on to the end of the one that continues it
pub joined_edge : (es : List DfaEdge) (n : ℕ) (v last : DfaEdge) (e : EdgeView) → length es ≡ n + 1 → get_or es n last ≡ last
    → Continues (edge_view last) e → edge_view v ≡ ((edge_view last).0, e.1, e.2) → AddsDfaEdge e (edges_view es) (edges_view (set es n v))
joined_edge es n v last e size is goes becomes =
    let parts = last_of es n size in
    let front = parts.0 in
    let x = parts.1 in
    let at_end : get_or es n last ≡ x =
    ap (λ (ys : List DfaEdge). get_or ys n last) parts.3 ∙ ap (λ (k : ℕ). get_or (front ++ x ∷ []) k last) (sym parts.2)
    ∙ get_or-append_seam front x [] last in
    let same : x ≡ last = sym at_end ∙ is in
    let changed : set es n v ≡ front ++ v ∷ [] =
    ap (λ (ys : List DfaEdge). set ys n v) parts.3 ∙ ap (λ (k : ℕ). set (front ++ x ∷ []) k v) (sym parts.2)
    ∙ set-append_seam front x [] v in
    inr (
      edges_view front,
      edge_view last,
      ap edges_view parts.3 ∙ map_push edge_view front x ∙ ap (λ (f : DfaEdge). edges_view front ++ edge_view f ∷ []) same,
      goes,
      ap edges_view changed ∙ map_push edge_view front v ∙ ap (λ (f : EdgeView). edges_view front ++ f ∷ []) becomes,
    )

-- an edge behind those that it doesn't continue
pub pushed_edge : (es : List DfaEdge) (x : DfaEdge)
    → ((n : ℕ) → length es ≡ n + 1 → Continues (edge_view (get_or es n x)) (edge_view x) → ⊥)
    → AddsDfaEdge (edge_view x) (edges_view es) (edges_view (es ++ x ∷ []))
pushed_edge es x apart = inl (
  map_push edge_view es x,
  λ front last is goes.
      let n = length front in
      let size : length es ≡ n + 1 = sym (length-map es edge_view) ∙ ap length is ∙ length_push front last in
      let at_end : edge_view (get_or es n x) ≡ last =
      sym (get_or-map edge_view es n x (0, 0, 0) (omega (arith, size))) ∙ ap (λ (ys : List EdgeView). get_or ys n (0, 0, 0)) is
      ∙ get_or-append_seam front last [] (0, 0, 0) in
      let P : EdgeView → Type 0 = λ f. Continues f (edge_view x) in
      apart n size (subst P (sym at_end) goes),
)

-- where an edge stands that is behind others
pub last_cases : (front : List EdgeView) (e : EdgeView) (k : ℕ) → k < length (front ++ e ∷ [])
    → ((k < length front) × (edge_at (front ++ e ∷ []) k ≡ edge_at front k)) ⊎ ((k ≡ length front) × (edge_at (front ++ e ∷ []) k ≡ e))
last_cases front e k l =
    ⊎_elim (λ (less : k < length front). inl (less, get_or_append_left front (e ∷ []) (0, 0, 0) k less))
    (λ (more : length front ≤ k). let at : k ≡ length front = omega (arith, l, more, length_push front e) in
    inr (at, ap (λ i. edge_at (front ++ e ∷ []) i) at ∙ get_or-append_seam front e [] (0, 0, 0)))
    (cases_lt k (length front))

-- the last edge of a state goes on further: the states are still numbered as they are first seen
module _ (edges more : ℕ → List EdgeView) (cur : ℕ) (front : List EdgeView) (last joined : EdgeView)
    (same : (s : ℕ) → (s ≡ cur → ⊥) → more s ≡ edges s) (was : edges cur ≡ front ++ last ∷ []) (is : more cur ≡ front ++ joined ∷ [])
    (starts : joined.0 ≡ last.0) (goes : joined.2 ≡ last.2) (ends : last.1 ≤ joined.1) where
  size : (s : ℕ) → length (more s) ≡ length (edges s)
  size s =
      ⊎_elim
      (λ (at : s ≡ cur).
      ap (λ x. length (more x)) at ∙ ap length is ∙ length_push front joined ∙ sym (length_push front last) ∙ sym (ap length was)
      ∙ ap (λ x. length (edges x)) (sym at))
      (λ (apart : s ≡ cur → ⊥). ap length (same s apart)) (cases_eq s cur)

  -- the edge at a place before and after
  record IsAlike (old new : EdgeView) : Type 0 where
    start : new.0 ≡ old.0
    leads : new.2 ≡ old.2
    further : old.1 ≤ new.1

  alike_at : (k : ℕ) → k < length (front ++ last ∷ []) → IsAlike (edge_at (front ++ last ∷ []) k) (edge_at (front ++ joined ∷ []) k)
  alike_at k l =
      ⊎_elim
      (λ h. let now = get_or_append_left front (joined ∷ []) (0, 0, 0) k h.0 in
      rw (h.1, now) (record { start = refl; leads = refl; further = omega arith }))
      (λ h. let now = ap (λ i. edge_at (front ++ joined ∷ []) i) h.0 ∙ get_or-append_seam front joined [] (0, 0, 0) in
      rw (h.1, now) (record { start = starts; leads = goes; further = ends }))
      (last_cases front last k l)

  alike : (s k : ℕ) → k < length (edges s) → IsAlike (edge_at (edges s) k) (edge_at (more s) k)
  alike s k l =
      ⊎_elim
      (λ (at : s ≡ cur). rw (at, was, is) (alike_at k (let P : ℕ → Type 0 = λ x. k < length (edges x) in omega (arith, subst P at l, ap length was))))
      (λ (apart : s ≡ cur → ⊥). rw (same s apart) (record { start = refl; leads = refl; further = omega arith })) (cases_eq s cur)

  pub grow_joined : (n : ℕ) (parent place : ℕ → ℕ) → IsGrowing edges n parent place cur → IsGrowing more n parent place cur
  grow_joined n parent place before = record {
    seen = record {
      starts = λ s j k below order l.
          let h : k < length (edges s) = omega (arith, size s, l) in
          rw ((alike s j (omega (arith, order, h))).start, (alike s k h).start) (before.seen.starts s j k below order h);
      inside = λ s k below l. let h : k < length (edges s) = omega (arith, size s, l) in
          rw (alike s k h).leads (before.seen.inside s k below h);
      nonempty = λ s k below l. let h : k < length (edges s) = omega (arith, size s, l) in
          omega (arith, (alike s k h).start, (alike s k h).further, before.seen.nonempty s k below h);
      before = before.seen.before;
      within = λ s some below. omega (arith, size (parent s), before.seen.within s some below);
      leads = λ s some below. (alike (parent s) (place s) (before.seen.within s some below)).leads ∙ before.seen.leads s some below;
      rising = before.seen.rising;
      first = λ p k below l. let h : k < length (edges p) = omega (arith, size p, l) in
          rw (alike p k h).leads (before.seen.first p k below h);
    };
    current = before.current;
    empty = λ s after. same s (λ at. omega (arith, at, after)) ∙ before.empty s after;
    late = λ s some below. ⊎_elim inl (λ at. inr (at.0, omega (arith, size cur, at.1))) (before.late s some below);
  }
