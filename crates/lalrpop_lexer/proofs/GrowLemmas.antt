-- An automaton whose states are numbered as they are first seen, with one more transition. For `explore`.
use Rattle.std.proofs.Common.{◌≡◌, ℕ, ◌+◌, ◌<◌, ◌≤◌, ◌⊎◌, List, [], ◌∷◌, ◌++◌, length, inl, inr}
use Rattle.std.proofs.Common.{⊎_elim, sym, ap, ◌∙◌, subst, arith, length-append}
use Rattle.std.proofs.Math.Seq.{get_or-append_seam}
use Rattle.std.proofs.lemmas.List.{get_or_append_left}
use Rattle.std.proofs.lemmas.Bool.{cases_lt, cases_eq}
use Rattle.lalrpop_lexer.specs.Numbering.{EdgeView, edge_at}
use Rattle.lalrpop_lexer.specs.Explore.{IsGrowing}

module _ (edges edges' : ℕ → List EdgeView) (cur : ℕ) (e : EdgeView)
    (same : (s : ℕ) → (s ≡ cur → ⊥) → edges' s ≡ edges s) (grown : edges' cur ≡ edges cur ++ e ∷ []) where
  abbrev Old : ℕ → ℕ → Type 0
  Old s k = (k < length (edges s)) × (edge_at (edges' s) k ≡ edge_at (edges s) k)

  edge_cases : (s k : ℕ) → k < length (edges' s) → Old s k ⊎ (s ≡ cur) × (k ≡ length (edges cur))
      × (edge_at (edges' s) k ≡ e)
  edge_cases s k h =
      ⊎_elim
      (λ (at : s ≡ cur).
      let list : edges' s ≡ edges cur ++ e ∷ [] = ap edges' at ∙ grown in
      let size : length (edges' s) ≡ length (edges cur) + 1 = ap length list ∙ length-append (edges cur) (e ∷ []) in
      ⊎_elim
      (λ (less : k < length (edges cur)).
      inl (
        let P : ℕ → Type 0 = λ x. k < length (edges x) in subst P (sym at) less,
        ap (λ es. edge_at es k) list ∙ get_or_append_left (edges cur) (e ∷ []) _ k less ∙ ap (λ x. edge_at (edges x) k) (sym at),
      ))
      (λ (more : length (edges cur) ≤ k).
      let here : k ≡ length (edges cur) = omega arith in
      inr (
        at,
        here,
        ap (λ es. edge_at es k) list ∙ ap (λ i. edge_at (edges cur ++ e ∷ []) i) here
            ∙ get_or-append_seam (edges cur) e [] _,
      ))
      (cases_lt k (length (edges cur))))
      (λ (apart : s ≡ cur → ⊥). inl
      (let P : List EdgeView → Type 0 = λ es. k < length es in subst P (same s apart) h, ap (λ es. edge_at es k) (same s apart)))
      (cases_eq s cur)

  kept : (s k : ℕ) → k < length (edges s) → (k < length (edges' s)) × (edge_at (edges' s) k ≡ edge_at (edges s) k)
  kept s k h =
      ⊎_elim
      (λ (at : s ≡ cur).
      let list : edges' s ≡ edges s ++ e ∷ [] = ap edges' at ∙ grown ∙ ap (λ x. edges x ++ e ∷ []) (sym at) in (
        omega (arith, ap length list, length-append (edges s) (e ∷ [])),
        ap (λ es. edge_at es k) list
            ∙ get_or_append_left (edges s) (e ∷ []) _ k h,
      ))
      (λ (apart : s ≡ cur → ⊥). (
        let P : List EdgeView → Type 0 = λ es. k < length es in
            subst P (sym (same s apart)) h,
        ap (λ es. edge_at es k) (same s apart),
      ))
      (cases_eq s cur)

  module _ (n : ℕ) (parent place : ℕ → ℕ) (before : IsGrowing edges n parent place cur) (filled : e.0 ≤ e.1)
      (above : (j : ℕ) → j < length (edges cur) → (edge_at (edges cur) j).0 < e.0) where
    starts : (s j k : ℕ) → s < n → j < k → k < length (edges' s) → (edge_at (edges' s) j).0 < (edge_at (edges' s) k).0
    starts s j k below order h =
        ⊎_elim
        (λ old. rw (old.1, (kept s j (omega (arith, old.0))).1) (before.seen.starts s j k below order old.0))
        (λ new.
        let j_in : j < length (edges s) = rw new.0 (omega (arith, new.1)) in
        let P : ℕ → Type 0 = λ x. (edge_at (edges x) j).0 < e.0 in
        rw (new.2, (kept s j j_in).1) (subst P (sym new.0) (above j (omega (arith, new.1)))))
        (edge_cases s k h)

    nonempty : (s k : ℕ) → s < n → k < length (edges' s) → (edge_at (edges' s) k).0 ≤ (edge_at (edges' s) k).1
    nonempty s k below h = ⊎_elim (λ old. rw old.1 (before.seen.nonempty s k below old.0)) (λ new. rw new.2 filled) (edge_cases s k h)

    -- the edge leads to a state that is known
    pub grow_known : e.2 < n → IsGrowing edges' n parent place cur
    grow_known known = record {
      seen = record {
        starts = starts;
        inside = λ s k below h. ⊎_elim (λ old. rw old.1 (before.seen.inside s k below old.0)) (λ new. rw new.2 known)
            (edge_cases s k h);
        nonempty = nonempty;
        before = before.seen.before;
        within = λ s some below. (kept (parent s) (place s) (before.seen.within s some below)).0;
        leads = λ s some below. ap (λ x. x.2) (kept (parent s) (place s) (before.seen.within s some below)).1
            ∙ before.seen.leads s some below;
        rising = before.seen.rising;
        first = λ p k below h.
            ⊎_elim
            (λ old. rw old.1 (before.seen.first p k below old.0))
            (λ new. rw (new.2, new.0, new.1) (λ some. ⊎_elim inl (λ at. inr (at.0, omega (arith, at.1))) (before.late e.2 some known)))
            (edge_cases p k h);
      };
      current = before.current;
      empty = λ s after. same s (λ at. omega arith) ∙ before.empty s after;
      late = λ s some below. ⊎_elim inl (λ at. inr (at.0, omega (arith, at.1, ap length grown, length-append (edges cur) (e ∷ []))))
          (before.late s some below);
    }

    -- the edge leads to a new state
    module _ (parent' place' : ℕ → ℕ) (new_to : e.2 ≡ n) (parent_old : (s : ℕ) → s < n → parent' s ≡ parent s)
        (place_old : (s : ℕ) → s < n → place' s ≡ place s)
        (parent_new : parent' n ≡ cur) (place_new : place' n ≡ length (edges cur)) where
      -- a state with an edge is one of the old ones
      old_state : (s k : ℕ) → s < n + 1 → k < length (edges' s) → s < n
      old_state s k below h =
          ⊎_elim (λ (less : s < n). less)
          (λ (ge : n ≤ s).
          let none : edges' s ≡ [] = same s (λ at. omega (arith, before.current)) ∙ before.empty s (omega (arith, before.current)) in
          absurd (omega (arith, ap length none)))
          (cases_lt s n)

      late_new : (s : ℕ) → 0 < s → s < n + 1 → (parent' s < cur) ⊎ (parent' s ≡ cur) × (place' s < length (edges' cur))
      late_new s some below =
          ⊎_elim
          (λ (less : s < n).
          ⊎_elim (λ earlier. inl (omega (arith, parent_old s less)))
          (λ at. inr (
            parent_old s less ∙ at.0,
            omega (arith, place_old s less, at.1, ap length grown, length-append (edges cur) (e ∷ [])),
          ))
          (before.late s some less))
          (λ (ge : n ≤ s). let at : s ≡ n = omega arith in
          inr (ap parent' at ∙ parent_new, omega (arith, ap place' at, place_new, ap length grown, length-append (edges cur) (e ∷ []))))
          (cases_lt s n)

      new_edge : (length (edges cur) < length (edges' cur)) × (edge_at (edges' cur) (length (edges cur)) ≡ e)
      new_edge = (
        omega (arith, ap length grown, length-append (edges cur) (e ∷ [])),
        ap (λ es. edge_at es (length (edges cur))) grown
            ∙ get_or-append_seam (edges cur) e [] _,
      )

      -- the edge where a state was first seen
      first_edge : (s : ℕ) → 0 < s → s < n + 1 → (place' s < length (edges' (parent' s)))
          × ((edge_at (edges' (parent' s)) (place' s)).2 ≡ s)
      first_edge s some below =
          ⊎_elim
          (λ (less : s < n).
          let k = kept (parent s) (place s) (before.seen.within s some less) in
          let P : ℕ → ℕ → Type 0 = λ p q. (q < length (edges' p)) × ((edge_at (edges' p) q).2 ≡ s) in
          subst (λ p. P p (place' s)) (sym (parent_old s less))
          (subst (P (parent s)) (sym (place_old s less)) (k.0, ap (λ x. x.2) k.1 ∙ before.seen.leads s some less)))
          (λ (ge : n ≤ s).
          let at : s ≡ n = omega arith in
          let P : ℕ → ℕ → Type 0 = λ p q. (q < length (edges' p)) × ((edge_at (edges' p) q).2 ≡ s) in
          subst (λ p. P p (place' s)) (sym (ap parent' at ∙ parent_new))
          (subst (P cur) (sym (ap place' at ∙ place_new)) (new_edge.0, ap (λ x. x.2) new_edge.1 ∙ new_to ∙ sym at)))
          (cases_lt s n)

      rising : (s r : ℕ) → 0 < s → s < r → r < n + 1 → (parent' s < parent' r) ⊎ (parent' s ≡ parent' r)
          × (place' s < place' r)
      rising s r some order below =
          ⊎_elim
          (λ (less : r < n).
          ⊎_elim (λ earlier. inl (omega (arith, parent_old s (omega arith), parent_old r less)))
          (λ at. inr (
            parent_old s (omega arith) ∙ at.0 ∙ sym (parent_old r less),
            omega (arith, place_old s (omega arith), place_old r less, at.1),
          ))
          (before.seen.rising s r some order less))
          (λ (ge : n ≤ r).
          let at : r ≡ n = omega arith in
          ⊎_elim (λ earlier. inl (omega (arith, parent_old s (omega arith), ap parent' at, parent_new)))
          (λ here. inr (
            parent_old s (omega arith) ∙ here.0 ∙ sym (ap parent' at ∙ parent_new),
            omega (arith, place_old s (omega arith), ap place' at, place_new, here.1),
          ))
          (before.late s some (omega arith)))
          (cases_lt r n)

      first : (p k : ℕ) → p < n + 1 → k < length (edges' p) → 0 < (edge_at (edges' p) k).2 →
          (parent' ((edge_at (edges' p) k).2) < p) ⊎ (parent' ((edge_at (edges' p) k).2) ≡ p)
          × (place' ((edge_at (edges' p) k).2) ≤ k)
      first p k below h =
          let inside = old_state p k below h in
          ⊎_elim
          (λ old. rw old.1 (λ some.
          let t = (edge_at (edges p) k).2 in
          let target : t < n = before.seen.inside p k inside old.0 in
          ⊎_elim (λ earlier. inl (omega (arith, parent_old t target)))
          (λ at. inr (parent_old t target ∙ at.0, omega (arith, place_old t target, at.1)))
          (before.seen.first p k inside old.0 some)))
          (λ new. rw (new.2, new_to) (λ some. inr (parent_new ∙ sym new.0, omega (arith, place_new, new.1))))
          (edge_cases p k h)

      -- with a transition to a new state, the states are still numbered as they are first seen
      pub grow_new : IsGrowing edges' (n + 1) parent' place' cur
      grow_new = record {
        seen = record {
          starts = λ s j k below order h. starts s j k (old_state s k below h) order h;
          inside = λ s k below h. ⊎_elim (λ old. rw old.1 (omega (arith, before.seen.inside s k (old_state s k below h) old.0)))
              (λ new. rw (new.2, new_to) (omega arith)) (edge_cases s k h);
          nonempty = λ s k below h. nonempty s k (old_state s k below h) h;
          before = λ s some below.
              ⊎_elim (λ (less : s < n). omega (arith, parent_old s less, before.seen.before s some less))
              (λ (ge : n ≤ s). let at : s ≡ n = omega arith in omega (arith, ap parent' at, parent_new, before.current))
              (cases_lt s n);
          within = λ s some below. (first_edge s some below).0;
          leads = λ s some below. (first_edge s some below).1;
          rising = rising;
          first = first;
        };
        current = omega (arith, before.current);
        empty = λ s after. same s (λ at. omega arith) ∙ before.empty s after;
        late = late_new;
      }
