-- One more transition of the state under way. For the loop that gives a state its transitions.
use Rattle.std.proofs.Common.{◌≡◌, ℕ, ◌+◌, ◌<◌, ◌≤◌, ◌⊎◌, List, [], ◌∷◌, ◌++◌, length, get_or}
use Rattle.std.proofs.Common.{Contains, Vec, Global, Bool, true, false, cond, eqb, eq-eqb, inl, inr, ⊎_elim, sym, ap, ◌∙◌, refl}
use Rattle.std.proofs.Common.{subst, arith, length-append, append-nil, append_assoc}
use Rattle.std.proofs.Math.Seq.{get_or-append_seam}
use Rattle.std.proofs.lemmas.Bool.{cases_lt, cases_eq, eqb-true}
use Rattle.std.proofs.lemmas.List.{get_or_append_left, length_push}
use Rattle.lalrpop_lexer_nfa.specs.declared.test.Test.{Test}
use Rattle.lalrpop_lexer_nfa.specs.Paths.{Graph, HasTransition}
use Rattle.lalrpop_lexer_nfa.specs.Sets.{IsEpsilonClosure, IsSubsetStep}
use Rattle.lalrpop_lexer.specs.Numbering.{EdgeView, edge_at}
use Rattle.lalrpop_lexer.specs.Subsets.{set_at}
use Rattle.lalrpop_lexer.specs.Targets.{items_at, start_at, AreTargets}
use Rattle.lalrpop_lexer.specs.Groups.{AreGroups}
use Rattle.lalrpop_lexer.specs.Simulation.{AreApart}
use Rattle.lalrpop_lexer.specs.States.{IsInterned}
use Rattle.lalrpop_lexer.specs.Explore.{end_at, AreClassesOf, IsGrowing, Explores}
use Rattle.lalrpop_lexer.specs.Joined.{Continues, AddsDfaEdge}
use Rattle.lalrpop_lexer.proofs.GrowLemmas.{grow_known, grow_new}
use Rattle.lalrpop_lexer.proofs.JoinLemmas.{last_cases, grow_joined}

-- sets that were there stay
pub set_at-extends : (old more : List (List ℕ)) (i : ℕ) → i < length old → set_at (old ++ more) i ≡ set_at old i
set_at-extends old more i l = get_or_append_left old more [] i l

-- for each piece, where the edges from the set lead which read its start
pub record ArePieceTargets (t : Graph) (set : List ℕ) (pieces : List Test) (targets : ℕ → List ℕ) : Type 0 where
  pub only : (i x : ℕ) → i < length pieces → Contains (targets i) x → (q : ℕ) × Contains set q
      × HasTransition t q (start_at pieces i) x
  pub all : (i q x : ℕ) → i < length pieces → Contains set q → HasTransition t q (start_at pieces i) x → Contains (targets i) x

-- a piece has the targets of its group
pub targets_of_groups : (t : Graph) (set : List ℕ) (pieces : List Test) (numbers : List ℕ) (firsts : List Test)
    (targets : List (Vec ℕ Global)) → AreGroups t pieces numbers firsts → AreTargets t set firsts targets
    → ArePieceTargets t set pieces (λ i. items_at targets (get_or numbers i 0))
targets_of_groups t set pieces numbers firsts targets groups moves = record {
  only = λ i x l h.
      let from = moves.only (get_or numbers i 0) x h in
      (from.1.0, from.1.1, (groups.alike i from.1.0 x l).1 from.1.2);
  all = λ i q x l among reads.
      moves.all (get_or numbers i 0) q x (groups.inside i l) among ((groups.alike i q x l).0 reads);
}

-- a step by any number of a piece is one by its start
pub step_of_piece : (t : Graph) (pieces : List Test) (targets : ℕ → List ℕ) (set new : List ℕ) (i c : ℕ)
    → AreClassesOf t pieces → ArePieceTargets t set pieces targets → i < length pieces →
    start_at pieces i ≤ c → c ≤ end_at pieces i → IsEpsilonClosure t (targets i) new → IsSubsetStep t set c new
step_of_piece t pieces targets set new i c p moves l low high closed = record {
  only = λ y h.
      let x = closed.only y h in
      let m = moves.only i x.0 l x.1 in
      (m.0, x.0, m.1, p.same i m.0 (start_at pieces i) c x.0 l (omega arith) (p.filled i l) low high m.2, x.2);
  all = λ q x y among reads follows.
      closed.all x y (moves.all i q x l among (p.same i q c (start_at pieces i) x l low high (omega arith) (p.filled i l) reads)) follows;
}

-- a piece begins before it or a later one ends
start_before_end : (t : Graph) (pieces : List Test) → AreClassesOf t pieces → (i j : ℕ) → i ≤ j → j < length pieces
    → start_at pieces i ≤ end_at pieces j
start_before_end t pieces p i j order l =
    ⊎_elim (λ (less : i < j). omega (arith, p.filled i (omega (arith, less, l)), p.ascending i j less l, p.filled j l))
    (λ (more : j ≤ i). let at : i ≡ j = omega (arith, order, more) in omega (arith, ap (start_at pieces) at, p.filled j l)) (cases_lt i j)

-- the edges of the first pieces
pub record ExploresSome (t : Graph) (pieces : List Test) (targets : ℕ → List ℕ) (done cur : ℕ)
    (old new : List (List ℕ)) (out : List EdgeView) : Type 0 where
  pub extends : (more : List (List ℕ)) × (new ≡ old ++ more)
  pub grows : (edges more : ℕ → List EdgeView) (parent place : ℕ → ℕ)
      → ((s : ℕ) → (s ≡ cur → ⊥) → more s ≡ edges s) → edges cur ≡ [] → more cur ≡ out →
      IsGrowing edges (length old) parent place cur → (parents places : ℕ → ℕ) × IsGrowing more (length new) parents places cur
  pub inside : (k : ℕ) → k < length out → (edge_at out k).2 < length new
  pub fits : (k c : ℕ) → k < length out → (edge_at out k).0 ≤ c → c ≤ (edge_at out k).1
      → IsSubsetStep t (set_at old cur) c (set_at new (edge_at out k).2)
  pub below : (k : ℕ) → k < length out → (i j : ℕ) × (i ≤ j) × (j < done) × ((edge_at out k).0 ≡ start_at pieces i)
      × ((edge_at out k).1 ≡ end_at pieces j)
  pub apart : (j k : ℕ) → j < k → k < length out → (edge_at out j).1 < (edge_at out k).0
  pub covers : (j x : ℕ) → j < done → Contains (targets j) x → (k : ℕ) × (k < length out)
      × ((edge_at out k).0 ≤ start_at pieces j) × (end_at pieces j ≤ (edge_at out k).1)

-- a list of edges with another in one place
abbrev put : (ℕ → List EdgeView) → ℕ → List EdgeView → ℕ → List EdgeView
put edges cur out s = cond (eqb s cur) out (edges s)

put_same : (edges : ℕ → List EdgeView) (cur : ℕ) (out : List EdgeView) → put edges cur out cur ≡ out
put_same edges cur out = rw (eq-eqb cur cur refl) refl

put_other : (edges : ℕ → List EdgeView) (cur : ℕ) (out : List EdgeView) (s : ℕ) → (s ≡ cur → ⊥)
    → put edges cur out s ≡ edges s
put_other edges cur out s apart = go (eqb s cur) refl
  where
    go : (b : Bool) → eqb s cur ≡ b → cond b out (edges s) ≡ edges s
    go true e = absurd (apart (eqb-true s cur e))
    go false e = refl

module _ (t : Graph) (pieces : List Test) (targets : ℕ → List ℕ) (done cur : ℕ) (old mid new : List (List ℕ))
    (out : List EdgeView) (to : ℕ)
    (p : AreClassesOf t pieces) (moves : ArePieceTargets t (set_at old cur) pieces targets) (l : done < length pieces)
    (before : ExploresSome t pieces targets done cur old mid out) (found : IsInterned t (targets done) mid new to) where
  abbrev pub e : EdgeView
  e = (start_at pieces done, end_at pieces done, to)

  extended : (more : List (List ℕ)) × (new ≡ mid ++ more)
  extended = ⊎_elim (λ h. ([], h.1 ∙ sym (append-nil mid))) (λ h. (h.1.0 ∷ [], h.1.1)) found.place

  longer : length mid ≤ length new
  longer = omega (arith, ap length extended.1, length-append mid extended.0)

  to_inside : to < length new
  to_inside = ⊎_elim (λ h. omega (arith, h.0, longer)) (λ h. omega (arith, h.0, ap length h.1.1, length_push mid h.1.0)) found.place

  edge_cases : (k : ℕ) → k < length (out ++ e ∷ []) → ((k < length out) × (edge_at (out ++ e ∷ []) k ≡ edge_at out k))
      ⊎ ((k ≡ length out) × (edge_at (out ++ e ∷ []) k ≡ e))
  edge_cases k h =
      ⊎_elim (λ (less : k < length out). inl (less, get_or_append_left out (e ∷ []) (0, 0, 0) k less))
      (λ (more : length out ≤ k). let at : k ≡ length out = omega (arith, length_push out e) in
      inr (at, ap (λ i. edge_at (out ++ e ∷ []) i) at ∙ get_or-append_seam out e [] (0, 0, 0)))
      (cases_lt k (length out))

  above : (j : ℕ) → j < length out → (edge_at out j).0 < start_at pieces done
  above j h = let b = before.below j h in let up = p.ascending b.0 done (omega (arith, b.2, b.3)) l in
      let f = p.filled b.0 (omega (arith, b.2, b.3, l)) in omega (arith, b.4, up, f)

  -- one more alphabet class with targets: a transition to the state that was found for them
  explore_more : ExploresSome t pieces targets (done + 1) cur old new (out ++ e ∷ [])
  explore_more = record {
    extends = (
      before.extends.0 ++ extended.0,
      extended.1 ∙ ap (λ xs. xs ++ extended.0) before.extends.1
          ∙ append_assoc old before.extends.0 extended.0,
    );
    grows = λ edges more parent place same empty grown growing.
        let middle : ℕ → List EdgeView = put more cur out in
        let g = before.grows edges middle parent place (λ s apart. put_other more cur out s apart ∙ same s apart) empty
        (put_same more cur out) growing in
        let same' : (s : ℕ) → (s ≡ cur → ⊥) → more s ≡ middle s = λ s apart. sym (put_other more cur out s apart) in
        let grown' : more cur ≡ middle cur ++ e ∷ [] = grown ∙ ap (λ xs. xs ++ e ∷ []) (sym (put_same more cur out)) in
        let above' : (j : ℕ) → j < length (middle cur) → (edge_at (middle cur) j).0 < e.0 = rw (put_same more cur out) above in
        ⊎_elim
        (λ known. rw known.1 (
          g.0,
          g.1,
          grow_known middle more cur e same' grown' (length mid) g.0 g.1 g.2 (p.filled done l) above' known.0,
        ))
        (λ fresh.
        let n = length mid in
        let parent' : ℕ → ℕ = λ s. cond (eqb s n) cur (g.0 s) in
        let place' : ℕ → ℕ = λ s. cond (eqb s n) (length (middle cur)) (g.1 s) in
        let size : length new ≡ n + 1 = ap length fresh.1.1 ∙ length_push mid fresh.1.0 in
        rw size (
          parent',
          place',
          grow_new middle more cur e same' grown' n g.0 g.1 g.2 (p.filled done l) above' parent' place' fresh.0
              (λ s less. old_one n cur (g.0 s) s less) (λ s less. old_one n (length (middle cur)) (g.1 s) s less) (new_one n cur (g.0 n))
              (new_one n (length (middle cur)) (g.1 n)),
        ))
        found.place;
    inside = λ k h. ⊎_elim (λ k. rw k.1 (omega (arith, before.inside _ k.0, longer))) (λ k. rw k.1 to_inside) (edge_cases k h);
    fits = λ k c h.
        ⊎_elim
        (λ x. rw x.1 (λ low high.
        let stays = ap (λ vs. set_at vs (edge_at out k).2) extended.1
        ∙ set_at-extends mid extended.0 (edge_at out k).2 (before.inside k x.0) in
        rw stays (before.fits k c x.0 low high)))
        (λ x. rw x.1 (λ low high. step_of_piece t pieces targets (set_at old cur) (set_at new to) done c p moves l low high
        found.closed))
        (edge_cases k h);
    below = λ k h.
        ⊎_elim (λ x. let b = before.below k x.0 in
        (b.0, b.1, b.2, omega (arith, b.3), ap (λ (f : EdgeView). f.0) x.1 ∙ b.4, ap (λ (f : EdgeView). f.1) x.1 ∙ b.5))
        (λ x. (done, done, omega arith, omega arith, ap (λ (f : EdgeView). f.0) x.1, ap (λ (f : EdgeView). f.1) x.1)) (edge_cases k h);
    apart = λ j k order h.
        ⊎_elim
        (λ x. let first = get_or_append_left out (e ∷ []) (0, 0, 0) j (omega (arith, x.0)) in
        omega (arith, before.apart j k order x.0, ap (λ (f : EdgeView). f.1) first, ap (λ (f : EdgeView). f.0) x.1))
        (λ x.
        let inside : j < length out = omega (arith, x.0) in
        let first = get_or_append_left out (e ∷ []) (0, 0, 0) j inside in
        let b = before.below j inside in
        omega (arith, p.ascending b.1 done b.3 l, b.5, ap (λ (f : EdgeView). f.1) first, ap (λ (f : EdgeView). f.0) x.1))
        (edge_cases k h);
    covers = λ j x h among.
        ⊎_elim
        (λ (less : j < done).
        let b = before.covers j x less among in
        let stays = get_or_append_left out (e ∷ []) (0, 0, 0) b.0 b.1 in
        (b.0, omega (arith, b.1, length_push out e), omega (arith, ap (λ (f : EdgeView). f.0) stays, b.2), omega (arith, ap (λ (f : EdgeView). f.1) stays, b.3)))
        (λ (more : done ≤ j).
        let at : j ≡ done = omega arith in
        let last = get_or-append_seam out e [] (0, 0, 0) in (
          length out,
          omega (arith, length_push out e),
          omega (arith, ap (λ (f : EdgeView). f.0) last, ap (start_at pieces) at),
          omega (arith, ap (λ (f : EdgeView). f.1) last, ap (end_at pieces) at),
        ))
        (cases_lt j done);
  }
    where
      old_one : (n a b s : ℕ) → s < n → cond (eqb s n) a b ≡ b
      old_one n a b s less = go (eqb s n) refl
        where
          go : (x : Bool) → eqb s n ≡ x → cond x a b ≡ b
          go true h = absurd (omega (arith, eqb-true s n h))
          go false h = refl

      new_one : (n a b : ℕ) → cond (eqb n n) a b ≡ a
      new_one n a b = rw (eq-eqb n n refl) refl

-- one more alphabet class with targets, behind one that leads to the same state: the last edge reads it too
module _ (t : Graph) (pieces : List Test) (targets : ℕ → List ℕ) (done cur : ℕ) (old mid new : List (List ℕ))
    (front : List EdgeView) (last : EdgeView) (to : ℕ)
    (p : AreClassesOf t pieces) (moves : ArePieceTargets t (set_at old cur) pieces targets) (l : done < length pieces)
    (before : ExploresSome t pieces targets done cur old mid (front ++ last ∷ [])) (found : IsInterned t (targets done) mid new to)
    (goes : Continues last (start_at pieces done, end_at pieces done, to)) where
  abbrev joined : EdgeView
  joined = (last.0, end_at pieces done, to)

  at_last : edge_at (front ++ last ∷ []) (length front) ≡ last
  at_last = get_or-append_seam front last [] (0, 0, 0)

  last_inside : length front < length (front ++ last ∷ [])
  last_inside = omega (arith, length_push front last)

  to_known : to < length mid
  to_known = omega (arith, before.inside (length front) last_inside, ap (λ (f : EdgeView). f.2) at_last, goes.0)

  no_more : new ≡ mid
  no_more = ⊎_elim (λ h. h.1) (λ h. absurd (omega (arith, h.0, to_known))) found.place

  ends : last.1 < end_at pieces done
  ends = omega (arith, goes.1, p.filled done l)

  joined_cases : (k : ℕ) → k < length (front ++ joined ∷ []) → ((k < length front)
      × (edge_at (front ++ joined ∷ []) k ≡ edge_at (front ++ last ∷ []) k)) ⊎ ((k ≡ length front)
      × (edge_at (front ++ joined ∷ []) k ≡ joined))
  joined_cases k h =
      ⊎_elim (λ x. inl (x.0, x.1 ∙ sym (get_or_append_left front (last ∷ []) (0, 0, 0) k x.0))) inr (last_cases front joined k h)

  within : (k : ℕ) → k < length front → k < length (front ++ last ∷ [])
  within k h = omega (arith, h, length_push front last)

  last_below : (i j : ℕ) × (i ≤ j) × (j < done) × (last.0 ≡ start_at pieces i) × (last.1 ≡ end_at pieces j)
  last_below = let b = before.below (length front) last_inside in
      (b.0, b.1, b.2, b.3, sym (ap (λ (f : EdgeView). f.0) at_last) ∙ b.4, sym (ap (λ (f : EdgeView). f.1) at_last) ∙ b.5)

  explore_joined_mid : ExploresSome t pieces targets (done + 1) cur old mid (front ++ joined ∷ [])
  explore_joined_mid = record {
    extends = before.extends;
    grows = λ edges more parent place same empty grown growing.
        let middle : ℕ → List EdgeView = put more cur (front ++ last ∷ []) in
        let g = before.grows edges middle parent place (λ s apart. put_other more cur (front ++ last ∷ []) s apart ∙ same s apart) empty
        (put_same more cur (front ++ last ∷ [])) growing in (
          g.0,
          g.1,
          grow_joined middle more cur front last joined (λ s apart. sym (put_other more cur (front ++ last ∷ []) s apart))
              (put_same more cur (front ++ last ∷ [])) grown refl (sym goes.0) (omega (arith, ends)) (length mid) g.0 g.1 g.2,
        );
    inside = λ k h. ⊎_elim (λ x. rw x.1 (before.inside k (within k x.0))) (λ x. rw x.1 to_known) (joined_cases k h);
    fits = λ k c h.
        ⊎_elim (λ x. rw x.1 (before.fits k c (within k x.0)))
        (λ x. rw x.1 (λ low high.
        ⊎_elim
        (λ (less : c < start_at pieces done).
        let P : EdgeView → Type 0 = λ f. f.0 ≤ c → c ≤ f.1 → IsSubsetStep t (set_at old cur) c (set_at mid f.2) in
        let step = subst P at_last (before.fits (length front) c last_inside) low (omega (arith, less, goes.1)) in
        rw (sym goes.0) step)
        (λ (more : start_at pieces done ≤ c).
        let closed = let P : List (List ℕ) → Type 0 = λ vs. IsEpsilonClosure t (targets done) (set_at vs to) in
        subst P no_more found.closed in
        step_of_piece t pieces targets (set_at old cur) (set_at mid to) done c p moves l more high closed)
        (cases_lt c (start_at pieces done))))
        (joined_cases k h);
    below = λ k h.
        ⊎_elim (λ x. let b = before.below k (within k x.0) in
        (b.0, b.1, b.2, omega (arith, b.3), ap (λ (f : EdgeView). f.0) x.1 ∙ b.4, ap (λ (f : EdgeView). f.1) x.1 ∙ b.5))
        (λ x. let b = last_below in
        (b.0, done, omega (arith, b.2, b.3), omega arith, ap (λ (f : EdgeView). f.0) x.1 ∙ b.4, ap (λ (f : EdgeView). f.1) x.1))
        (joined_cases k h);
    apart = λ j k order h.
        ⊎_elim
        (λ x.
        let first = ⊎_elim (λ y. y.1) (λ y. absurd (omega (arith, y.0, order, x.0))) (joined_cases j (omega (arith, order, h))) in
        omega (arith, before.apart j k order (within k x.0), ap (λ (f : EdgeView). f.1) first, ap (λ (f : EdgeView). f.0) x.1))
        (λ x.
        let first = ⊎_elim (λ y. y.1) (λ y. absurd (omega (arith, y.0, order, x.0))) (joined_cases j (omega (arith, order, h))) in
        omega (
          arith,
          before.apart j (length front) (omega (arith, order, x.0)) last_inside,
          ap (λ (f : EdgeView). f.0) at_last,
          ap (λ (f : EdgeView). f.1) first,
          ap (λ (f : EdgeView). f.0) x.1,
        ))
        (joined_cases k h);
    covers = λ j x h among.
        let size = length_push front joined in
        let now : edge_at (front ++ joined ∷ []) (length front) ≡ joined = get_or-append_seam front joined [] (0, 0, 0) in
        ⊎_elim
        (λ (less : j < done).
        let b = before.covers j x less among in
        ⊎_elim
        (λ y. let stays = get_or_append_left front (joined ∷ []) (0, 0, 0) b.0 y.0 in (
          b.0,
          omega (arith, y.0, size),
          omega (arith, ap (λ (f : EdgeView). f.0) stays, ap (λ (f : EdgeView). f.0) y.1, b.2),
          omega (arith, ap (λ (f : EdgeView). f.1) stays, ap (λ (f : EdgeView). f.1) y.1, b.3),
        ))
        (λ y. (
          length front,
          omega (arith, size),
          omega (arith, ap (λ (f : EdgeView). f.0) now, ap (λ (f : EdgeView). f.0) y.1, b.2),
          omega (arith, ap (λ (f : EdgeView). f.1) now, ap (λ (f : EdgeView). f.1) y.1, b.3, ends),
        ))
        (last_cases front last b.0 b.1))
        (λ (more : done ≤ j).
        let at : j ≡ done = omega (arith, h, more) in
        let b = last_below in
        let low = start_before_end t pieces p b.0 b.1 b.2 (omega (arith, b.3, l)) in (
          length front,
          omega (arith, size),
          omega (arith, ap (λ (f : EdgeView). f.0) now, ap (start_at pieces) at, low, b.4, b.5, goes.1),
          omega (arith, ap (λ (f : EdgeView). f.1) now, ap (end_at pieces) at),
        ))
        (cases_lt j done);
  }

  explore_joined : ExploresSome t pieces targets (done + 1) cur old new (front ++ joined ∷ [])
  explore_joined = let P : List (List ℕ) → Type 0 = λ vs. ExploresSome t pieces targets (done + 1) cur old vs (front ++ joined ∷ []) in
      subst P (sym no_more) explore_joined_mid

-- one more alphabet class with targets, whose edge is added
pub explore_added : (t : Graph) (pieces : List Test) (targets : ℕ → List ℕ) (done cur : ℕ) (old mid new : List (List ℕ))
    (out more : List EdgeView) (to : ℕ) → AreClassesOf t pieces → ArePieceTargets t (set_at old cur) pieces targets
    → done < length pieces → ExploresSome t pieces targets done cur old mid out → IsInterned t (targets done) mid new to
    → AddsDfaEdge (start_at pieces done, end_at pieces done, to) out more → ExploresSome t pieces targets (done + 1) cur old new more
explore_added t pieces targets done cur old mid new out more to p moves l before found added =
    ⊎_elim (λ h. rw h.0 (explore_more t pieces targets done cur old mid new out to p moves l before found))
    (λ h.
    let P : List EdgeView → Type 0 = ExploresSome t pieces targets done cur old mid in
    rw h.4 (explore_joined t pieces targets done cur old mid new h.0 h.1 to p moves l (subst P h.2 before) found h.3))
    added

-- one more alphabet class without targets: no transition
pub explore_skip : (t : Graph) (pieces : List Test) (targets : ℕ → List ℕ) (done cur : ℕ) (old new : List (List ℕ))
    (out : List EdgeView) → ((x : ℕ) → Contains (targets done) x → ⊥) →
    ExploresSome t pieces targets done cur old new out → ExploresSome t pieces targets (done + 1) cur old new out
explore_skip t pieces targets done cur old new out none before = record {
  extends = before.extends;
  grows = before.grows;
  inside = before.inside;
  fits = before.fits;
  below = λ k h. let b = before.below k h in (b.0, b.1, b.2, omega (arith, b.3), b.4, b.5);
  apart = before.apart;
  covers = λ j x h among.
      ⊎_elim (λ (less : j < done). before.covers j x less among)
      (λ (more : done ≤ j). absurd
      (none x (let P : ℕ → Type 0 = λ i. Contains (targets i) x in
      subst P (let at : j ≡ done = omega arith in at) among)))
      (cases_lt j done);
}

-- functions that agree are one
pub funext : {A B : Type 0} (f g : A → B) → ((x : A) → f x ≡ g x) → f ≡ g
funext f g h = λ i x. h x i

-- before the first alphabet class, the state has no transitions, and no state is new
pub explore_start : (t : Graph) (pieces : List Test) (targets : ℕ → List ℕ) (cur : ℕ) (old : List (List ℕ))
    → ExploresSome t pieces targets 0 cur old old []
explore_start t pieces targets cur old = record {
  extends = ([], sym (append-nil old));
  grows = λ edges more parent place same empty grown growing.
      let all : (s : ℕ) → edges s ≡ more s =
      λ s. ⊎_elim (λ (at : s ≡ cur). ap edges at ∙ empty ∙ sym grown ∙ ap more (sym at))
      (λ (apart : s ≡ cur → ⊥). sym (same s apart)) (cases_eq s cur) in
      let P : (ℕ → List EdgeView) → Type 0 = λ f. IsGrowing f (length old) parent place cur in
      (parent, place, subst P (funext edges more all) growing);
  inside = λ k h. absurd (omega arith);
  fits = λ k c h. absurd (omega arith);
  below = λ k h. absurd (omega arith);
  apart = λ j k order h. absurd (omega arith);
  covers = λ j x h. absurd (omega arith);
}

-- after the last alphabet class, the state has all of its transitions
pub explore_end : (t : Graph) (pieces : List Test) (targets : ℕ → List ℕ) (done cur : ℕ) (old new : List (List ℕ))
    (out : List EdgeView) → AreClassesOf t pieces → ArePieceTargets t (set_at old cur) pieces targets →
    length pieces ≤ done → cur < length old → ExploresSome t pieces targets done cur old new out → Explores t cur old new out
explore_end t pieces targets done cur old new out p moves over inside h = record {
  extends = h.extends;
  grows = h.grows;
  fits = λ k c l low high.
      let stays = ap (λ vs. set_at vs cur) h.extends.1 ∙ set_at-extends old h.extends.0 cur inside in
      rw stays (h.fits k c l low high);
  all = λ q c x among reads.
      let i = p.covers q c x reads in
      let at_start = p.same i.0 q c (start_at pieces i.0) x i.1 i.2 i.3 (omega arith) (p.filled i.0 i.1) reads in
      let k = h.covers i.0 x (omega (arith, i.1)) (moves.all i.0 q x i.1 among at_start) in
      (k.0, k.1, omega (arith, k.2, i.2), omega (arith, k.3, i.3));
}

-- the edges are as far apart as the pieces
pub explore_apart : (t : Graph) (pieces : List Test) (targets : ℕ → List ℕ) (done cur : ℕ) (old new : List (List ℕ))
    (out : List EdgeView) → AreClassesOf t pieces → done ≤ length pieces →
    ExploresSome t pieces targets done cur old new out → AreApart out
explore_apart t pieces targets done cur old new out p inside h = record {
  filled = λ k l. let b = h.below k l in omega (arith, start_before_end t pieces p b.0 b.1 b.2 (omega (arith, b.3, inside)), b.4, b.5);
  apart = h.apart;
}
