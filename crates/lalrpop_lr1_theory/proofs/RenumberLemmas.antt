-- States by other numbers have the same items, edges, reductions and lookaheads, so they stay checked: for that law.
use Rattle.std.proofs.Common.{◌≡◌, ◌↔◌, ◌∙◌, ℕ, suc, List, length, None, Some, Contains, refl, sym, ap, subst, arith}
use Rattle.std.specs.Prelude.{slice_get}
use Rattle.std.proofs.lemmas.Option.{slice_get_within}
use Rattle.lalrpop_grammar_symbols.specs.Symbols.{Text}
use Rattle.lalrpop_lr1_theory.specs.Productions.{Next, Production, Symbol, nonterminal, terminal}
use Rattle.lalrpop_lr1_theory.specs.Automata.{Carries, Closure, IsCover, IsShifted}
use Rattle.lalrpop_lr1_theory.specs.Automata.{begins_with_end, closed, in_kernel, passes_next, shifts_next, starts_next}
use Rattle.lalrpop_lr1_theory.specs.States.{HasEdge, HasItem, Reduces, State}
use Rattle.lalrpop_lr1_theory.specs.CheckedStates.{AreCheckedStates, HasNoConflict}
use Rattle.lalrpop_lr1_theory.proofs.StepLemmas.{some_same}
use Rattle.lalrpop_lr1_theory.proofs.CollapseLemmas.{get_some}
use Rattle.lalrpop_lr1_theory.proofs.CollapsedCoverLemmas.{closure_more, shifted_more, target_item}
use Rattle.lalrpop_lr1_theory.specs.RenumberedStates.{AreRenumberedStates}

-- a closure has an item that it is the closure of
closure_seed : (G : Production → Type 0) (K : Production → ℕ → Type 0) {p : Production} {i : ℕ} → Closure G K p i →
    (q : Production) × (j : ℕ) × K q j
closure_seed G K (in_kernel p i k) = (p, i, k)
closure_seed G K (closed b q c d g) = closure_seed G K c

module _ (grammar : List Production) (s : Text) (states others : List State) (numbers : List ℕ)
    (are : AreRenumberedStates states others numbers) where
  abbrev G : Production → Type 0
  G = Contains grammar

  -- the old state and the new one with these numbers
  abbrev Goes : ℕ → ℕ → Type 0
  Goes n m = slice_get numbers n ≡ Some m

  old_at : (n m : ℕ) → Goes n m → (state : State) × (slice_get states n ≡ Some state)
  old_at n m e =
      let h = slice_get_within numbers n m e in let c = are.count in get_some states n (omega (arith, h, c))

  new_at : (n m : ℕ) → Goes n m → (state : State) × (slice_get others m ≡ Some state)
  new_at n m e = get_some others m (are.each n m e)

  new_number : (n : ℕ) (state : State) → slice_get states n ≡ Some state → (m : ℕ) × Goes n m
  new_number n state e =
      let h = slice_get_within states n state e in let c = are.count in get_some numbers n (omega (arith, h, c))

  old_number : (m : ℕ) (state : State) → slice_get others m ≡ Some state → (n : ℕ) × Goes n m
  old_number m state e = are.all m (slice_get_within others m state e)

  -- state 0 stays state 0
  zero_goes : (n : ℕ) → Goes n 0 → n ≡ 0
  zero_goes n e =
      let h = slice_get_within numbers n 0 e in
      let f = get_some numbers 0 (omega (arith, h)) in
      are.apart n 0 0 e (f.1 ∙ ap Some (are.first f.0 f.1))

  item_there : (n m : ℕ) → Goes n m → (p : Production) (i : ℕ) → HasItem others m p i → HasItem states n p i
  item_there n m e p i h =
      let o = old_at n m e in
      let same = are.same n m o.0 h.state e o.1 h.at in
      record {
        state = o.0;
        lookahead = h.lookahead;
        at = o.1;
        held = subst (λ l. Contains l (record { production = p; dot = i; lookahead = h.lookahead })) same.items h.held;
      }

  item_back : (n m : ℕ) → Goes n m → (p : Production) (i : ℕ) → HasItem states n p i → HasItem others m p i
  item_back n m e p i h =
      let o = new_at n m e in
      let same = are.same n m h.state o.0 e h.at o.1 in
      record {
        state = o.0;
        lookahead = h.lookahead;
        at = o.1;
        held = subst (λ l. Contains l (record { production = p; dot = i; lookahead = h.lookahead })) (sym same.items) h.held;
      }

  reduces_back : (n m : ℕ) → Goes n m → (p : Production) (x : Next) → Reduces states n p x → Reduces others m p x
  reduces_back n m e p x h =
      let o = new_at n m e in
      let same = are.same n m h.state o.0 e h.at o.1 in
      record {
        state = o.0;
        lookahead = h.lookahead;
        at = o.1;
        held = subst (λ l. Contains l (record { production = p; lookahead = h.lookahead })) (sym same.reductions) h.held;
        follows = h.follows;
      }

  edge_source : (m : ℕ) (x : Symbol) (l : ℕ) → HasEdge others m x l → (n : ℕ) × Goes n m
  edge_source m (terminal t) l h = old_number m h.0 h.1
  edge_source m (nonterminal A) l h = old_number m h.0 h.1

  edge_there : (n m : ℕ) → Goes n m → (x : Symbol) (l : ℕ) → HasEdge others m x l →
      (k : ℕ) × HasEdge states n x k × Goes k l
  edge_there n m e (terminal t) l h =
      let o = old_at n m e in
      let k = ((are.same n m o.0 h.0 e o.1 h.1).shifts t l).0 h.2 in (k.0, (o.0, o.1, k.1), k.2)
  edge_there n m e (nonterminal A) l h =
      let o = old_at n m e in
      let k = ((are.same n m o.0 h.0 e o.1 h.1).gotos A l).0 h.2 in (k.0, (o.0, o.1, k.1), k.2)

  edge_back : (n m : ℕ) → Goes n m → (x : Symbol) (k l : ℕ) → HasEdge states n x k → Goes k l → HasEdge others m x l
  edge_back n m e (terminal t) k l h f =
      let o = new_at n m e in (o.0, o.1, ((are.same n m h.0 o.0 e h.1 o.1).shifts t l).1 (k, h.2, f))
  edge_back n m e (nonterminal A) k l h f =
      let o = new_at n m e in (o.0, o.1, ((are.same n m h.0 o.0 e h.1 o.1).gotos A l).1 (k, h.2, f))

  abbrev AreShiftedThere : ℕ → ℕ → Symbol → Type 0
  AreShiftedThere n m x =
      (p : Production) (i : ℕ) → Closure G (IsShifted (HasItem others) m x) p i ↔ Closure G (IsShifted (HasItem states) n x) p i

  shifted_there : (n m : ℕ) → Goes n m → (x : Symbol) → AreShiftedThere n m x
  shifted_there n m e x p i = (
    closure_more G (IsShifted (HasItem others) m x) (IsShifted (HasItem states) n x)
        (shifted_more (HasItem others) (HasItem states) m n x (item_there n m e)),
    closure_more G (IsShifted (HasItem states) n x) (IsShifted (HasItem others) m x)
        (shifted_more (HasItem states) (HasItem others) n m x (item_back n m e)),
  )

  -- what is carried is carried by the old numbers, too
  carried_there : {m : ℕ} {p : Production} {i : ℕ} {x : Next} → Carries G s (HasItem others) (HasEdge others) m p i x →
      (n : ℕ) → Goes n m → Carries G s (HasItem states) (HasEdge states) n p i x
  carried_there (begins_with_end p g e) n f =
      subst (λ k. Carries G s (HasItem states) (HasEdge states) k p 0 None) (sym (zero_goes n f)) (begins_with_end p g e)
  carried_there (shifts_next {n = k} {p = p} {i = i} {x = x} X b m c d e) n f =
      let o = edge_source k X m e in
      let t = edge_there o.0 k o.1 X m e in
      subst (λ j. Carries G s (HasItem states) (HasEdge states) j p (suc i) x) (are.apart t.0 n m t.2 f)
      (shifts_next X b t.0 (carried_there c o.0 o.1) d t.1)
  carried_there (starts_next {n = m} b q t c d g h) n f =
      starts_next b q t (closure_more G (HasItem others m) (HasItem states n) (item_there n m f) c) d g h
  carried_there (passes_next b q x c d g h) n f = passes_next b q x (carried_there c n f) d g h

  module _ (checked : AreCheckedStates grammar s states) where
    abbrev old_cover : IsCover G s (HasItem states) (HasEdge states)
    old_cover = checked.cover

    -- an edge leads to a state that has a number
    target_goes : (n : ℕ) (x : Symbol) (k : ℕ) → HasEdge states n x k → (l : ℕ) × Goes k l
    target_goes n x k e =
        let i = target_item G s (HasItem states) (HasEdge states) old_cover n x k e in new_number k i.2.state i.2.at

    new_cover : IsCover G s (HasItem others) (HasEdge others)
    new_cover =
        record {
          start = λ p i. (
            λ h.
                let o = old_number 0 h.state h.at in
                (old_cover.start p i).0 (subst (λ k. HasItem states k p i) (zero_goes o.0 o.1) (item_there o.0 0 o.1 p i h)),
            λ c.
                let h = (old_cover.start p i).1 c in
                let m = new_number 0 h.state h.at in
                subst (λ k. HasItem others k p i) (are.first m.0 m.1) (item_back 0 m.0 m.1 p i h),
          );
          onward = λ m p i x b h d.
              let o = old_number m h.state h.at in
              let k = old_cover.onward o.0 p i x b (item_there o.0 m o.1 p i h) d in
              let l = target_goes o.0 x k.0 k.1 in
              (l.0, edge_back o.0 m o.1 x k.0 l.0 k.1 l.1);
          one = λ m x k l e f.
              let o = edge_source m x k e in
              let t = edge_there o.0 m o.1 x k e in
              let u = edge_there o.0 m o.1 x l f in
              some_same k l (sym t.2 ∙ ap (slice_get numbers) (old_cover.one o.0 x t.0 u.0 t.1 u.1) ∙ u.2);
          next = λ m x l e p i.
              let o = edge_source m x l e in
              let t = edge_there o.0 m o.1 x l e in
              let same = shifted_there o.0 m o.1 x p i in
              let next = old_cover.next o.0 x t.0 t.1 p i in (
                λ h. same.1 (next.0 (item_there t.0 l t.2 p i h)),
                λ c. item_back t.0 l t.2 p i (next.1 (same.0 c)),
              );
          only = λ m x l e.
              let o = edge_source m x l e in
              let t = edge_there o.0 m o.1 x l e in
              let d = old_cover.only o.0 x t.0 t.1 in
              record {
                production = d.production;
                dot = d.dot;
                rest = d.rest;
                item = item_back o.0 m o.1 d.production d.dot d.item;
                before = d.before;
              };
        }

    -- what is carried is carried to a state that has a number
    carried_source : {m : ℕ} {p : Production} {i : ℕ} {x : Next} → Carries G s (HasItem others) (HasEdge others) m p i x →
        (n : ℕ) × Goes n m
    carried_source (begins_with_end p g e) =
        let h = (old_cover.start p 0).1 (in_kernel p 0 (g, e, refl)) in
        let m = new_number 0 h.state h.at in (0, m.1 ∙ ap Some (are.first m.0 m.1))
    carried_source (shifts_next {n = k} X b m c d e) =
        let o = edge_source k X m e in let t = edge_there o.0 k o.1 X m e in (t.0, t.2)
    carried_source (starts_next {n = m} b q t c d g h) =
        let i = closure_seed G (HasItem others m) c in old_number m i.2.state i.2.at
    carried_source (passes_next b q x c d g h) = carried_source c

    no_conflict_there : (m : ℕ) (state : State) → slice_get others m ≡ Some state → HasNoConflict state
    no_conflict_there m state e =
        let o = old_number m state e in
        let old = old_at o.0 m o.1 in
        let same = are.same o.0 m old.0 state o.1 old.1 e in
        let none = checked.no_conflict o.0 old.0 old.1 in
        record {
          reductions_apart = λ j k a b x f g. none.reductions_apart j k a b x
              (sym (ap (λ l. slice_get l j) same.reductions) ∙ f) (sym (ap (λ l. slice_get l k) same.reductions) ∙ g);
          errors_apart = λ j k a b f g. none.errors_apart j k a b
              (sym (ap (λ l. slice_get l j) same.reductions) ∙ f) (sym (ap (λ l. slice_get l k) same.reductions) ∙ g);
          shifts_apart = λ t l k a c f.
              let u = (same.shifts t l).0 c in
              none.shifts_apart t u.0 k a u.1 (sym (ap (λ z. slice_get z k) same.reductions) ∙ f);
        }

    pub renumbered_checked : AreCheckedStates grammar s others
    renumbered_checked =
        record {
          cover = new_cover;
          finished = λ m state a e c.
              let o = old_number m state e in
              let old = old_at o.0 m o.1 in
              let same = are.same o.0 m old.0 state o.1 old.1 e in
              item_back o.0 m o.1 a.production (length a.production.right)
              (checked.finished o.0 old.0 a old.1 (subst (λ l. Contains l a) same.reductions c));
          carried = λ m p x c.
              let o = carried_source c in
              reduces_back o.0 m o.1 p x (checked.carried o.0 p x (carried_there c o.0 o.1));
          no_conflict = no_conflict_there;
          at_end = λ m state a x e c f d.
              let o = old_number m state e in
              let old = old_at o.0 m o.1 in
              let same = are.same o.0 m old.0 state o.1 old.1 e in
              checked.at_end o.0 old.0 a x old.1 (subst (λ l. Contains l a) same.reductions c) f d;
          no_error = λ m state a e c f.
              let o = old_number m state e in
              let old = old_at o.0 m o.1 in
              let same = are.same o.0 m old.0 state o.1 old.1 e in
              checked.no_error o.0 old.0 a old.1 (subst (λ l. Contains l a) same.reductions c) f;
          none_barren = checked.none_barren;
        }
