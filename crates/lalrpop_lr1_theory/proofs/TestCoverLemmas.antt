-- States cover the items exactly where they pass the tests along items and edges: for that law.
use Rattle.std.proofs.Common.{◌≡◌, ◌↔◌, ◌⊎◌, ℕ, zero, suc, ◌∷◌, drop, refl, sym, ap}
use Rattle.std.proofs.Common.{◌∙◌, subst, inl, inr, arith}
use Rattle.lalrpop_grammar_symbols.specs.Symbols.{Text}
use Rattle.lalrpop_lr1_theory.specs.Productions.{Production, Symbol, nonterminal}
use Rattle.lalrpop_lr1_theory.specs.Automata.{Closure, IsBegun, IsCover, IsShifted, closed, in_kernel}
use Rattle.lalrpop_lr1_theory.specs.NameClosures.{BeginsWithName, IsMovedItem, IsNameBegun, IsNameBehindDot, IsNameBrought}
use Rattle.lalrpop_lr1_theory.specs.NameClosures.{seeded, stepped}
use Rattle.lalrpop_lr1_theory.specs.CoverTests.{HasItemsOfNames, IsBeforeSymbol, PassesCoverTests}
use Rattle.lalrpop_lr1_theory.proofs.NameLemmas.{brought_item, item_brought, names_hold}

module _ (G : Production → Type 0) (s : Text) where
  -- the closure of the start's items has the productions of the names that the start begins with
  begun_item : {A : Text} → IsNameBegun G s A → (q : Production) → q.left ≡ A → G q → Closure G (IsBegun G s) q 0
  begun_item (seeded A e) q f g = in_kernel q 0 (g, f ∙ e, refl)
  begun_item (stepped B h k) q f g =
      closed k.rest q (begun_item h k.production k.left k.of_grammar) (k.right ∙ ap (λ C. nonterminal C ∷ k.rest) (sym f)) g

  item_begun : {p : Production} {i : ℕ} → Closure G (IsBegun G s) p i → (i ≡ 0) × G p × IsNameBegun G s p.left
  item_begun (in_kernel p i k) = (k.2, k.0, seeded p.left k.1)
  item_begun (closed {p = p} {i = i} b q d e g) =
      let r = item_begun d in (
        refl,
        g,
        stepped q.left r.2 (record {
          production = p;
          rest = b;
          of_grammar = r.1;
          left = refl;
          right = subst (λ j. drop j p.right ≡ nonterminal q.left ∷ b) r.0 e;
        }),
      )

  module _ (Item : ℕ → Production → ℕ → Type 0) (Edge : ℕ → Symbol → ℕ → Type 0) where
    not_moved : (n : ℕ) (X : Symbol) (p : Production) → IsShifted Item n X p 0 → ⊥
    not_moved n X p u = omega (arith, u.on)

    -- an item of the closure that has moved is one that was shifted
    was_shifted : (n : ℕ) (X : Symbol) (p : Production) (i k : ℕ) → Closure G (IsShifted Item n X) p k → k ≡ suc i →
        IsShifted Item n X p k
    was_shifted n X p i k (in_kernel q j u) e = u
    was_shifted n X p i k (closed b q d f g) e = absurd (omega (arith, e))

    module _ (cover : IsCover G s Item Edge) where
      shifted_item : (n : ℕ) (X : Symbol) (m : ℕ) → Edge n X m → (p : Production) (i : ℕ) → Item m p (suc i) →
          IsBeforeSymbol Item n p i X
      shifted_item n X m e p i h =
          let u = was_shifted n X p i (suc i) ((cover.next n X m e p (suc i)).0 h) refl in
          let same : u.dot ≡ i = omega (arith, u.on) in
          record {
            rest = u.rest;
            item = subst (Item n p) same u.item;
            before = subst (λ j. drop j p.right ≡ X ∷ u.rest) same u.before;
          }

      item_moved : (n : ℕ) (X : Symbol) (m : ℕ) → Edge n X m → (p : Production) (i : ℕ) → IsShifted Item n X p i →
          IsMovedItem (Item m) p i
      item_moved n X m e p i u = (u.dot, u.on, (cover.next n X m e p i).1 (in_kernel p i u))

      moved_shifted : (n : ℕ) (X : Symbol) (m : ℕ) → Edge n X m → (p : Production) (i : ℕ) → IsMovedItem (Item m) p i →
          IsShifted Item n X p i
      moved_shifted n X m e p i h = was_shifted n X p h.0 i ((cover.next n X m e p i).0 h.2) h.1

      -- names behind the dots of items of one kind are those of another that has the same
      names_among : (K L : Production → ℕ → Type 0) → ((p : Production) (i : ℕ) → K p i → L p i) → {A : Text} →
          IsNameBrought G K A → IsNameBrought G L A
      names_among K L f h =
          names_hold (IsNameBehindDot K) (BeginsWithName G) (IsNameBrought G L)
          (λ A b. seeded A (record {
            production = b.production;
            dot = b.dot;
            rest = b.rest;
            item = f b.production b.dot b.item;
            before = b.before;
          }))
          (λ A B d k. stepped B d k) h

      brings : (n : ℕ) (X : Symbol) (m : ℕ) → Edge n X m → HasItemsOfNames G Item m (IsNameBrought G (IsMovedItem (Item m)))
      brings n X m e q = (
        λ h. go (item_brought G (IsShifted Item n X) ((cover.next n X m e q 0).0 h)),
        λ h. (cover.next n X m e q 0).1
            (brought_item G (IsShifted Item n X)
            (names_among (IsMovedItem (Item m)) (IsShifted Item n X) (moved_shifted n X m e) h.1) q refl h.0),
      )
        where
          go : IsShifted Item n X q 0 ⊎ ((◌≡◌ {A = ℕ} 0 0) × G q × IsNameBrought G (IsShifted Item n X) q.left) →
              G q × IsNameBrought G (IsMovedItem (Item m)) q.left
          go (inl u) = absurd (not_moved n X q u)
          go (inr h) = (h.1, names_among (IsShifted Item n X) (IsMovedItem (Item m)) (item_moved n X m e) h.2)

      -- a cover passes the tests
      pub cover_passes : PassesCoverTests G s Item Edge
      cover_passes = record {
        moves_on = λ n p i X b h e.
            let k = cover.onward n p i X b h e in (
              k.0,
              k.1,
              (cover.next n X k.0 k.1 p (suc i)).1
                  (in_kernel p (suc i) (record { dot = i; rest = b; on = refl; item = h; before = e })),
            );
        comes_back = shifted_item;
        has_moved = λ n X m e.
            let d = cover.only n X m e in (
              d.production,
              d.dot,
              (cover.next n X m e d.production (suc d.dot)).1
                  (in_kernel d.production (suc d.dot)
                  (record { dot = d.dot; rest = d.rest; on = refl; item = d.item; before = d.before })),
            );
        one_edge = cover.one;
        unmoved_start = λ p i h. let r = item_begun ((cover.start p (suc i)).0 h) in omega (arith, r.0);
        start_brings = λ q. (
          λ h. let r = item_begun ((cover.start q 0).0 h) in (r.1, r.2),
          λ h. (cover.start q 0).1 (begun_item h.1 q refl h.0),
        );
        moved_bring = brings;
      }

    module _ (tests : PassesCoverTests G s Item Edge) where
      shifted_in : (n : ℕ) (X : Symbol) (m : ℕ) → Edge n X m → (p : Production) (i : ℕ) → IsShifted Item n X p i → Item m p i
      shifted_in n X m e p i u =
          let k = tests.moves_on n p u.dot X u.rest u.item u.before in
          subst (λ j. Item m p j) (sym u.on)
          (subst (λ j. Item j p (suc u.dot)) (tests.one_edge n X k.0 m k.1 e) k.2)

      in_closure : (n : ℕ) (X : Symbol) (m : ℕ) → Edge n X m → (p : Production) (i : ℕ) → Item m p i →
          Closure G (IsShifted Item n X) p i
      in_closure n X m e p zero h =
          let r = (tests.moved_bring n X m e p).0 h in
          brought_item G (IsShifted Item n X) (names_over r.1) p refl r.0
        where
          names_over : {A : Text} → IsNameBrought G (IsMovedItem (Item m)) A → IsNameBrought G (IsShifted Item n X) A
          names_over h =
              names_hold (IsNameBehindDot (IsMovedItem (Item m))) (BeginsWithName G) (IsNameBrought G (IsShifted Item n X))
              (λ A b.
              let c = tests.comes_back n X m e b.production b.item.0
              (subst (λ j. Item m b.production j) b.item.1 b.item.2) in
              seeded A (record {
                production = b.production;
                dot = b.dot;
                rest = b.rest;
                item = record { dot = b.item.0; rest = c.rest; on = b.item.1; item = c.item; before = c.before };
                before = b.before;
              }))
              (λ A B d k. stepped B d k) h
      in_closure n X m e p (suc i) h =
          let c = tests.comes_back n X m e p i h in
          in_kernel p (suc i) (record { dot = i; rest = c.rest; on = refl; item = c.item; before = c.before })

      out_of_closure : (n : ℕ) (X : Symbol) (m : ℕ) → Edge n X m → (p : Production) (i : ℕ) →
          Closure G (IsShifted Item n X) p i → Item m p i
      out_of_closure n X m e p i d = go (item_brought G (IsShifted Item n X) d)
        where
          moved : (q : Production) (j : ℕ) → IsShifted Item n X q j → IsMovedItem (Item m) q j
          moved q j u = (u.dot, u.on, shifted_in n X m e q j u)

          over : {A : Text} → IsNameBrought G (IsShifted Item n X) A → IsNameBrought G (IsMovedItem (Item m)) A
          over h =
              names_hold (IsNameBehindDot (IsShifted Item n X)) (BeginsWithName G) (IsNameBrought G (IsMovedItem (Item m)))
              (λ A b. seeded A (record {
                production = b.production;
                dot = b.dot;
                rest = b.rest;
                item = moved b.production b.dot b.item;
                before = b.before;
              }))
              (λ A B f k. stepped B f k) h

          go : IsShifted Item n X p i ⊎ ((i ≡ 0) × G p × IsNameBrought G (IsShifted Item n X) p.left) → Item m p i
          go (inl u) = shifted_in n X m e p i u
          go (inr h) = subst (λ j. Item m p j) (sym h.0) ((tests.moved_bring n X m e p).1 (h.1, over h.2))

      start_in : (p : Production) (i : ℕ) → Item 0 p i → Closure G (IsBegun G s) p i
      start_in p zero h = let r = (tests.start_brings p).0 h in begun_item r.1 p refl r.0
      start_in p (suc i) h = absurd (tests.unmoved_start p i h)

      -- and what passes them is a cover
      pub passes_cover : IsCover G s Item Edge
      passes_cover = record {
        start = λ p i. (
          start_in p i,
          λ d. let r = item_begun d in subst (λ j. Item 0 p j) (sym r.0) ((tests.start_brings p).1 (r.1, r.2)),
        );
        onward = λ n p i X b h e. let k = tests.moves_on n p i X b h e in (k.0, k.1);
        one = tests.one_edge;
        next = λ n X m e p i. (in_closure n X m e p i, out_of_closure n X m e p i);
        only = λ n X m e.
            let h = tests.has_moved n X m e in
            let c = tests.comes_back n X m e h.0 h.1 h.2 in
            record { production = h.0; dot = h.1; rest = c.rest; item = c.item; before = c.before };
      }

    pub cover_tested : IsCover G s Item Edge ↔ PassesCoverTests G s Item Edge
    cover_tested = (λ c. cover_passes c, λ t. passes_cover t)
