-- What the states make is made of the grammar's trees: for the law on the ends of runs, and for the code that parses.
use Rattle.std.proofs.Common.{◌≡◌, ℕ, zero, suc, List, [], ◌∷◌, ◌++◌, length, drop, take, None, refl, sym, ap}
use Rattle.std.proofs.Common.{◌∙◌, subst, ⊎_elim, inl, inr, ◌⊎◌, arith, append_assoc, append-nil}
use Rattle.std.proofs.lemmas.List.{take_all}
use Rattle.lalrpop_grammar_symbols.specs.Symbols.{Terminal, Text}
use Rattle.lalrpop_lr1_theory.specs.Productions.{Next, Production, Symbol, first, nonterminal}
use Rattle.lalrpop_lr1_theory.specs.Trees.{AreOver, Forest, Move, leaf, node, none, reduce, roots, shift, yield, ◌and◌}
use Rattle.lalrpop_lr1_theory.specs.Automata.{Closure, IsBegun, IsCheckedAutomaton, IsCover, IsShifted, Walk, closed, goes, in_kernel}
use Rattle.lalrpop_lr1_theory.specs.Automata.{stands}
use Rattle.lalrpop_lr1_theory.specs.Runs.{Runs}
use Rattle.lalrpop_lr1_theory.proofs.FirstLemmas.{roots_split}
use Rattle.lalrpop_lr1_theory.proofs.TreeLemmas.{over-and, over-split, yield-and}
use Rattle.lalrpop_lr1_theory.proofs.WalkLemmas.{item_over}

take_more' : {A : Type 0} (x : A) (b xs : List A) (i : ℕ) → drop i xs ≡ x ∷ b → take (suc i) xs ≡ take i xs ++ x ∷ []
take_more' x b [] zero e = let z : ⊥ = cc in absurd z
take_more' x b (y ∷ xs) zero e = let z : y ≡ x = cc in ap (λ w. w ∷ []) z
take_more' x b [] (suc i) e = let z : ⊥ = cc in absurd z
take_more' x b (y ∷ xs) (suc i) e = ap (λ w. y ∷ w) (take_more' x b xs i e)

abbrev none' : List Symbol
none' = []

-- a list of trees without roots holds no tree
pub no_roots : (ts : Forest) → roots ts ≡ [] → ts ≡ none
no_roots none e = refl
no_roots (leaf t ts) e = cc
no_roots (node p cs ts) e = cc

module _ (G : Production → Type 0) (s : Text) (Item : ℕ → Production → ℕ → Type 0)
    (Edge : ℕ → Symbol → ℕ → Type 0) (cover : IsCover G s Item Edge) where
  -- behind what stands before an item's dot, the item has its dot in front
  pub item_back : (g : List Symbol) (n : ℕ) → Walk Edge g n → (p : Production) (i : ℕ) → Item n p i →
      (h : List Symbol) × (m : ℕ) × (g ≡ h ++ take i p.right) × Walk Edge h m × Item m p 0
  item_back g n stands p i k = go p i ((cover.start p i).0 k) k
    where
      go : (p : Production) (i : ℕ) → Closure G (IsBegun G s) p i → Item 0 p i →
          (h : List Symbol) × (m : ℕ) × ([] ≡ h ++ take i p.right) × Walk Edge h m × Item m p 0
      go p i (in_kernel q j u) k = ([], 0, ap (λ v. take v p.right) (sym u.2), stands, subst (λ v. Item 0 p v) u.2 k)
      go p i (closed b q c d u) k = ([], 0, refl, stands, k)
  item_back g n (goes {g = h} {n = m} x m' w e) p i k = go p i ((cover.next m x n e p i).0 k) k (λ j v. item_back h m w p j v)
    where
      go : (p : Production) (i : ℕ) → Closure G (IsShifted Item m x) p i → Item n p i →
          ((j : ℕ) → Item m p j →
          (h' : List Symbol) × (m' : ℕ) × (h ≡ h' ++ take j p.right) × Walk Edge h' m' × Item m' p 0) →
          (h' : List Symbol) × (m' : ℕ) × (h ++ x ∷ [] ≡ h' ++ take i p.right) × Walk Edge h' m' × Item m' p 0
      go p i (in_kernel q j u) k ih =
          let r = ih u.dot u.item in (
            r.0,
            r.1,
            ap (λ v. v ++ x ∷ []) r.2 ∙ append_assoc r.0 (take u.dot p.right) (x ∷ [])
                ∙ ap (λ v. r.0 ++ v) (sym (take_more' x u.rest p.right u.dot u.before) ∙ ap (λ v. take v p.right) (sym u.on)),
            r.3,
            r.4,
          )
      go p i (closed b q c d u) k ih = (h ++ x ∷ [], n, sym (append-nil (h ++ x ∷ [])), goes x n w e, k)

  -- an item with the dot in front is the start's, in state 0, or its nonterminal leads on
  pub item_front : (g : List Symbol) (n : ℕ) → Walk Edge g n → (p : Production) → Item n p 0 →
      ((g ≡ []) × (p.left ≡ s)) ⊎ ((m : ℕ) × Edge n (nonterminal p.left) m)
  item_front g n stands p k = go p 0 ((cover.start p 0).0 k)
    where
      go : (p : Production) (i : ℕ) → Closure G (IsBegun G s) p i →
          ((none' ≡ none') × (p.left ≡ s)) ⊎ ((m : ℕ) × Edge 0 (nonterminal p.left) m)
      go p i (in_kernel q j u) = inl (refl, u.1)
      go p i (closed {p = q} {i = j} b q' c d u) = inr (cover.onward 0 q j (nonterminal q'.left) b ((cover.start q j).1 c) d)
  item_front g n (goes {g = h} {n = m} x m' w e) p k = go p 0 refl ((cover.next m x n e p 0).0 k)
    where
      go : (p : Production) (i : ℕ) → i ≡ 0 → Closure G (IsShifted Item m x) p i →
          ((h ++ x ∷ [] ≡ []) × (p.left ≡ s)) ⊎ ((m' : ℕ) × Edge n (nonterminal p.left) m')
      go p i z (in_kernel q j u) = absurd (omega (arith, z, u.on))
      go p i z (closed {p = q} {i = j} b q' c d u) = inr (cover.onward n q j (nonterminal q'.left) b ((cover.next m x n e q j).1 c) d)

-- The forest ends with the children of a node by the production, and the state behind them leads on with its nonterminal, or the
-- whole is a tree from the start and the end comes next.
pub record CanReduce (s : Text) (Edge : ℕ → Symbol → ℕ → Type 0) (f : Forest) (p : Production) (x : Next) : Type 0 where
  pub kept : Forest
  pub children : Forest
  pub state : ℕ
  pub parts : f ≡ kept and children
  pub roots_are : roots children ≡ p.right
  pub walk : Walk Edge (roots kept) state
  pub leads_on : ((kept ≡ none) × (p.left ≡ s) × (x ≡ None)) ⊎ ((m : ℕ) × Edge state (nonterminal p.left) m)

module _ (G : Production → Type 0) (s : Text) (Item : ℕ → Production → ℕ → Type 0)
    (Edge : ℕ → Symbol → ℕ → Type 0) (Reduce : ℕ → Production → Next → Type 0)
    (ok : IsCheckedAutomaton G s Item Edge Reduce) where
  pub can_reduce : (f : Forest) (n : ℕ) (p : Production) (x : Next) → Walk Edge (roots f) n → Reduce n p x →
      CanReduce s Edge f p x
  can_reduce f n p x w r =
      let b = item_back G s Item Edge ok.automaton.cover (roots f) n w p (length p.right) (ok.automaton.finished n p x r) in
      let c = roots_split f b.0 p.right (b.2 ∙ ap (λ v. b.0 ++ v) (take_all (length p.right) p.right (omega arith))) in
      record {
        kept = c.0;
        children = c.1;
        state = b.1;
        parts = c.2;
        roots_are = c.4;
        walk = subst (λ g. Walk Edge g b.1) (sym c.3) b.3;
        leads_on = ⊎_elim (λ e. inl (no_roots c.0 (c.3 ∙ e.0), e.1, ok.at_end n p x r e.1)) (λ e. inr e)
            (item_front G s Item Edge ok.automaton.cover b.0 b.1 b.3 p b.4);
      }

  pub runs_yield : (ms : List Move) (f : Forest) (v : List Terminal) (g : Forest) (w : List Terminal) →
      Runs Edge Reduce ms f v g w → yield f ++ v ≡ yield g ++ w
  runs_yield [] f v g w r = ap (λ x. yield x ++ v) r.0 ∙ ap (λ x. yield g ++ x) r.1
  runs_yield (shift t ∷ ms) f v g w r =
      let a : yield (f and leaf t none) ++ r.left ≡ yield f ++ v =
      ap (λ x. x ++ r.left) (yield-and f (leaf t none)) ∙ append_assoc (yield f) (t ∷ []) r.left
      ∙ ap (λ x. yield f ++ x) (sym r.consumed) in
      sym a ∙ ap (λ x. yield x ++ r.left) r.leads ∙ runs_yield ms r.made r.left g w r.rest
  runs_yield (reduce p ∷ ms) f v g w r =
      let l = r.leads in
      let a : yield (l.kept and node p l.children none) ≡ yield f =
      yield-and l.kept (node p l.children none) ∙ ap (λ x. yield l.kept ++ x) (append-nil (yield l.children))
      ∙ sym (yield-and l.kept l.children)
      ∙ ap yield (sym l.parts) in
      ap (λ x. yield f ++ x) r.consumed ∙ ap (λ x. x ++ r.left) (sym a) ∙ ap (λ x. yield x ++ r.left) l.rest
      ∙ runs_yield ms r.made r.left g w r.rest

  pub runs_over : (ms : List Move) (f : Forest) (v : List Terminal) (g : Forest) (w : List Terminal) → Runs Edge Reduce ms f v g w →
      AreOver G f → AreOver G g
  runs_over [] f v g w r o = subst (AreOver G) r.0 o
  runs_over (shift t ∷ ms) f v g w r o = runs_over ms r.made r.left g w r.rest
      (subst (AreOver G) r.leads (over-and G f (leaf t none) o tt))
  runs_over (reduce p ∷ ms) f v g w r o =
      let l = r.leads in
      let k = over-split G l.kept l.children (subst (AreOver G) l.parts o) in
      runs_over ms r.made r.left g w r.rest
      (subst (AreOver G) l.rest (over-and G l.kept (node p l.children none) k.0 (
        item_over G s Item Edge ok.automaton.cover (roots f) r.state r.walk p (length p.right)
            (ok.automaton.finished r.state p (first v) r.allowed),
        l.roots_are,
        k.1,
        tt,
      )))
