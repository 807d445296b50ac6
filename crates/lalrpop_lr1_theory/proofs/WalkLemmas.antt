-- Walks along the states, the items that are met, and the moves that the states know: for the laws on parsing.
use Rattle.std.proofs.Common.{◌≡◌, ℕ, zero, suc, ◌<◌, ◌≤◌, List, [], ◌∷◌, ◌++◌, length, drop, Some, None}
use Rattle.std.proofs.Common.{refl, sym, ap, ◌∙◌, subst, inl, inr, ◌⊎◌, arith, append_assoc, append-nil, Contains}
use Rattle.std.proofs.lemmas.List.{append_cancel_left}
use Rattle.std.specs.Prelude.{slice_get}
use Rattle.std.proofs.lemmas.Bool.{cases_lt}
use Rattle.lalrpop_grammar_symbols.specs.Symbols.{Terminal, Text}
use Rattle.lalrpop_lr1_theory.specs.Productions.{Next, Production, Symbol, first, nonterminal, terminal}
use Rattle.lalrpop_lr1_theory.specs.Trees.{Forest, IsTreeOf, Move, MovesLead, forest, leaf, moves, node, nodes, none, reduce, roots}
use Rattle.lalrpop_lr1_theory.specs.Trees.{shift, yield, ◌and◌}
use Rattle.lalrpop_lr1_theory.specs.Places.{IsWayTo, Way, lefts, plug, rights, top, under}
use Rattle.lalrpop_lr1_theory.specs.ValidItems.{CarriesAlong, CarriesOn, begins, closes, shifts}
use Rattle.lalrpop_lr1_theory.specs.Automata.{Closure, IsBegun, IsCover, IsLr1Automaton, IsShifted, Walk, closed, goes, in_kernel}
use Rattle.lalrpop_lr1_theory.specs.Automata.{stands}
use Rattle.lalrpop_lr1_theory.specs.Runs.{Allows}
use Rattle.lalrpop_lr1_theory.proofs.PlaceLemmas.{IsNext, Moment, forest-moment, forest-zero, forest_all, moment, next-moment, rest-moment}
use Rattle.lalrpop_lr1_theory.proofs.StepLemmas.{fits_from_tree, step-forest}
use Rattle.lalrpop_lr1_theory.proofs.TreeLemmas.{leads_one, roots-and}
use Rattle.lalrpop_lr1_theory.proofs.ValidItemLemmas.{carried_along, carried_front, drop_past, too_many}

module _ (Edge : ℕ → Symbol → ℕ → Type 0) where
  -- the same, from the front
  abbrev pub From : ℕ → List Symbol → ℕ → Type 0
  From n [] m = n ≡ m
  From n (x ∷ xs) m = (k : ℕ) × Edge n x k × From k xs m

  from_more : (n m k : ℕ) (x : Symbol) (xs : List Symbol) → From n xs m → Edge m x k → From n (xs ++ x ∷ []) k
  from_more n m k x [] f e = (k, subst (λ v. Edge v x k) (sym f) e, refl)
  from_more n m k x (y ∷ xs) f e = (f.0, f.1, from_more f.0 m k x xs f.2 e)

  pub from_walk : (g : List Symbol) (n : ℕ) → Walk Edge g n → From 0 g n
  from_walk g n stands = refl
  from_walk g n (goes {g = h} {n = k} x m w e) = from_more 0 k n x h (from_walk h k w) e

  walk_from : (h xs : List Symbol) (n m : ℕ) → Walk Edge h n → From n xs m → Walk Edge (h ++ xs) m
  walk_from h [] n m w f = subst (λ v. Walk Edge v m) (sym (append-nil h)) (subst (Walk Edge h) f w)
  walk_from h (x ∷ xs) n m w f =
      subst (λ v. Walk Edge v m) (append_assoc h (x ∷ []) xs) (walk_from (h ++ x ∷ []) xs f.0 m (goes x f.0 w f.1) f.2)

  module _ (one : (n : ℕ) (x : Symbol) (m k : ℕ) → Edge n x m → Edge n x k → m ≡ k) where
    from_one : (xs : List Symbol) (n m k : ℕ) → From n xs m → From n xs k → m ≡ k
    from_one [] n m k a b = sym a ∙ b
    from_one (x ∷ xs) n m k a b = from_one xs a.0 m k a.2 (subst (λ v. From v xs k) (one n x b.0 a.0 b.1 a.1) b.2)

    pub walk_one : (g : List Symbol) (n m : ℕ) → Walk Edge g n → Walk Edge g m → n ≡ m
    walk_one g n m a b = from_one g 0 n m (from_walk g n a) (from_walk g m b)

module _ (G : Production → Type 0) (s : Text) (Item : ℕ → Production → ℕ → Type 0)
    (Edge : ℕ → Symbol → ℕ → Type 0) (cover : IsCover G s Item Edge) where
  closure_over : (K : Production → ℕ → Type 0) → ((p : Production) (i : ℕ) → K p i → G p) →
      (p : Production) (i : ℕ) → Closure G K p i → G p
  closure_over K all p i (in_kernel q j k) = all q j k
  closure_over K all p i (closed b q c d u) = u

  -- the items' productions are the grammar's
  pub item_over : (g : List Symbol) (n : ℕ) → Walk Edge g n → (p : Production) (i : ℕ) → Item n p i → G p
  item_over g n stands p i k = closure_over (IsBegun G s) (λ q j u. u.0) p i ((cover.start p i).0 k)
  item_over g n (goes {g = h} {n = m} x m' w e) p i k =
      closure_over (IsShifted Item m x) (λ q j u. item_over h m w q u.dot u.item) p i ((cover.next m x n e p i).0 k)

  -- a state's items are closed
  pub item_closes : (g : List Symbol) (n : ℕ) → Walk Edge g n → (p : Production) (i : ℕ) (b : List Symbol) (q : Production) →
      Item n p i → drop i p.right ≡ nonterminal q.left ∷ b → G q → Item n q 0
  item_closes g n stands p i b q k d u = (cover.start q 0).1 (closed b q ((cover.start p i).0 k) d u)
  item_closes g n (goes {g = h} {n = m} x m' w e) p i b q k d u = (cover.next m x n e q 0).1 (closed b q ((cover.next m x n e p i).0 k) d u)

  -- a carried item stands in the state that the symbols lead to
  pub carried_there : (g : List Symbol) (p : Production) (i : ℕ) (x : Next) → CarriesOn G s g p i x →
      (n : ℕ) × Walk Edge g n × Item n p i × CarriesAlong G s ℕ 0 Edge n p i x
  carried_there g p i x (begins q h e) = (0, stands, (cover.start p 0).1 (in_kernel p 0 (h, e, refl)), begins p h e)
  carried_there g p i x (shifts {n = h} {i = j} X b m k d e) =
      let r = carried_there h p j x k in
      let o = cover.onward r.0 p j X b r.2 d in (
        o.0,
        subst (λ v. Walk Edge v o.0) (sym e) (goes X o.0 r.1 o.1),
        (cover.next r.0 X o.0 o.1 p (suc j)).1
            (in_kernel p (suc j) (record { dot = j; rest = b; on = refl; item = r.2; before = d })),
        shifts X b o.0 r.3 d o.1,
      )
  carried_there g p i x (closes {n = h} {p = q} {i = j} {x = y} b q' z k d u f) =
      let r = carried_there h q j y k in
      (r.0, r.1, item_closes h r.0 r.1 q j b q' r.2 d u, closes b q' z r.3 d u f)

-- the symbol after the dot is one of the symbols
pub contains_after : (x : Symbol) (b xs : List Symbol) (i : ℕ) → drop i xs ≡ x ∷ b → Contains xs x
contains_after x b [] zero e = let z : ⊥ = cc in absurd z
contains_after x b (y ∷ xs) zero e = let z : y ≡ x = cc in (0, omega arith, z)
contains_after x b [] (suc i) e = let z : ⊥ = cc in absurd z
contains_after x b (y ∷ xs) (suc i) e = let k = contains_after x b xs i e in (suc k.0, omega (arith, k.1), k.2)

-- at the top of a tree no leaf stands
pub no_leaf : (s : Text) (t : Terminal) (l r : Forest) → roots l ++ terminal t ∷ roots r ≡ nonterminal s ∷ [] → ⊥
no_leaf s t none r e = cc
no_leaf s t (leaf u l) r e = too_many (terminal t) (roots l) (roots r) (cc)
no_leaf s t (node p cs l) r e = too_many (terminal t) (roots l) (roots r) (cc)

-- after k moves of a tree, with these tokens left, the states know the tree's next move
pub record KnowsMove (Edge : ℕ → Symbol → ℕ → Type 0) (Reduce : ℕ → Production → Next → Type 0) (ts : Forest) (k : ℕ)
    (w : List Terminal) : Type 0 where
  pub move : Move
  pub state : ℕ
  pub walk : Walk Edge (roots (forest ts k)) state
  pub allowed : Allows Edge Reduce state (first w) move
  pub move_is : slice_get (moves ts) k ≡ Some move

module _ (G : Production → Type 0) (s : Text) (Item : ℕ → Production → ℕ → Type 0)
    (Edge : ℕ → Symbol → ℕ → Type 0) (Reduce : ℕ → Production → Next → Type 0)
    (ok : IsLr1Automaton G s Item Edge Reduce) where
  -- what a state does is one thing
  pub allows_one : (n : ℕ) (x : Next) (v w : Move) → Allows Edge Reduce n x v → Allows Edge Reduce n x w → v ≡ w
  allows_one n None (shift t) w a b = absurd a
  allows_one n None (reduce p) (shift t) a b = absurd b
  allows_one n None (reduce p) (reduce q) a b = ap reduce (ok.one_reduction n p q None a b)
  allows_one n (Some t) (shift u) (shift v) a b = ap shift (a.0 ∙ sym b.0)
  allows_one n (Some t) (shift u) (reduce p) a b = absurd (ok.no_shift n p t a.1 b a.2)
  allows_one n (Some t) (reduce p) (shift u) a b = absurd (ok.no_shift n p t b.1 a b.2)
  allows_one n (Some t) (reduce p) (reduce q) a b = ap reduce (ok.one_reduction n p q (Some t) a b)

  -- the states know the next move of a tree at a place
  allows-place : (c : Way) (l r : Forest) (v : Move) → IsNext c r v → IsTreeOf G s (plug c (l and r)) →
      (n : ℕ) × Walk Edge (roots (lefts c and l)) n × Allows Edge Reduce n (first (yield (r and rights c))) v
  allows-place top l none (shift t) e h = absurd e
  allows-place (under c k p u) l none (shift t) e h = absurd e
  allows-place top l none (reduce p) e h = absurd e
  allows-place (under c k p u) l none (reduce q) e h =
      let f = fits_from_tree G s (under c k p u) (l and none) h in
      let front = carried_front G s c k p u (subst (IsWayTo G s (under c k p u)) f.0.1 f.0) in
      let d : p.right ≡ roots l ++ [] = sym f.0.1 ∙ roots-and l none in
      let there = carried_there G s Item Edge ok.cover (roots ((lefts c and k) and l)) p (length p.right) (first (yield (u and rights c)))
      (carried_along G s (roots l) [] (roots (lefts c and k)) (roots ((lefts c and k) and l)) p 0 (length p.right)
      (first (yield (u and rights c))) front d (roots-and (lefts c and k) l)
      (ap length (d ∙ append-nil (roots l)) ∙ omega arith)) in (
        there.0,
        there.1,
        subst (λ x. Allows Edge Reduce there.0 (first (yield (u and rights c))) (reduce x)) (sym e)
            (ok.carried there.0 p (first (yield (u and rights c))) there.3),
      )
  allows-place top l (leaf t r) (shift u) e h = absurd (no_leaf s t l r (sym (roots-and l (leaf t r)) ∙ h.0))
  allows-place (under c k p u) l (leaf t r) (shift v) e h =
      let f = fits_from_tree G s (under c k p u) (l and leaf t r) h in
      let front = carried_front G s c k p u (subst (IsWayTo G s (under c k p u)) f.0.1 f.0) in
      let d : p.right ≡ roots l ++ terminal t ∷ roots r = sym f.0.1 ∙ roots-and l (leaf t r) in
      let there = carried_there G s Item Edge ok.cover (roots ((lefts c and k) and l)) p (length (roots l)) (first (yield (u and rights c)))
      (carried_along G s (roots l) (terminal t ∷ roots r) (roots (lefts c and k)) (roots ((lefts c and k) and l)) p 0
      (length (roots l)) (first (yield (u and rights c))) front d (roots-and (lefts c and k) l) (omega arith)) in
      let edge = ok.cover.onward there.0 p (length (roots l)) (terminal t) (roots r) there.2
      (ap (drop (length (roots l))) d ∙ drop_past (roots l) (terminal t ∷ roots r)) in
      (there.0, there.1, (e, edge.0, edge.1))
  allows-place c l (leaf t r) (reduce p) e h = absurd e
  allows-place c l (node p cs r) v e h = absurd e

  -- after k moves of a tree, with w left, the states make the tree's next move
  pub allows-next : (ts : Forest) (k : ℕ) (w : List Terminal) → k < nodes ts → IsTreeOf G s ts →
      yield ts ≡ yield (forest ts k) ++ w → KnowsMove Edge Reduce ts k w
  allows-next ts k w h t e =
      let m : Moment ts k = moment ts top none k k h (omega arith) in
      let d = allows-place m.way m.done m.rest m.move m.next (subst (IsTreeOf G s) m.whole_is t) in
      let f = forest-moment ts k m in
      let r : yield (m.rest and rights m.way) ≡ w =
      append_cancel_left (yield (forest ts k)) (yield (m.rest and rights m.way)) w (sym (rest-moment ts k m) ∙ e) in
      record {
        move = m.move;
        state = d.0;
        walk = subst (λ v. Walk Edge (roots v) d.0) (sym f) d.1;
        allowed = subst (λ v. Allows Edge Reduce d.0 (first v) m.move) r d.2;
        move_is = next-moment ts k m;
      }

  -- what is left of a tree's tokens after k moves
  pub rest_of : (ts : Forest) (k : ℕ) → k < nodes ts → (w : List Terminal) × (yield ts ≡ yield (forest ts k) ++ w)
  rest_of ts k h = let m : Moment ts k = moment ts top none k k h (omega arith) in (yield (m.rest and rights m.way), rest-moment ts k m)

  -- a step that the states make at a forest of a tree, before the tree's next leaf, is the tree's
  pub step_same : (ts : Forest) (k : ℕ) (f h : Forest) (w x : List Terminal) (n : ℕ) (v : Move) → k < nodes ts →
      IsTreeOf G s ts → f ≡ forest ts k → yield ts ≡ yield f ++ w → first w ≡ first x
      → Walk Edge (roots f) n → Allows Edge Reduce n (first x) v → MovesLead (v ∷ []) f h →
      (h ≡ forest ts (suc k)) × (slice_get (moves ts) k ≡ Some v)
  step_same ts k f h w x n v less t e y z walk does leads =
      let d = allows-next ts k w less t (y ∙ ap (λ g. yield g ++ w) e) in
      let n_same : d.state ≡ n =
      walk_one Edge ok.cover.one (roots f) d.state n (subst (λ g. Walk Edge (roots g) d.state) (sym e) d.walk) walk in
      let v_same : d.move ≡ v = allows_one n (first x) d.move v
      (subst (λ j. Allows Edge Reduce j (first x) d.move) n_same (subst (λ j. Allows Edge Reduce d.state j d.move) z d.allowed)) does in
      let get : slice_get (moves ts) k ≡ Some v = d.move_is ∙ ap Some v_same in (
        leads_one (v ∷ []) f h (forest ts (suc k)) leads
            (subst (λ g. MovesLead (v ∷ []) g (forest ts (suc k))) (sym e) (step-forest G s ts k v t get)),
        get,
      )

  same-forests-step : (ts us : Forest) (k : ℕ) → IsTreeOf G s ts → IsTreeOf G s us → yield ts ≡ yield us →
      suc k ≤ nodes ts → suc k ≤ nodes us → forest ts k ≡ forest us k → forest ts (suc k) ≡ forest us (suc k)
  same-forests-step ts us k a b e h j f =
      let w = rest_of us k j in
      let d = allows-next us k w.0 j b w.1 in
      let st = step-forest G s us k d.move b d.move_is in
      sym (step_same ts k (forest us k) (forest us (suc k)) w.0 w.0 d.state d.move h a (sym f) (e ∙ w.1) refl d.walk d.allowed st).0

  -- no state stands past a whole tree, where the start is on no right side
  ended : ((p : Production) → G p → Contains p.right (nonterminal s) → ⊥) → (ts : Forest) (k : ℕ) (us : Forest) →
      k < nodes ts → IsTreeOf G s ts → forest ts k ≡ us → IsTreeOf G s us → ⊥
  ended alone ts k us h t e u =
      let w = rest_of ts k h in let d = allows-next ts k w.0 h t w.1 in
      let f = from_walk Edge (nonterminal s ∷ []) d.state (subst (λ g. Walk Edge g d.state) (ap roots e ∙ u.0) d.walk) in
      let o = ok.cover.only 0 (nonterminal s) f.0 f.1 in
      alone o.production (item_over G s Item Edge ok.cover [] 0 stands o.production o.dot o.item)
      (contains_after (nonterminal s) o.rest o.production.right o.dot o.before)

  -- two trees with the same leaves have the same forests
  pub same-forests : (ts us : Forest) → IsTreeOf G s ts → IsTreeOf G s us → yield ts ≡ yield us → (k : ℕ) →
      k ≤ nodes ts → k ≤ nodes us → forest ts k ≡ forest us k
  same-forests ts us a b e zero h j = forest-zero ts ∙ sym (forest-zero us)
  same-forests ts us a b e (suc k) h j = same-forests-step ts us k a b e h j (same-forests ts us a b e k (omega arith) (omega arith))

  -- two trees with the same leaves are one
  pub one_tree : ((p : Production) → G p → Contains p.right (nonterminal s) → ⊥) → (ts us : Forest) → IsTreeOf G s ts →
      IsTreeOf G s us → yield ts ≡ yield us → ts ≡ us
  one_tree alone ts us a b e = go (cases_lt (nodes ts) (nodes us)) (cases_lt (nodes us) (nodes ts))
    where
      go : (nodes ts < nodes us) ⊎ (nodes us ≤ nodes ts) → (nodes us < nodes ts) ⊎ (nodes ts ≤ nodes us) → ts ≡ us
      go (inl h) j = absurd (ended alone us (nodes ts) ts h b
          (sym (same-forests ts us a b e (nodes ts) (omega arith) (omega arith)) ∙ forest_all ts) a)
      go (inr h) (inl j) = absurd
          (ended alone ts (nodes us) us j a (same-forests ts us a b e (nodes us) (omega arith) (omega arith) ∙ forest_all us) b)
      go (inr h) (inr j) = let n : nodes ts ≡ nodes us = omega arith in
          sym (forest_all ts) ∙ same-forests ts us a b e (nodes ts) (omega arith) (omega arith) ∙ ap (forest us) n ∙ forest_all us
