-- A lane stays in the states' items, and adds just what is carried to its item: for the laws on lanes and on columns.
use Rattle.std.proofs.Common.{◌≡◌, ◌↔◌, ◌∙◌, ℕ, suc, List, ◌∷◌, drop, None, Some, Contains, refl, sym, ap, subst, arith}
use Rattle.lalrpop_grammar_symbols.specs.Symbols.{Text}
use Rattle.lalrpop_lr1_theory.specs.Productions.{Next, Production, Symbol, nonterminal}
use Rattle.lalrpop_lr1_theory.specs.FirstSets.{First0}
use Rattle.lalrpop_lr1_theory.specs.Automata.{Carries, Closure, IsCover, IsShifted, Walk, begins_with_end, closed, goes, in_kernel}
use Rattle.lalrpop_lr1_theory.specs.Automata.{passes_next, shifts_next, stands, starts_next}
use Rattle.lalrpop_lr1_theory.specs.States.{State}
use Rattle.lalrpop_lr1_theory.specs.CanonicalStates.{AreLr0States}
use Rattle.lalrpop_lr1_theory.proofs.WalkLemmas.{contains_after, item_closes, item_over}
use Rattle.lalrpop_lane_theory.specs.CarriedConflicts.{AreReachedCover, IsReachedCover}
use Rattle.lalrpop_lane_theory.specs.Lanes.{Lane, LaneAdds, adds_end, adds_first, begins_lane, steps_back, steps_up}

-- states without lookaheads are reached
pub lr0_reached : (grammar : List Production) (s : Text) (states : List State) → AreLr0States grammar s states →
    AreReachedCover grammar s states
lr0_reached grammar s states lr0 = record { cover = lr0.automaton.cover; reached = lr0.automaton.reached }

module _ (G : Production → Type 0) (s : Text) (Item : ℕ → Production → ℕ → Type 0) (Edge : ℕ → Symbol → ℕ → Type 0)
    (cover : IsCover G s Item Edge) (closes : (n : ℕ) (p : Production) (i : ℕ) → Closure G (Item n) p i → Item n p i) where
  -- over a cover in which each state's items are closed, what is carried in a state is carried to an item of it
  pub carried_item : (n : ℕ) (p : Production) (i : ℕ) (x : Next) → Carries G s Item Edge n p i x → Item n p i
  carried_item n p i x (begins_with_end q g e) = (cover.start q 0).1 (in_kernel q 0 (g, e, refl))
  carried_item n p i x (shifts_next {n = m} {i = j} X b k c d e) =
      (cover.next m X n e p (suc j)).1
      (in_kernel p (suc j) (record { dot = j; rest = b; on = refl; item = carried_item m p j x c; before = d }))
  carried_item n p i x (starts_next b q t c d g f) = closes n q 0 (closed b q c d g)
  carried_item n p i x (passes_next {p = q} {i = j} b r y c d g f) =
      closes n r 0 (closed b r (in_kernel q j (carried_item n q j y c)) d g)

module _ (G : Production → Type 0) (s : Text) (Item : ℕ → Production → ℕ → Type 0) (Edge : ℕ → Symbol → ℕ → Type 0)
    (states : IsReachedCover G s Item Edge) where
  -- an item of a state is of the grammar
  pub item_given : (n : ℕ) (p : Production) (i : ℕ) → Item n p i → G p
  item_given n p i it = let w = states.reached n p i it in item_over G s Item Edge states.cover w.0 n w.1 p i it

  -- a state's items are closed
  pub closure_item : (n : ℕ) (p : Production) (i : ℕ) → Closure G (Item n) p i → Item n p i
  closure_item n p i (in_kernel q j k) = k
  closure_item n p i (closed {p = q} {i = j} b r c d u) =
      let it = closure_item n q j c in
      let w = states.reached n q j it in
      item_closes G s Item Edge states.cover w.0 n w.1 q j b r it d u

  shifted_from : (k : ℕ) (X : Symbol) (p : Production) (i : ℕ) → Closure G (IsShifted Item k X) p i → (j : ℕ) → i ≡ suc j →
      Item k p j
  shifted_from k X p i (in_kernel q h u) j e = let z : u.dot ≡ j = omega (arith, u.on, e) in subst (Item k q) z u.item
  shifted_from k X p i (closed b q c d u) j e = absurd (omega (arith, e))

  -- an item with its dot moved back stands in each state from which the symbol leads to its own
  pub item_before : (m : ℕ) (p : Production) (j k : ℕ) (X : Symbol) → Item m p (suc j) → Edge k X m → Item k p j
  item_before m p j k X it e = shifted_from k X p (suc j) ((states.cover.next k X m e p (suc j)).0 it) j refl

  module _ (n : ℕ) (p : Production) (i : ℕ) where
    -- a lane stays in the states' items
    pub lane_item : Item n p i → (m : ℕ) (q : Production) (j : ℕ) → Lane G Item Edge n p i m q j → Item m q j
    lane_item it m q j begins_lane = it
    lane_item it m q j (steps_back {m = k} X b h l d e) = item_before k q j m X (lane_item it k q (suc j) l) e
    lane_item it m q j (steps_up r h b l other d f) = other

    -- what is carried where a lane comes is carried to the item from which it begins
    pub lane_carries : Item n p i → (m : ℕ) (q : Production) (j : ℕ) → Lane G Item Edge n p i m q j → (x : Next) →
        Carries G s Item Edge m q j x → Carries G s Item Edge n p i x
    lane_carries it m q j begins_lane x c = c
    lane_carries it m q j (steps_back {m = k} X b h l d e) x c = lane_carries it k q (suc j) l x (shifts_next X b k c d e)
    lane_carries it m q j (steps_up {q = r} q' j' b l other d f) x c =
        lane_carries it m r 0 l x (passes_next b r x c d (item_given m r 0 (lane_item it m r 0 l)) f)

    -- what is carried where a lane comes is added by the lane
    pub carried_added : (m : ℕ) (q : Production) (j : ℕ) (x : Next) → Carries G s Item Edge m q j x →
        Lane G Item Edge n p i m q j → (k : ℕ) × LaneAdds G s Item Edge n p i k x
    carried_added m q j x (begins_with_end r g e) l = (0, adds_end l e)
    carried_added m q j x (shifts_next {n = k} {i = h} X b m' c d e) l = carried_added k q h x c (steps_back X b k l d e)
    carried_added m q j x (starts_next {p = r} {i = h} b q' t c d g f) l = (m, adds_first r h b t l (closure_item m r h c) d f)
    carried_added m q j x (passes_next {p = r} {i = h} b q' y c d g f) l =
        carried_added m r h y c (steps_up r h b l (carried_item G s Item Edge states.cover closure_item m r h y c) d f)

    module _ (alone : (q : Production) → G q → Contains q.right (nonterminal s) → ⊥) where
      start_closed : (k : ℕ) (X : Symbol) (q : Production) (j : ℕ) → Closure G (IsShifted Item k X) q j → j ≡ 0 → q.left ≡ s →
          ((r : Production) (h : ℕ) → Closure G (IsShifted Item k X) r h → G r) → ⊥
      start_closed k X q j (in_kernel r h u) z e over = omega (arith, z, u.on)
      start_closed k X q j (closed {p = r} {i = h} b q' c d u) z e over =
          alone r (over r h c) (contains_after (nonterminal s) b r.right h (d ∙ ap (λ A. nonterminal A ∷ b) e))

      -- the items of a start alone with the dot in front stand in state 0 alone
      pub start_zero : (g : List Symbol) (m : ℕ) → Walk Edge g m → (q : Production) → Item m q 0 → q.left ≡ s → m ≡ 0
      start_zero g m stands q it e = refl
      start_zero g m (goes {g = h} {n = k} X m' w d) q it e =
          absurd (start_closed k X q 0 ((states.cover.next k X m d q 0).0 it) refl e
          (λ r j c. item_given m r j ((states.cover.next k X m d r j).1 c)))

      -- what a lane adds is carried to its item
      pub added_carried : Item n p i → (m : ℕ) (x : Next) → LaneAdds G s Item Edge n p i m x → Carries G s Item Edge n p i x
      added_carried it m x (adds_end {q = q} l e) =
          let j = lane_item it m q 0 l in
          let w = states.reached m q 0 j in
          lane_carries it m q 0 l None
          (subst (λ k. Carries G s Item Edge k q 0 None) (sym (start_zero w.0 m w.1 q j e))
          (begins_with_end q (item_given m q 0 j) e))
      added_carried it m x (adds_first {q = q} r j b t l other d f) =
          lane_carries it m q 0 l (Some t)
          (starts_next b q t (in_kernel r j other) d (item_given m q 0 (lane_item it m q 0 l)) f)

      pub lanes_carried : Item n p i → (x : Next) → Carries G s Item Edge n p i x ↔ ((m : ℕ) × LaneAdds G s Item Edge n p i m x)
      lanes_carried it x = (λ c. carried_added n p i x c begins_lane, λ a. added_carried it a.0 x a.1)

-- a set of states and items that has the first, and is closed under both steps, has the whole lane
pub lane_least : (G : Production → Type 0) (Item : ℕ → Production → ℕ → Type 0) (Edge : ℕ → Symbol → ℕ → Type 0) (n : ℕ)
    (p : Production) (i : ℕ) (Visited : ℕ → Production → ℕ → Type 0) → Visited n p i →
    ((m : ℕ) (q : Production) (j : ℕ) (X : Symbol) (b : List Symbol) (k : ℕ) → Visited m q (suc j) → drop j q.right ≡ X ∷ b →
    Edge k X m → Visited k q j) →
    ((m : ℕ) (q r : Production) (j : ℕ) (b : List Symbol) → Visited m q 0 → Item m r j → drop j r.right ≡ nonterminal q.left ∷ b →
    First0 G b None → Visited m r j) →
    (m : ℕ) (q : Production) (j : ℕ) → Lane G Item Edge n p i m q j → Visited m q j
lane_least G Item Edge n p i Visited v back up m q j begins_lane = v
lane_least G Item Edge n p i Visited v back up m q j (steps_back {m = k} X b h l d e) =
    back k q j X b m (lane_least G Item Edge n p i Visited v back up k q (suc j) l) d e
lane_least G Item Edge n p i Visited v back up m q j (steps_up {q = r} q' j' b l it d f) =
    up m r q' j' b (lane_least G Item Edge n p i Visited v back up m r 0 l) it d f
