-- Closures of kernels with the same items, and walks in two covers of one grammar: for the laws on collapsed states.
use Rattle.std.proofs.Common.{◌≡◌, ◌↔◌, ℕ, suc, List, refl}
use Rattle.lalrpop_grammar_symbols.specs.Symbols.{Text}
use Rattle.lalrpop_lr1_theory.specs.Productions.{Production, Symbol}
use Rattle.lalrpop_lr1_theory.specs.Automata.{Closure, IsCover, IsShifted, Walk, closed, goes, in_kernel, stands}

-- the closure of more items has all that the closure of fewer has
pub closure_more : (G : Production → Type 0) (K L : Production → ℕ → Type 0) →
    ((p : Production) (i : ℕ) → K p i → L p i) → {p : Production} {i : ℕ} → Closure G K p i → Closure G L p i
closure_more G K L f (in_kernel p i k) = in_kernel p i (f p i k)
closure_more G K L f (closed b q d e g) = closed b q (closure_more G K L f d) e g

-- where a state has all items of another, it has all of that one's items moved over a symbol, too
pub shifted_more : (Item Other : ℕ → Production → ℕ → Type 0) (n m : ℕ) (x : Symbol) →
    ((p : Production) (i : ℕ) → Item n p i → Other m p i) → (p : Production) (i : ℕ) → IsShifted Item n x p i →
    IsShifted Other m x p i
shifted_more Item Other n m x f p i u =
    record { dot = u.dot; rest = u.rest; on = u.on; item = f p u.dot u.item; before = u.before }

-- states of two automata have the same items
abbrev pub AreAlike : (ℕ → Production → ℕ → Type 0) → (ℕ → Production → ℕ → Type 0) → ℕ → ℕ → Type 0
AreAlike Item Other n m = (p : Production) (i : ℕ) → Item n p i ↔ Other m p i

module _ (G : Production → Type 0) (s : Text) (Item : ℕ → Production → ℕ → Type 0) (Edge : ℕ → Symbol → ℕ → Type 0)
    (cover : IsCover G s Item Edge) where
  -- the state that an edge leads to has an item
  pub target_item : (n : ℕ) (x : Symbol) (m : ℕ) → Edge n x m → (p : Production) × (i : ℕ) × Item m p i
  target_item n x m e =
      let o = cover.only n x m e in
      let k : IsShifted Item n x o.production (suc o.dot) =
      record { dot = o.dot; rest = o.rest; on = refl; item = o.item; before = o.before } in
      (o.production, suc o.dot, (cover.next n x m e o.production (suc o.dot)).1 (in_kernel o.production (suc o.dot) k))

  -- where the start has a production, each state that is reached has an item
  pub reached_item : (p : Production) → G p → p.left ≡ s → (g : List Symbol) (n : ℕ) → Walk Edge g n →
      (q : Production) × (i : ℕ) × Item n q i
  reached_item p h e g n stands = (p, 0, (cover.start p 0).1 (in_kernel p 0 (h, e, refl)))
  reached_item p h e g n (goes {n = m} x m' w k) = target_item m x n k

  module _ (Other : ℕ → Production → ℕ → Type 0) (Step : ℕ → Symbol → ℕ → Type 0) (other : IsCover G s Other Step) where
    -- from states with the same items one symbol leads to states with the same items
    pub next_alike : (x : Symbol) (n m k l : ℕ) → Edge n x m → Step k x l → AreAlike Item Other n k → AreAlike Item Other m l
    next_alike x n m k l e f same p i = (
      λ h. (other.next k x l f p i).1
          (closure_more G (IsShifted Item n x) (IsShifted Other k x) (shifted_more Item Other n k x (λ q j. (same q j).0))
          ((cover.next n x m e p i).0 h)),
      λ h. (cover.next n x m e p i).1
          (closure_more G (IsShifted Other k x) (IsShifted Item n x) (shifted_more Other Item k n x (λ q j. (same q j).1))
          ((other.next k x l f p i).0 h)),
    )

    -- and an edge from the one goes along one from the other
    pub edge_alike : (x : Symbol) (n m k : ℕ) → Edge n x m → AreAlike Item Other n k →
        (l : ℕ) × Step k x l × AreAlike Item Other m l
    edge_alike x n m k e same =
        let o = cover.only n x m e in
        let r = other.onward k o.production o.dot x o.rest ((same o.production o.dot).0 o.item) o.before in
        (r.0, r.1, next_alike x n m k r.0 e r.1 same)

    -- so a walk goes along one in the other automaton
    pub walk_alike : (g : List Symbol) (n : ℕ) → Walk Edge g n → (m : ℕ) × Walk Step g m × AreAlike Item Other n m
    walk_alike g n stands = (
      0,
      stands,
      λ p i. (λ h. (other.start p i).1 ((cover.start p i).0 h), λ h. (cover.start p i).1 ((other.start p i).0 h)),
    )
    walk_alike g n (goes {g = h} {n = k} x m w e) =
        let r = walk_alike h k w in let t = edge_alike x k n r.0 e r.2 in (t.0, goes x t.0 r.1 t.1, t.2)
