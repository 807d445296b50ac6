-- Lanes: from which states and items the lookaheads of an item come, what comes there, and which states are passed.
use Rattle.std.specs.Prelude.{ℕ, suc, List, ◌∷◌, length, drop, None, Some, ◌≡◌}
use Rattle.lalrpop_grammar_symbols.specs.Symbols.{Terminal, Text}
use Rattle.lalrpop_lr1_theory.specs.Productions.{Next, Production, Symbol, nonterminal}
use Rattle.lalrpop_lr1_theory.specs.Trees.{Move, reduce, shift}
use Rattle.lalrpop_lr1_theory.specs.FirstSets.{First0}

-- A lane from an item of a state: the states and items from which it steps. These are the state and the item themselves; the item with
-- its dot moved back, in each state from which the symbol leads to this one; and, where the dot is in front, each item of the state
-- with its dot before the nonterminal, if what stands behind that may derive nothing.
pub data Lane (G : Production → Type 0) (Item : ℕ → Production → ℕ → Type 0) (Edge : ℕ → Symbol → ℕ → Type 0) (n : ℕ)
    (p : Production) (i : ℕ) : ℕ → Production → ℕ → Type 0 where
  begins_lane : Lane G Item Edge n p i n p i
  steps_back : {m : ℕ} {q : Production} {j : ℕ} (X : Symbol) (b : List Symbol) (k : ℕ) → Lane G Item Edge n p i m q (suc j) →
      drop j q.right ≡ X ∷ b → Edge k X m → Lane G Item Edge n p i k q j
  steps_up : {m : ℕ} {q : Production} (r : Production) (j : ℕ) (b : List Symbol) → Lane G Item Edge n p i m q 0 → Item m r j →
      drop j r.right ≡ nonterminal q.left ∷ b → First0 G b None → Lane G Item Edge n p i m r j

-- What a lane adds in a state: the end, at an item of the start with the dot in front; and, at any item with the dot in front, the
-- terminals that can come first behind its nonterminal.
pub data LaneAdds (G : Production → Type 0) (s : Text) (Item : ℕ → Production → ℕ → Type 0) (Edge : ℕ → Symbol → ℕ → Type 0)
    (n : ℕ) (p : Production) (i : ℕ) : ℕ → Next → Type 0 where
  adds_end : {m : ℕ} {q : Production} → Lane G Item Edge n p i m q 0 → q.left ≡ s → LaneAdds G s Item Edge n p i m None
  adds_first : {m : ℕ} {q : Production} (r : Production) (j : ℕ) (b : List Symbol) (t : Terminal) → Lane G Item Edge n p i m q 0 →
      Item m r j → drop j r.right ≡ nonterminal q.left ∷ b → First0 G b (Some t) → LaneAdds G s Item Edge n p i m (Some t)

-- The states in which a lane has an entry, be it empty: its own, and those in which it comes to an item of the start with the dot in
-- front, or asks what can come first behind a nonterminal.
pub data LaneEnters (G : Production → Type 0) (s : Text) (Item : ℕ → Production → ℕ → Type 0) (Edge : ℕ → Symbol → ℕ → Type 0)
    (n : ℕ) (p : Production) (i : ℕ) : ℕ → Type 0 where
  enters_own : LaneEnters G s Item Edge n p i n
  enters_at_start : {m : ℕ} {q : Production} → Lane G Item Edge n p i m q 0 → q.left ≡ s → LaneEnters G s Item Edge n p i m
  enters_behind : {m : ℕ} {q : Production} (r : Production) (j : ℕ) (b : List Symbol) → Lane G Item Edge n p i m q 0 → Item m r j →
      drop j r.right ≡ nonterminal q.left ∷ b → LaneEnters G s Item Edge n p i m

-- a lane steps back over an edge: from the state to which the edge leads to the one from which it leads
pub record LaneNotes (G : Production → Type 0) (Item : ℕ → Production → ℕ → Type 0) (Edge : ℕ → Symbol → ℕ → Type 0) (n : ℕ)
    (p : Production) (i k m : ℕ) : Type 0 where
  pub production : Production
  pub dot : ℕ
  pub symbol : Symbol
  pub rest : List Symbol
  pub stepped : Lane G Item Edge n p i m production (suc dot)
  pub before : drop dot production.right ≡ symbol ∷ rest
  pub edge : Edge k symbol m

-- What the trace of a move of a state adds, where it has entries, and which edges it notes: a shift has its terminal in its own
-- state; a reduction has what the lane from the finished item has.
abbrev pub TraceAdds : (Production → Type 0) → Text → (ℕ → Production → ℕ → Type 0) → (ℕ → Symbol → ℕ → Type 0) → ℕ → Move → ℕ →
    Next → Type 0
TraceAdds G s Item Edge n (shift t) m x = (m ≡ n) × (x ≡ Some t)
TraceAdds G s Item Edge n (reduce p) m x = LaneAdds G s Item Edge n p (length p.right) m x

abbrev pub TraceEnters : (Production → Type 0) → Text → (ℕ → Production → ℕ → Type 0) → (ℕ → Symbol → ℕ → Type 0) → ℕ → Move →
    ℕ → Type 0
TraceEnters G s Item Edge n (shift t) m = m ≡ n
TraceEnters G s Item Edge n (reduce p) m = LaneEnters G s Item Edge n p (length p.right) m

abbrev pub TraceNotes : (Production → Type 0) → (ℕ → Production → ℕ → Type 0) → (ℕ → Symbol → ℕ → Type 0) → ℕ → Move → ℕ → ℕ →
    Type 0
TraceNotes G Item Edge n (shift t) k m = ⊥
TraceNotes G Item Edge n (reduce p) k m = LaneNotes G Item Edge n p (length p.right) k m
