-- The marks of a closure and the closure itself: for what canonical states hold, and for the closure that code computes.
use Rattle.std.proofs.Common.{ℕ, Bool, Some, None, Option}
use Rattle.lalrpop_lr1_theory.specs.Productions.{Next, Production}
use Rattle.lalrpop_lr1_theory.specs.Automata.{Closure, Marked, brings, closed, has_next, in_kernel, passes, starts, there}

module _ (firsts : Bool) (G : Production → Type 0) (K : Production → ℕ → Type 0) (U : Production → ℕ → Next → Type 0) where
  -- each marked item is in the closure
  pub item_of : ((p : Production) (i : ℕ) (x : Next) → U p i x → K p i) → {p : Production} {i : ℕ} (m : Option Next) →
      Marked firsts G K U p i m → Closure G K p i
  item_of both m (there p i k) = in_kernel p i k
  item_of both m (has_next p i x k) = in_kernel p i (both p i x k)
  item_of both m (brings b q d e g) = closed b q (item_of both None d) e g
  item_of both m (starts b q t f d e g h) = closed b q (item_of both None d) e g
  item_of both m (passes b q x d e g h) = closed b q (item_of both (Some x) d) e g

  -- each item of the closure is marked as there
  pub mark_of : {p : Production} {i : ℕ} → Closure G K p i → Marked firsts G K U p i None
  mark_of (in_kernel p i k) = there p i k
  mark_of (closed b q d e g) = brings b q (mark_of d) e g
