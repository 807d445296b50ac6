-- Checked states: those that may be parsed with, wherever they come from. For the test of states, and for parsing.
use Rattle.std.specs.Prelude.{ℕ, true, false, List, length, Some, None, ◌≡◌, Contains, slice_get}
use Rattle.lalrpop_grammar_symbols.specs.Symbols.{Text, Terminal}
use Rattle.lalrpop_lr1_theory.specs.Productions.{nonterminal, Production, Next}
use Rattle.lalrpop_lr1_theory.specs.ValidItems.{NoneBarren}
use Rattle.lalrpop_lr1_theory.specs.Automata.{IsCover, Carries}
use Rattle.lalrpop_lr1_theory.specs.States.{Reduction, State, HasItem, HasEdge, Reduces}

-- The state has no conflict: no two entries of its reductions share a terminal, the end or the token of errors, also where
-- both are by one production, and no terminal that it shifts stands in an entry.
pub record HasNoConflict (state : State) : Type 0 where
  pub reductions_apart : (j k : ℕ) (a b : Reduction) (x : Next) → slice_get state.reductions j ≡ Some a →
      slice_get state.reductions k ≡ Some b → Contains a.lookahead.nexts x → Contains b.lookahead.nexts x → j ≡ k
  pub errors_apart : (j k : ℕ) (a b : Reduction) → slice_get state.reductions j ≡ Some a →
      slice_get state.reductions k ≡ Some b →
      a.lookahead.error ≡ true → b.lookahead.error ≡ true → j ≡ k
  pub shifts_apart : (t : Terminal) (m k : ℕ) (a : Reduction) → Contains state.shifts (t, m) →
      slice_get state.reductions k ≡ Some a → Contains a.lookahead.nexts (Some t) → ⊥

-- The states may be parsed with: they cover the items and reduce by what they have finished, each carried lookahead of a finished
-- item stands in its reduction, no state has a conflict, the start's reductions are before the end alone, and nothing that the
-- start reaches is barren.
pub record AreCheckedStates (grammar : List Production) (s : Text) (states : List State) : Type 0 where
  pub cover : IsCover (Contains grammar) s (HasItem states) (HasEdge states)
  pub finished : (n : ℕ) (state : State) (a : Reduction) → slice_get states n ≡ Some state → Contains state.reductions a →
      HasItem states n a.production (length a.production.right)
  pub carried : (n : ℕ) (p : Production) (x : Next) →
      Carries (Contains grammar) s (HasItem states) (HasEdge states) n p (length p.right) x → Reduces states n p x
  pub no_conflict : (n : ℕ) (state : State) → slice_get states n ≡ Some state → HasNoConflict state
  pub at_end : (n : ℕ) (state : State) (a : Reduction) (x : Next) → slice_get states n ≡ Some state →
      Contains state.reductions a → a.production.left ≡ s → Contains a.lookahead.nexts x → x ≡ None
  pub no_error : (n : ℕ) (state : State) (a : Reduction) → slice_get states n ≡ Some state → Contains state.reductions a →
      a.production.left ≡ s → a.lookahead.error ≡ false
  pub none_barren : NoneBarren (Contains grammar) s

-- the start stands on no right side
abbrev pub IsStartAlone : List Production → Text → Type 0
IsStartAlone grammar s = (p : Production) → Contains grammar p → Contains p.right (nonterminal s) → ⊥
