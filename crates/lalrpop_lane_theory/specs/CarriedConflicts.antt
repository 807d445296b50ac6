-- Conflicts of what is carried over states, and states that reduce before just that: for states by lanes.
use Rattle.std.specs.Prelude.{ℕ, false, List, length, Some, ◌≡◌, ◌↔◌, Contains, slice_get}
use Rattle.lalrpop_grammar_symbols.specs.Symbols.{Terminal, Text}
use Rattle.lalrpop_lr1_theory.specs.Productions.{Next, Production, Symbol, terminal}
use Rattle.lalrpop_lr1_theory.specs.Automata.{Carries, IsCover, Walk}
use Rattle.lalrpop_lr1_theory.specs.States.{HasEdge, HasItem, Reduces, Reduction, State}
use Rattle.lalrpop_lr1_theory.specs.SameStates.{HasReductionBy}

-- states cover the items, and to each with an item some symbols lead, as they do over canonical states and those without lookaheads
pub record IsReachedCover (G : Production → Type 0) (s : Text) (Item : ℕ → Production → ℕ → Type 0)
    (Edge : ℕ → Symbol → ℕ → Type 0) : Type 0 where
  pub cover : IsCover G s Item Edge
  pub reached : (n : ℕ) (p : Production) (i : ℕ) → Item n p i → (g : List Symbol) × Walk Edge g n

abbrev pub AreReachedCover : List Production → Text → List State → Type 0
AreReachedCover grammar s states = IsReachedCover (Contains grammar) s (HasItem states) (HasEdge states)

-- the state has finished the item, and x is carried to it
abbrev pub CarriesToFinished : (Production → Type 0) → Text → (ℕ → Production → ℕ → Type 0) → (ℕ → Symbol → ℕ → Type 0) → ℕ →
    Production → Next → Type 0
CarriesToFinished G s Item Edge n p x = Item n p (length p.right) × Carries G s Item Edge n p (length p.right) x

-- what is carried leaves no conflict: no two items that a state has finished share it, and to none a terminal is carried that the
-- state shifts
pub record HasNoCarriedConflict (G : Production → Type 0) (s : Text) (Item : ℕ → Production → ℕ → Type 0)
    (Edge : ℕ → Symbol → ℕ → Type 0) : Type 0 where
  pub reductions_apart : (n : ℕ) (p q : Production) (x : Next) → CarriesToFinished G s Item Edge n p x →
      CarriesToFinished G s Item Edge n q x → p ≡ q
  pub shifts_apart : (n : ℕ) (p : Production) (t : Terminal) (m : ℕ) → CarriesToFinished G s Item Edge n p (Some t) →
      Edge n (terminal t) m → ⊥

abbrev pub HaveNoCarriedConflict : List Production → Text → List State → Type 0
HaveNoCarriedConflict grammar s states = HasNoCarriedConflict (Contains grammar) s (HasItem states) (HasEdge states)

-- States reduce by the items that they have finished, each before just what is carried to it, and never before the token of errors.
pub record AreCarriedReductions (grammar : List Production) (s : Text) (states : List State) : Type 0 where
  pub finished : (n : ℕ) (p : Production) → HasReductionBy states n p ↔ HasItem states n p (length p.right)
  pub before : (n : ℕ) (p : Production) (x : Next) →
      Reduces states n p x ↔ Carries (Contains grammar) s (HasItem states) (HasEdge states) n p (length p.right) x
  pub no_error : (n : ℕ) (state : State) (a : Reduction) → slice_get states n ≡ Some state → Contains state.reductions a →
      a.lookahead.error ≡ false

-- no state has two reductions by one production
abbrev pub ReduceByEachOnce : List State → Type 0
ReduceByEachOnce states =
    (n : ℕ) (state : State) (j k : ℕ) (a b : Reduction) → slice_get states n ≡ Some state → slice_get state.reductions j ≡ Some a →
    slice_get state.reductions k ≡ Some b → a.production ≡ b.production → j ≡ k
