-- What is carried to the productions of a name in a state, without the items in between: for the test of carried lookaheads.
use Rattle.std.specs.Prelude.{ℕ, List, [], ◌∷◌, ◌++◌, length, drop, Some, None, ◌≡◌}
use Rattle.lalrpop_grammar_symbols.specs.Symbols.{Text, Terminal}
use Rattle.lalrpop_lr1_theory.specs.Productions.{Symbol, nonterminal, Production, Next}
use Rattle.lalrpop_lr1_theory.specs.FirstSets.{First0}
use Rattle.lalrpop_lr1_theory.specs.Automata.{Carries, Closure}

-- the symbols lead from one state to another
abbrev pub LeadAlong : (ℕ → Symbol → ℕ → Type 0) → List Symbol → ℕ → ℕ → Type 0
LeadAlong Edge [] n m = n ≡ m
LeadAlong Edge (X ∷ g) n m = (k : ℕ) × Edge n X k × LeadAlong Edge g k m

-- What is propagated to a name in a state: the end to the start in state 0; what can come first behind the name after a dot; and,
-- where what stands behind the name in a production derives nothing, what is propagated to the production's own name, in the state
-- from which the symbols before the name lead here.
pub data IsPropagated (G : Production → Type 0) (s : Text) (Item : ℕ → Production → ℕ → Type 0)
    (Edge : ℕ → Symbol → ℕ → Type 0) :
    ℕ → Text → Next → Type 0 where
  end_at_start : IsPropagated G s Item Edge 0 s None
  first_behind : {n : ℕ} {p : Production} {i : ℕ} (b : List Symbol) (A : Text) (t : Terminal) → Closure G (Item n) p i →
      drop i p.right ≡ nonterminal A ∷ b → First0 G b (Some t) → IsPropagated G s Item Edge n A (Some t)
  propagated_on : {n : ℕ} {x : Next} (p : Production) (a b : List Symbol) (A : Text) (m : ℕ) →
      IsPropagated G s Item Edge n p.left x → G p → p.right ≡ a ++ nonterminal A ∷ b → LeadAlong Edge a n m →
      First0 G b None → IsPropagated G s Item Edge m A x

-- each state that a production leads to reduces by it before all that is propagated to its name where it begins
abbrev pub ReducesBeforeLookaheads : (Production → Type 0) → Text → (ℕ → Production → ℕ → Type 0) →
    (ℕ → Symbol → ℕ → Type 0) → (ℕ → Production → Next → Type 0) → Type 0
ReducesBeforeLookaheads G s Item Edge Reduce =
    (n m : ℕ) (p : Production) (x : Next) → G p → IsPropagated G s Item Edge n p.left x → LeadAlong Edge p.right n m →
    Reduce m p x

-- each state reduces by each production before all that is carried to its end
abbrev pub ReducesBeforeCarried : (Production → Type 0) → Text → (ℕ → Production → ℕ → Type 0) →
    (ℕ → Symbol → ℕ → Type 0) → (ℕ → Production → Next → Type 0) → Type 0
ReducesBeforeCarried G s Item Edge Reduce =
    (n : ℕ) (p : Production) (x : Next) → Carries G s Item Edge n p (length p.right) x → Reduce n p x
