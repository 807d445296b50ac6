-- What is carried to the end of a production is what is propagated to its name in a state from which it leads there: for ends.
use Rattle.std.proofs.Common.{◌↔◌, ℕ, length}
use Rattle.lalrpop_grammar_symbols.specs.Symbols.{Text}
use Rattle.lalrpop_lr1_theory.specs.Automata.{Carries}
use Rattle.lalrpop_lr1_theory.specs.Productions.{Next, Production, Symbol}
use Rattle.lalrpop_lr1_theory.specs.PropagatedNexts.{IsPropagated, LeadAlong}
use Rattle.lalrpop_lr1_theory.proofs.PropagatedLemmas.{reduces_carried, reduces_propagated}

module _ (G : Production → Type 0) (s : Text) (Item : ℕ → Production → ℕ → Type 0) (Edge : ℕ → Symbol → ℕ → Type 0) where
  -- a production leads to a state from one where something is propagated to its name
  pub record PropagatesToEnd (n : ℕ) (p : Production) (x : Next) : Type 0 where
    pub from : ℕ
    pub of_grammar : G p
    pub propagated : IsPropagated G s Item Edge from p.left x
    pub leads : LeadAlong Edge p.right from n

  -- to the end of a production just that is carried
  pub carried_ends : (n : ℕ) (p : Production) (x : Next) → Carries G s Item Edge n p (length p.right) x ↔ PropagatesToEnd n p x
  carried_ends n p x = (
    λ c. reduces_carried G s Item Edge PropagatesToEnd
        (λ m k q y g h l. record { from = m; of_grammar = g; propagated = h; leads = l }) n p x c,
    λ e. reduces_propagated G s Item Edge (λ k q y. Carries G s Item Edge k q (length q.right) y) (λ k q y h. h)
        e.from n p x e.of_grammar e.propagated e.leads,
  )
