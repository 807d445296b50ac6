-- Conflicts of a state, computed: shifts first, then pairs; without lookaheads the first reduction with each later one.
use Rattle.std.proofs.Common.{◌≡◌, List, [], ◌∷◌, refl}
use Rattle.std.specs.Borrow.{Bor}
use Rattle.lalrpop_grammar_repr.specs.declared.production.Production.{Production}
use Rattle.lalrpop_sets.specs.declared.nil.Nil.{Nil}
use Rattle.lalrpop_lr1_core.specs.Conflicts.{in_both, nil_conflicts, token_conflicts}
use Rattle.lalrpop_lr1_core.specs.declared.conflict.Action.{Action}
use Rattle.lalrpop_lr1_core.specs.declared.conflict.Action.TheVariants as actions
use Rattle.lalrpop_lr1_core.specs.declared.conflict.Conflict.{Conflict}
use Rattle.lalrpop_lr1_core.specs.declared.state.State.{State}
use Rattle.lalrpop_lr1_core.proofs.ExamplesOfViews.{quoted, two_terminals}

-- both ends of what is shared, in order; numbers that one lacks aren't shared
shared : in_both (0 ∷ 2 ∷ 5 ∷ []) (0 ∷ 1 ∷ 5 ∷ 6 ∷ []) ≡ 0 ∷ 5 ∷ []
unfolding in_both
shared = refl

-- a state that shifts `"a"` and `"b"`
abbrev state_of : {L : Type 0} → List (L × Bor Production) → State L
state_of reductions = record {
  index = record { 0 = 4 };
  items = record { vec = [] };
  shifts = (quoted "a", record { 0 = 2 }) ∷ (quoted "b", record { 0 = 3 }) ∷ [];
  reductions = reductions;
  gotos = [];
}

abbrev conflict : {L : Type 0} → L → Bor Production → Action → Conflict L
conflict lookahead p action = record { state = record { 0 = 4 }; lookahead = lookahead; production = p; action = action }

abbrev shift_a : Action
shift_a = actions.Shift (quoted "a") (record { 0 = 2 })

abbrev shift_b : Action
shift_b = actions.Shift (quoted "b") (record { 0 = 3 })

-- the first reduces before `"a"` and the end, the second before the end, the third before `"a"` and the token of errors
three_reductions : (p q r : Bor Production)
    → token_conflicts two_terminals (state_of ((0 ∷ 2 ∷ [], p) ∷ (2 ∷ [], q) ∷ (0 ∷ 3 ∷ [], r) ∷ []))
    ≡ conflict (0 ∷ []) p shift_a ∷ conflict (0 ∷ []) r shift_a ∷ conflict (2 ∷ []) p (actions.Reduce q)
    ∷ conflict (0 ∷ []) p (actions.Reduce r) ∷ []
unfolding in_both
three_reductions p q r = refl

-- entries of one production that share nothing are no conflict
apart : (p : Bor Production) → token_conflicts two_terminals (state_of ((2 ∷ [], p) ∷ (3 ∷ [], p) ∷ [])) ≡ []
unfolding in_both
apart p = refl

without_lookaheads : (n : Nil) (p q r : Bor Production)
    → nil_conflicts (state_of ((n, p) ∷ (n, q) ∷ (n, r) ∷ []))
    ≡ conflict n p shift_a ∷ conflict n q shift_a ∷ conflict n r shift_a ∷ conflict n p shift_b ∷ conflict n q shift_b
    ∷ conflict n r shift_b ∷ conflict n q (actions.Reduce p) ∷ conflict n r (actions.Reduce p) ∷ []
without_lookaheads n p q r = refl
