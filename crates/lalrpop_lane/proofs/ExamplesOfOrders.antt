-- Three states, of which the last has a goto: the order that puts it second, and two that the definition refuses.
use Rattle.std.proofs.Common.{◌≡◌, ℕ, List, [], ◌∷◌, refl, inl, inr, arith}
use Rattle.lalrpop_grammar_symbols.specs.declared.names.NonterminalString.{NonterminalString}
use Rattle.lalrpop_grammar_repr.specs.declared.terminal_set.TerminalSet.{TerminalSet}
use Rattle.lalrpop_lr1_core.specs.declared.state.State.{State}
use Rattle.lalrpop_lr1_core.specs.declared.state_index.StateIndex.{StateIndex}
use Rattle.lalrpop_lr1_build.specs.CollapseAnswers.{states_over}
use Rattle.lalrpop_lr1_theory.specs.GotoOrders.{AreInGotoOrder, IsInFront}
use Rattle.lalrpop_lane.specs.GotoNumbers.{in_goto_order}
use Rattle.lalrpop_lane.proofs.OrderLemmas.{ordered_fronts}

abbrev with_gotos : ℕ → List (NonterminalString × StateIndex) → State (List ℕ)
with_gotos n gotos = record {
  index = record { 0 = n };
  items = record { vec = [] };
  shifts = [];
  reductions = [];
  gotos = gotos;
}

-- the last one leads back to the second one
abbrev three : List (State (List ℕ))
three = with_gotos 0 [] ∷ with_gotos 1 [] ∷ with_gotos 2 ((record { 0 = 65 ∷ [] }, record { 0 = 1 }) ∷ []) ∷ []

abbrev three_ordered : List (State (List ℕ))
three_ordered = with_gotos 0 [] ∷ with_gotos 1 ((record { 0 = 65 ∷ [] }, record { 0 = 2 }) ∷ []) ∷ with_gotos 2 [] ∷ []

ordered_three : in_goto_order three ≡ three_ordered
ordered_three = refl

module _ (ts : TerminalSet) where
  in_order : AreInGotoOrder (states_over ts three) (0 ∷ 2 ∷ 1 ∷ [])
  in_order = ordered_fronts ts three

  last_in_front : IsInFront (states_over ts three) 2
  last_in_front = inr (_, refl, λ e. cc)

  second_not_in_front : IsInFront (states_over ts three) 1 → ⊥
  second_not_in_front (inl e) = absurd (omega (arith, e))
  second_not_in_front (inr h) = h.2 (let z : h.0.gotos ≡ [] = cc in z)

  -- states with gotos don't stay behind the others
  old_order_refused : AreInGotoOrder (states_over ts three) (0 ∷ 1 ∷ 2 ∷ []) → ⊥
  old_order_refused o = let l = o.front_first 2 1 2 1 refl refl last_in_front second_not_in_front in absurd (omega (arith, l))

  -- state 0 stays the first
  moved_start_refused : AreInGotoOrder (states_over ts three) (1 ∷ 2 ∷ 0 ∷ []) → ⊥
  moved_start_refused o = let l = o.front_rises 0 2 1 0 refl refl (inl refl) last_in_front (omega arith) in absurd (omega (arith, l))
