-- Computed: of two names the second has node 3 in state 1, and the first doesn't; and an edge that is turned round isn't the step's.
use Rattle.std.proofs.Common.{◌≡◌, ℕ, zero, suc, Option, Some, None, refl, sym, ap, ◌∙◌, arith}
use Rattle.lalrpop_lr1_theory.specs.Productions.{Symbol, nonterminal}
use Rattle.lalrpop_lr1_theory.proofs.ExampleLemmas.{name, name_same, nonterminal_is}
use Rattle.lalrpop_lr1_theory.proofs.ExamplesOfStates.{letter_s, letter_start}
use Rattle.lalrpop_lr1_theory.proofs.StepLemmas.{some_same}
use Rattle.lalrpop_lr1_paths.specs.CompletionSteps.{IsNodeIfSome, IsCompletionNode, LeadsAsStep}
use Rattle.lalrpop_lr1_paths.specs.declared.completion_steps.steps_of_states.CompletionStep.{CompletionStep}

abbrev two_names : ℕ → Option Symbol
two_names zero = Some (nonterminal (name letter_start))
two_names (suc zero) = Some (nonterminal (name letter_s))
two_names (suc (suc n)) = None

node_of_second : IsCompletionNode two_names 2 3 1 (name letter_s)
node_of_second = record { number = 1; below = omega arith; named = refl; is = refl }

-- refused: node 3 as that of the first
not_of_first : IsCompletionNode two_names 2 3 1 (name letter_start) → ⊥
not_of_first node =
    let second : node.number ≡ 1 = omega (arith, node.is) in
    let same : Some (nonterminal (name letter_s)) ≡ Some (nonterminal (name letter_start)) =
    sym (ap two_names second) ∙ node.named in
    let names = some_same (nonterminal (name letter_s)) (nonterminal (name letter_start)) same in
    omega (arith, name_same letter_s letter_start (nonterminal_is (name letter_s) (name letter_start) names))

-- refused: that the second has no node
has_node : IsNodeIfSome two_names 2 1 (name letter_s) None → ⊥
has_node none = none 1 (omega arith) refl

-- refused: an edge that is turned round
not_reversed : (step : CompletionStep) → step.from ≡ 1 → step.to ≡ 2 → LeadsAsStep step (record { from = 2; to = 1; weight = 0 }) → ⊥
not_reversed step from to leads = omega (arith, from, to, leads.0)
