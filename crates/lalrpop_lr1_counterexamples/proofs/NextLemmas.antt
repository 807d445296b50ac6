-- No terminal comes where the end is next: for the answers of completions before what comes next.
use Rattle.std.proofs.Common.{◌≡◌, ℕ, List, [], ◌∷◌, Option, Some, None, refl, ap}
use Rattle.lalrpop_grammar_symbols.specs.Symbols.{Terminal, Text}
use Rattle.lalrpop_grammar_repr.specs.declared.grammar.Grammar.{Grammar}
use Rattle.lalrpop_lr1_theory.specs.Productions.{first}
use Rattle.lalrpop_lr1_theory.specs.States.{State}
use Rattle.lalrpop_lr1_theory.specs.Trees.{Move}
use Rattle.lalrpop_lr1_least_trees.specs.RestForests.{NoLeaves}
use Rattle.lalrpop_lr1_paths.specs.declared.completion_steps.completion_graphs.CompletionGraphs.{CompletionGraphs}
use Rattle.lalrpop_lr1_paths.specs.CompletionSearches.{TellsCompletion}
use Rattle.lalrpop_lr1_counterexamples.specs.ShownMoves.{ComesNext}

nothing_next : (w : List Terminal) → first w ≡ None → w ≡ []
nothing_next [] e = refl
nothing_next (t ∷ w) e = let z : ⊥ = cc in absurd z

-- a completion without leaves, or that there is none, answers for completions where the end comes next
pub end_told : (g : Grammar) (s : Text) (states : List State) (ways : CompletionGraphs) (n : ℕ) (B : Text) (found : Option (List Move)) →
    TellsCompletion g s states ways n B NoLeaves found → TellsCompletion g s states ways n B (ComesNext None) found
end_told g s states ways n B None h = λ ms w out next. h ms w out (nothing_next w next)
end_told g s states ways n B (Some ms) h = record { left = h.left; leads = h.leads; wanted = ap first h.wanted }
