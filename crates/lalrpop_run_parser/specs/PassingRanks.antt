-- How often a tree is passed down as it is, by productions whose node it doesn't show: for folding, which has to end.
use Rattle.std.specs.Prelude.{◌≡◌, ◌<◌, ℕ, suc, min, List, [], ◌∷◌, Some, None}
use Rattle.lalrpop_grammar.specs.Trees.{Tree}
use Rattle.lalrpop_grammar_language.specs.Expansion.{Nonterminal}
use Rattle.lalrpop_grammar_symbols.specs.Symbols.{Closed, Op}
use Rattle.lalrpop_lr1_theory.specs.Productions.{Production, Symbol, nonterminal, terminal}
use Rattle.lalrpop_grammar_language.specs.Labels.{Label}
use Rattle.lalrpop_run_trees.specs.ActionLabels.{ChoiceLabel}

-- How many productions at most pass a tree of the nonterminal down as it is: one from each level, which are below 2^32, to a tighter
-- one; one from a list that may be empty to one that isn't; one from a start.
abbrev pub passing_rank : Nonterminal → ℕ
passing_rank (Nonterminal.start n) = 4294967298
passing_rank (Nonterminal.closed (Closed.call n args None)) = 0
passing_rank (Nonterminal.closed (Closed.call n args (Some level))) = suc (min level 4294967296)
passing_rank (Nonterminal.closed (Closed.repeat Op.star x)) = 1
passing_rank (Nonterminal.closed (Closed.repeat Op.plus x)) = 0
passing_rank (Nonterminal.closed (Closed.repeat Op.question x)) = 0
passing_rank (Nonterminal.closed (Closed.group xs)) = 0
passing_rank (Nonterminal.closed (Closed.terminal t)) = 0
passing_rank (Nonterminal.closed (Closed.choose x)) = 0
passing_rank (Nonterminal.closed (Closed.name m n x)) = 0
passing_rank (Nonterminal.closed Closed.lookahead) = 0
passing_rank (Nonterminal.closed Closed.lookbehind) = 0
passing_rank (Nonterminal.closed Closed.faulty) = 0

abbrev pub label_rank : ChoiceLabel → ℕ
label_rank (Label.choose x o inlinings) = passing_rank x

-- it is a nonterminal whose productions have smaller ranks
abbrev pub IsLower : (Production → Type 0) → (ℕ → ChoiceLabel) → ℕ → Symbol → Type 0
IsLower G label_of rank (terminal t) = ⊥
IsLower G label_of rank (nonterminal n) = (q : Production) → G q → q.left ≡ n → label_rank (label_of q.action) < rank

-- each symbol that has the whole tree is such a one
abbrev pub FallsAlong : (Production → Type 0) → (ℕ → ChoiceLabel) → ℕ → Tree → List Symbol → List Tree → Type 0
FallsAlong G label_of rank t [] us = Unit {0}
FallsAlong G label_of rank t (s ∷ ss) [] = Unit {0}
FallsAlong G label_of rank t (s ∷ ss) (u ∷ us) = (u ≡ t → IsLower G label_of rank s) × FallsAlong G label_of rank t ss us
