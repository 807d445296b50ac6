-- Names, terminals, symbols, lists of symbols, productions and conflicts in their order: a test of the definitions.
use Rattle.std.proofs.Common.{◌≡◌, inl, inr, ℕ, List, [], ◌∷◌, Some, None, refl, arith}
use Rattle.std.specs.declared.cmp.Ordering.TheVariants.{Less}
use Rattle.lalrpop_grammar_symbols.specs.Symbols.{Terminal, Text}
use Rattle.lalrpop_lr1_theory.specs.Productions.{Production, Symbol, nonterminal, terminal}
use Rattle.lalrpop_run.specs.AllConflicts.{IsConflictBefore, with_reduction, with_shift}
use Rattle.lalrpop_run.specs.ConflictOrders.{IsNextBefore, IsProductionBefore, IsSooner, IsTerminalBefore, compare_symbols}
use Rattle.lalrpop_run.specs.ConflictOrders.{compare_texts}

abbrev a : Text
a = 97 ∷ []

abbrev ab : Text
ab = 97 ∷ 98 ∷ []

abbrev b : Text
b = 98 ∷ []

-- a text comes before one that begins with it, and that before one whose first other byte is greater
prefix_first : compare_texts a ab ≡ Less
prefix_first = refl

byte_first : compare_texts ab b ≡ Less
byte_first = refl

-- quoted literals come before regexes, these before names, these before the terminal of error recovery, whatever their bytes
quoted_first : IsTerminalBefore (Terminal.quoted b) (Terminal.regex a)
quoted_first = refl

regex_first : IsTerminalBefore (Terminal.regex b) (Terminal.bare a)
regex_first = refl

name_first : IsTerminalBefore (Terminal.bare b) Terminal.error
name_first = refl

-- the end comes last
end_last : IsNextBefore (Some Terminal.error) None
end_last = refl

-- nonterminals come before terminals
nonterminal_first : compare_symbols (nonterminal b) (terminal (Terminal.quoted a)) ≡ Less
nonterminal_first = refl

-- a shorter list of symbols comes sooner, and of two as long the one with the first smaller symbol
shorter_sooner : IsSooner (terminal (Terminal.quoted b) ∷ []) (nonterminal a ∷ nonterminal a ∷ [])
shorter_sooner = inl (omega arith)

smaller_sooner : IsSooner (nonterminal a ∷ terminal (Terminal.quoted b) ∷ []) (nonterminal b ∷ nonterminal a ∷ [])
smaller_sooner = inr (refl, refl)

abbrev of_action : Text → List Symbol → ℕ → Production
of_action left right action = record { left = left; right = right; action = action; from = 0; to = 0 }

-- productions go by the left side, then by the right side, of which one may begin with the other, then by the action
left_first : IsProductionBefore (of_action a (terminal Terminal.error ∷ []) 2) (of_action b [] 1)
left_first = refl

right_first : IsProductionBefore (of_action a (nonterminal a ∷ []) 2) (of_action a (nonterminal a ∷ nonterminal a ∷ []) 1)
right_first = refl

action_first : IsProductionBefore (of_action a (nonterminal a ∷ []) 1) (of_action a (nonterminal a ∷ []) 2)
action_first = refl

-- shifts go by their terminals, then by the productions; reductions come behind them
terminal_decides :
    IsConflictBefore (with_shift (of_action b [] 1) (Terminal.quoted a)) (with_shift (of_action a [] 0) (Terminal.quoted b))
terminal_decides = inl refl

production_decides :
    IsConflictBefore (with_shift (of_action a [] 0) (Terminal.quoted b)) (with_shift (of_action b [] 1) (Terminal.quoted b))
production_decides = inr (refl, refl)

reductions_last :
    IsConflictBefore (with_shift (of_action b [] 1) (Terminal.quoted b)) (with_reduction (of_action a [] 0) (of_action b [] 1))
reductions_last = tt
