-- The definitions of specs/ computed on small sets, maps and queues, beside answers that they refuse.
use Rattle.std.proofs.Common.{◌≡◌, ℕ, Bool, true, false, List, [], ◌∷◌, ◌++◌, refl, ◌∙◌, nat_eq, arith}
use Rattle.std.specs.Ordering.{nat_cmp}
use Rattle.lalrpop_grammar_symbols.specs.declared.terminal.TerminalString.TheVariants as terminal
use Rattle.lalrpop_grammar_repr.specs.declared.terminal_set.TerminalSet.{TerminalSet}
use Rattle.lalrpop_sets.specs.AscendingLists.{Ascends}
use Rattle.lalrpop_sets.specs.Collections.{Puts}
use Rattle.lalrpop_sets.specs.Queues.{number_in, queue_of, with_kernel}
use Rattle.lalrpop_sets.specs.TokensLeft.{tokens_of}
use Rattle.lalrpop_sets.specs.declared.token.Token.TheVariants as token

-- a list that holds a number twice is none of a set
twice_refused : Ascends (2 ∷ 2 ∷ []) → ⊥
twice_refused h = let l = h.1.0 in absurd (omega arith)

-- one terminal has the number 0, the end 1, the token of errors 2; what is past them is shown by none
one_terminal : TerminalSet
one_terminal = record { all = terminal.Error ∷ []; bits = [] }

shows_in_order : tokens_of one_terminal (0 ∷ 1 ∷ 2 ∷ 3 ∷ []) ≡ token.Terminal terminal.Error ∷ token.Eof ∷ token.Error ∷
    []
unfolding one_terminal
shows_in_order = refl

shows_what_is_there : tokens_of one_terminal (1 ∷ []) ≡ token.Eof ∷ []
unfolding one_terminal
shows_what_is_there = refl

-- a known kernel keeps its number and changes nothing, a new one is the last
known_kernel : with_kernel nat_eq (queue_of (5 ∷ 7 ∷ []) 1) 7 ≡ queue_of (5 ∷ 7 ∷ []) 1
known_kernel = refl

known_number : number_in nat_eq (5 ∷ 7 ∷ []) 7 ≡ 1
known_number = refl

new_kernel : with_kernel nat_eq (queue_of (5 ∷ 7 ∷ []) 1) 9 ≡ queue_of (5 ∷ 7 ∷ 9 ∷ []) 1
new_kernel = refl

new_number : number_in nat_eq (5 ∷ 7 ∷ []) 9 ≡ 2
new_number = refl

-- lists of numbers as contents
abbrev PutsNumber : List (ℕ × List ℕ) → ℕ → ℕ → Bool → List (ℕ × List ℕ) → Type 0
PutsNumber = Puts nat_cmp (λ c. c ≡ []) (λ c d. c ≡ d) (λ c x d. d ≡ c ++ x ∷ [])

key_came : PutsNumber [] 0 8 true ((0, 8 ∷ []) ∷ [])
key_came = (refl, ([], 8 ∷ [], refl, refl, refl))

longer : (x y : ℕ) → (x ∷ []) ≡ x ∷ y ∷ [] → ⊥
longer x y e = cc

key_came_refused : PutsNumber [] 0 8 false ((0, 8 ∷ []) ∷ []) → ⊥
key_came_refused p = let i : false ≡ true = p.0 in cc

content_changed_refused : PutsNumber ((0, 8 ∷ []) ∷ []) 0 9 false ((0, 8 ∷ 9 ∷ []) ∷ []) → ⊥
content_changed_refused p = longer 8 9 (p.2.0 refl ∙ p.1)
