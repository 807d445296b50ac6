-- How many numbers inlining hands out, counted on the right sides as they are given: into how many productions each one is made
-- step by step, in numbers that stay below a limit.
use Rattle.std.specs.Prelude.{◌+◌, ◌*◌, ◌^◌, ℕ, List, [], ◌∷◌, ◌++◌, if◌then◌else◌, map, min}
use Rattle.std.specs.List.{list_any}
use Rattle.lalrpop_grammar_symbols.specs.Symbols.{Text}
use Rattle.lalrpop_grammar_repr.specs.declared.production.Production.{Production}
use Rattle.lalrpop_grammar_repr.specs.declared.production.Symbol.{Symbol}
use Rattle.lalrpop_lr1_inline.specs.InlinedNames.{NonterminalEntries}
use Rattle.lalrpop_lr1_inline.specs.InliningSteps.{is_place, productions_named}
use Rattle.lalrpop_lr1_inline.specs.declared.count.Counted.{Counted}

-- the number, or one past the limit where it is past it
abbrev pub up_to_limit : ℕ → ℕ
up_to_limit n = min n (2 ^ 32 + 1)

-- in how many ways the places of the nonterminal can be replaced where it has so many productions
abbrev pub choices_at : Text → ℕ → List Symbol → ℕ
choices_at n many [] = 1
choices_at n many (s ∷ side) = if is_place n s then many * choices_at n many side else choices_at n many side

-- inlined nonterminals, in order, with how many productions each has when it is inlined
abbrev pub InlinedCounts : Type 0
InlinedCounts = List (Text × ℕ)

-- how many productions one of this right side becomes once they are inlined
abbrev pub becomes_many : InlinedCounts → List Symbol → ℕ
becomes_many [] side = 1
becomes_many (c ∷ cs) side = choices_at c.0 c.1 side * becomes_many cs side

-- how many numbers are handed out for what becomes of it
abbrev pub handed_out : InlinedCounts → List Symbol → ℕ
handed_out [] side = 0
handed_out (c ∷ cs) side =
    (if list_any (is_place c.0) side then choices_at c.0 c.1 side else 0) + choices_at c.0 c.1 side * handed_out cs side

-- the sum of what is counted at each right side
abbrev pub sum_of_sides : (List Symbol → ℕ) → List Production → ℕ
sum_of_sides f [] = 0
sum_of_sides f (p ∷ ps) = f p.symbols + sum_of_sides f ps

abbrev pub sum_of_entries : (List Symbol → ℕ) → NonterminalEntries → ℕ
sum_of_entries f [] = 0
sum_of_entries f (e ∷ es) = sum_of_sides f e.1.productions + sum_of_entries f es

-- the same nonterminals with those to follow, counted on the productions that are given
abbrev pub counts_of : NonterminalEntries → InlinedCounts → List Text → InlinedCounts
counts_of es done [] = done
counts_of es done (n ∷ ns) = counts_of es (done ++ (n, sum_of_sides (becomes_many done) (productions_named es n)) ∷ []) ns

abbrev pub counts_to_limit : InlinedCounts → InlinedCounts
counts_to_limit cs = map (λ c. (c.0, up_to_limit c.1)) cs

abbrev pub counts_view : List Counted → InlinedCounts
counts_view cs = map (λ c. (c.name.now.0, c.many)) cs
