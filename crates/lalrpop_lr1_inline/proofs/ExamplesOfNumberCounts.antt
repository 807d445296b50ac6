-- Computed examples of counts: the numbers that inlining hands out, told by the right sides that are given.
use Rattle.std.proofs.Common.{◌≡◌, ◌+◌, ◌^◌, [], ◌∷◌, refl}
use Rattle.std.specs.Prelude.{codes}
use Rattle.lalrpop_lr1_inline.specs.InlinedNames.{NonterminalEntries}
use Rattle.lalrpop_lr1_inline.specs.InliningSteps.{numbers_after}
use Rattle.lalrpop_lr1_inline.specs.NumberCounts.{InlinedCounts, counts_of, handed_out, sum_of_entries, up_to_limit}
use Rattle.lalrpop_lr1_inline.proofs.ExamplesOfInliningOrders.{marked, n, nested, production, rule}
use Rattle.lalrpop_lr1_inline.proofs.ExamplesOfInliningSteps.{doubling}

-- S = A; A = B B; B = C C; C = { "p", "q" }
abbrev doubled : InlinedCounts
doubled = counts_of doubling [] (codes "C" ∷ codes "B" ∷ codes "A" ∷ [])

-- how many productions each has when it is inlined
counts_double : doubled ≡ (codes "C", 2) ∷ (codes "B", 4) ∷ (codes "A", 16) ∷ []
counts_double = refl

-- those of productions that a later step replaces count too
handed_double : sum_of_entries (handed_out doubled) doubling ≡ 4 + 16 + 16
handed_double = refl

same_as_steps : 5 + sum_of_entries (handed_out doubled) doubling
    ≡ numbers_after (codes "C" ∷ codes "B" ∷ codes "A" ∷ []) doubling 5
same_as_steps = refl

-- S = Op Op; Op has no productions: nothing is handed out, however often it is named
abbrev without : NonterminalEntries
without = rule "Op" marked [] ∷ rule "S" [] (production "S" 0 (n "Op" ∷ n "Op" ∷ []) ∷ []) ∷ []

none_handed : sum_of_entries (handed_out (counts_of without [] (codes "Op" ∷ []))) without ≡ 0
none_handed = refl

-- a production that names no inlined nonterminal keeps its number
kept_number : sum_of_entries (handed_out (counts_of nested [] (codes "B" ∷ codes "A" ∷ []))) nested ≡ 4
kept_number = refl

-- the limit itself isn't past it, and all that is past it is alike
at_the_limit : up_to_limit (2 ^ 32) ≡ 2 ^ 32
at_the_limit = refl

past_the_limit : up_to_limit (2 ^ 40) ≡ 2 ^ 32 + 1
past_the_limit = refl
