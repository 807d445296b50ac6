-- The example that a path tells, computed: `S = "a" B` and `B = "b"` behind `"a"`; and an empty production.
use Rattle.std.proofs.Common.{◌≡◌, Bool, true, false, List, [], ◌∷◌, Some, None, refl, ap, arith, length}
use Rattle.lalrpop_grammar_repr.specs.declared.production.Symbol.{Symbol}
use Rattle.lalrpop_grammar_repr.specs.declared.production.Symbol.TheVariants as symbols
use Rattle.lalrpop_lr1_core.proofs.ExamplesOfViews.{name, quoted}
use Rattle.lalrpop_lane_report.specs.declared.traces.example.ExampleSymbol.{ExampleSymbol}
use Rattle.lalrpop_lane_report.specs.declared.traces.example.ExampleSymbol.TheVariants as shown
use Rattle.lalrpop_lane_report.specs.Examples.{NamedLabel, at_cursor, example_symbols, next_symbols, joined_prefixes, reductions_over}
use Rattle.lalrpop_lane_report.specs.TraceNodes.{EdgeLabel}

abbrev a : Symbol
a = symbols.Terminal (quoted "a")

abbrev b : Symbol
b = symbols.Terminal (quoted "b")

abbrev c : Symbol
c = symbols.Terminal (quoted "c")

abbrev B : Symbol
B = symbols.Nonterminal (name "B")

-- `B = (*) "b"` in `S = "a" (*) B`
abbrev inner : EdgeLabel
inner = record { prefix = []; cursor = Some b; suffix = [] }

abbrev outer : EdgeLabel
outer = record { prefix = a ∷ []; cursor = Some B; suffix = [] }

abbrev both : List NamedLabel
both = record { name = name "B"; label = inner } ∷ record { name = name "S"; label = outer } ∷ []

symbols_are : example_symbols (inner ∷ outer ∷ []) ≡ shown.Symbol a ∷ shown.Symbol b ∷ []
symbols_are = refl

cursor_is : length (joined_prefixes (inner ∷ outer ∷ [])) ≡ 1
cursor_is = refl

reductions_are : reductions_over (length (at_cursor (inner ∷ outer ∷ []))) both
    ≡ record { start = 1; end = 2; nonterminal = name "B" } ∷ record { start = 0; end = 2; nonterminal = name "S" } ∷ []
reductions_are = refl

next_is : next_symbols (inner ∷ outer ∷ []) ≡ b ∷ []
next_is = refl

-- `B = (*)` in `S = "a" (*) B "c"`: an epsilon stands at the cursor, and counts
abbrev empty : EdgeLabel
empty = record { prefix = []; cursor = None; suffix = [] }

abbrev around : EdgeLabel
around = record { prefix = a ∷ []; cursor = Some B; suffix = c ∷ [] }

with_epsilon : example_symbols (empty ∷ around ∷ []) ≡ shown.Symbol a ∷ shown.Epsilon ∷ shown.Symbol c ∷ []
with_epsilon = refl

over_epsilon : reductions_over (length (at_cursor (empty ∷ around ∷ [])))
    (record { name = name "B"; label = empty } ∷ record { name = name "S"; label = around } ∷ [])
    ≡ record { start = 1; end = 2; nonterminal = name "B" } ∷ record { start = 0; end = 3; nonterminal = name "S" } ∷ []
over_epsilon = refl

behind_epsilon : next_symbols (empty ∷ around ∷ []) ≡ c ∷ []
behind_epsilon = refl

-- `B = "b" (*)` in `S = "a" (*) B "c"`: nothing stands at the cursor
abbrev finished : EdgeLabel
finished = record { prefix = b ∷ []; cursor = None; suffix = [] }

at_the_end : example_symbols (finished ∷ around ∷ []) ≡ shown.Symbol a ∷ shown.Symbol b ∷ shown.Symbol c ∷ []
at_the_end = refl

over_finished : reductions_over (length (at_cursor (finished ∷ around ∷ [])))
    (record { name = name "B"; label = finished } ∷ record { name = name "S"; label = around } ∷ [])
    ≡ record { start = 1; end = 2; nonterminal = name "B" } ∷ record { start = 0; end = 3; nonterminal = name "S" } ∷ []
over_finished = refl

abbrev is_terminal : ExampleSymbol → Bool
is_terminal (shown.Symbol (symbols.Terminal t)) = true
is_terminal (shown.Symbol (symbols.Nonterminal n)) = false
is_terminal shown.Epsilon = false

abbrev first_is_terminal : List ExampleSymbol → Bool
first_is_terminal [] = false
first_is_terminal (x ∷ xs) = is_terminal x

-- the outermost prefix isn't the last, and a finished production shows no epsilon
abbrev named_before : EdgeLabel
named_before = record { prefix = B ∷ []; cursor = Some B; suffix = [] }

inner_first : example_symbols (inner ∷ named_before ∷ []) ≡ shown.Symbol b ∷ shown.Symbol B ∷ [] → ⊥
inner_first e = let z : false ≡ true = ap first_is_terminal e in let w : ⊥ = cc in w

epsilon_shown : example_symbols (finished ∷ around ∷ [])
    ≡ shown.Symbol a ∷ shown.Symbol b ∷ shown.Epsilon ∷ shown.Symbol c ∷ [] → ⊥
epsilon_shown e = let z : 3 ≡ 4 = ap length e in omega (arith, z)
