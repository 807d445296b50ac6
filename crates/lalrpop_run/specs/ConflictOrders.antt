-- The orders in which conflicts are told: of names, of terminals and what comes next, of symbols, of lists of symbols, and of productions.
use Rattle.std.specs.Prelude.{◌<◌, ◌≡◌, ◌⊎◌, List, [], ◌∷◌, length, Some, None}
use Rattle.std.specs.Cmp.Lexicographic.{slice_cmp}
use Rattle.std.specs.Ordering.{nat_cmp, ordering_then}
use Rattle.std.specs.declared.cmp.Ordering.{Ordering}
use Rattle.std.specs.declared.cmp.Ordering.TheVariants.{Less}
use Rattle.lalrpop_grammar_symbols.specs.Symbols.{Text, Terminal}
use Rattle.lalrpop_lr1_theory.specs.Productions.{Symbol, terminal, nonterminal, Production, Next}

-- texts by their bytes, and a text before one that begins with it
abbrev pub compare_texts : Text → Text → Ordering
compare_texts = slice_cmp nat_cmp

-- a terminal as a text: its kind, then its bytes. So quoted literals come first, then regexes, then names.
abbrev pub terminal_key : Terminal → Text
terminal_key (Terminal.quoted s) = 0 ∷ s
terminal_key (Terminal.regex s) = 1 ∷ s
terminal_key (Terminal.bare s) = 2 ∷ s
terminal_key Terminal.error = 3 ∷ []

-- the end comes behind the terminals
abbrev pub next_key : Next → Text
next_key (Some t) = terminal_key t
next_key None = 4 ∷ []

-- nonterminals come before terminals
abbrev pub symbol_key : Symbol → Text
symbol_key (nonterminal name) = 0 ∷ name
symbol_key (terminal t) = 1 ∷ terminal_key t

abbrev pub compare_symbols : Symbol → Symbol → Ordering
compare_symbols x y = compare_texts (symbol_key x) (symbol_key y)

-- as in a dictionary
abbrev pub compare_sides : List Symbol → List Symbol → Ordering
compare_sides = slice_cmp (λ x y. compare_texts (symbol_key x) (symbol_key y))

-- by the left side, then by the right side, then by the number of the action
abbrev pub compare_productions : Production → Production → Ordering
compare_productions p q =
    ordering_then (compare_texts p.left q.left)
    (ordering_then (compare_sides p.right q.right) (nat_cmp p.action q.action))

abbrev pub IsTerminalBefore : Terminal → Terminal → Type 0
IsTerminalBefore t u = compare_texts (terminal_key t) (terminal_key u) ≡ Less

abbrev pub IsNextBefore : Next → Next → Type 0
IsNextBefore x y = compare_texts (next_key x) (next_key y) ≡ Less

abbrev pub IsProductionBefore : Production → Production → Type 0
IsProductionBefore p q =
    ordering_then (compare_texts p.left q.left)
    (ordering_then (compare_sides p.right q.right) (nat_cmp p.action q.action)) ≡ Less

-- a list of symbols comes sooner than a longer one, and than one as long that is behind it in a dictionary
abbrev pub IsSooner : List Symbol → List Symbol → Type 0
IsSooner g h = (length g < length h) ⊎ ((length g ≡ length h) × (compare_sides g h ≡ Less))
