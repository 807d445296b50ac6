-- Items as text.
use Rattle.std.specs.Prelude.{ℕ, List, ◌++◌, codes, take, drop, flat_map}
use Rattle.lalrpop_grammar_symbols.specs.Symbols.{Text}
use Rattle.lalrpop_grammar_symbols.specs.Texts.{terminal_text}
use Rattle.lalrpop_grammar_symbols.specs.Views.{terminal_view}
use Rattle.lalrpop_grammar_repr.specs.declared.production.Production.{Production}
use Rattle.lalrpop_grammar_repr.specs.declared.production.Symbol.{Symbol}
use Rattle.lalrpop_grammar_repr.specs.declared.production.Symbol.TheVariants as symbols

-- a name as it is, a terminal as it is printed
abbrev pub production_symbol_text : Symbol → Text
production_symbol_text (symbols.Nonterminal n) = n.0
production_symbol_text (symbols.Terminal t) = terminal_text (terminal_view t)

-- each symbol behind a blank
abbrev pub side_text : List Symbol → Text
side_text symbols = flat_map (λ s. codes " " ++ production_symbol_text s) symbols

-- `A = x (*) y`
abbrev pub dotted_text : Production → ℕ → Text
dotted_text p dot =
    p.nonterminal.0
    ++ (codes " =" ++ (side_text (take dot p.symbols) ++ (codes " (*)" ++ side_text (drop dot p.symbols))))
