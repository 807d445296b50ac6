-- How tokens and sets of tokens print, for what is shown of states.
use Rattle.std.specs.Prelude.{ℕ, Bool, true, false, List, [], ◌∷◌, ◌++◌, codes, decimal, flat_map}
use Rattle.lalrpop_grammar_symbols.specs.Symbols.{Text}
use Rattle.lalrpop_grammar_symbols.specs.Texts.{terminal_text}
use Rattle.lalrpop_grammar_symbols.specs.Views.{terminal_view}
use Rattle.lalrpop_sets.specs.declared.token.Token.{Token}
use Rattle.lalrpop_sets.specs.declared.token.Token.TheVariants.{Eof, Error, Terminal}

-- the end and the token of errors by their words, a terminal as it prints
abbrev pub next_text : Token → Text
next_text Eof = codes "Eof"
next_text Error = codes "Error"
next_text (Terminal t) = terminal_text (terminal_view t)

-- each behind a comma and a blank
abbrev pub texts_behind : List Token → Text
texts_behind = flat_map (λ t. codes ", " ++ next_text t)

--- `[x, y]`, or `[]`
abbrev pub token_list_text : List Token → Text
token_list_text [] = codes "[]"
token_list_text (t ∷ ts) = codes "[" ++ next_text t ++ texts_behind ts ++ codes "]"

-- a number, behind a comma and a blank where it isn't the first
abbrev pub number_behind : Bool → ℕ → Text
number_behind true n = decimal n
number_behind false n = codes ", " ++ decimal n

-- numbers between commas
abbrev pub number_list_text : List ℕ → Text
number_list_text [] = []
number_list_text (n ∷ ns) = decimal n ++ flat_map (number_behind false) ns

-- `{0, 3}`
abbrev pub number_set_text : List ℕ → Text
number_set_text ns = codes "{" ++ (number_list_text ns ++ codes "}")
