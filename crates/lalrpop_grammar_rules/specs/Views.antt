-- What definitions see of closed symbols.
use Rattle.std.specs.Prelude.{Bool, true, false, List, [], ◌∷◌, map, zip}
use Rattle.lalrpop_grammar_symbols.specs.Symbols.{Text, Syms, WrittenSymbol, syms, Closed, Closeds}
use Rattle.lalrpop_grammar_symbols.specs.Views.{terminal_view, repeat_op_view, all_without_marks}
use Rattle.lalrpop_grammar_symbols.specs.declared.names.NonterminalString.{NonterminalString}
use Rattle.lalrpop_grammar_language.specs.Closing.{Binding}
use Rattle.lalrpop_grammar_rules.specs.declared.closed.closed_symbol.ClosedSymbol.{ClosedSymbol, fold-ClosedSymbol}
use Rattle.lalrpop_grammar_rules.specs.declared.closed.closed_symbol.ClosedSymbol.TheOpen as layer

abbrev pub closeds : List Closed → Closeds
closeds [] = Closeds.none
closeds (x ∷ xs) = Closeds.more x (closeds xs)

abbrev pub closed_step : layer.ClosedSymbol-F Closed → Closed
closed_step (layer.Terminal t) = Closed.terminal (terminal_view t)
closed_step (layer.Call n args level) = Closed.call n (closeds args) level
closed_step (layer.Repeat op x) = Closed.repeat (repeat_op_view op) x
closed_step (layer.Group xs) = Closed.group (closeds xs)
closed_step (layer.Choose x) = Closed.choose x
closed_step (layer.Name n x) = Closed.name n.mutable n.name x
closed_step layer.Lookahead = Closed.lookahead
closed_step layer.Lookbehind = Closed.lookbehind
closed_step layer.Faulty = Closed.faulty

-- the closed symbol as definitions see it
abbrev pub closed_view : ClosedSymbol → Closed
closed_view = fold-ClosedSymbol Closed closed_step

-- the symbol itself is faulty
abbrev pub is_faulty : Closed → Bool
is_faulty (Closed.terminal t) = false
is_faulty (Closed.call n args level) = false
is_faulty (Closed.repeat op x) = false
is_faulty (Closed.group xs) = false
is_faulty (Closed.choose x) = false
is_faulty (Closed.name m n x) = false
is_faulty Closed.lookahead = false
is_faulty Closed.lookbehind = false
is_faulty Closed.faulty = true

-- the parameters with what they are bound to
abbrev pub binding_of : List NonterminalString → List ClosedSymbol → Binding
binding_of parameters args = zip (map (λ p. p.0) parameters) (map closed_view args)

-- symbols without their marks
abbrev pub list_without_marks : List WrittenSymbol → Syms (Unit {0})
list_without_marks xs = all_without_marks (syms xs)

-- a name as it is written
abbrev pub as_is : Text → Text
as_is n = n
