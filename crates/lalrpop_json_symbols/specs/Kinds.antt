-- Which kinds of symbols have a spelling.
use Rattle.std.specs.Prelude.{IsTrue}
use Rattle.lalrpop_grammar_symbols.specs.declared.symbol.ExprSymbol.{ExprSymbol}
use Rattle.lalrpop_grammar_symbols.specs.declared.symbol.MacroSymbol.{MacroSymbol}
use Rattle.lalrpop_grammar_symbols.specs.declared.symbol.RepeatSymbol.{RepeatSymbol}
use Rattle.lalrpop_grammar_symbols.specs.declared.symbol.Symbol.{Symbol}
use Rattle.lalrpop_grammar_symbols.specs.declared.symbol.SymbolKind.{SymbolKind}
use Rattle.lalrpop_grammar_symbols.specs.declared.symbol.SymbolKind.TheOpen as layer
use Rattle.lalrpop_grammar_symbols.specs.declared.symbol.SymbolKind.TheViews.{out-ExprSymbol, out-MacroSymbol, out-RepeatSymbol}
use Rattle.lalrpop_grammar_symbols.specs.declared.symbol.SymbolKind.TheViews.{out-SymbolKind}
use Rattle.lalrpop_grammar_symbols.specs.declared.terminal.TerminalString.{TerminalString}
use Rattle.lalrpop_grammar_symbols.specs.declared.terminal.TerminalString.TheVariants as terminals
use Rattle.lalrpop_json_values.specs.Scalars.{is_name}
use Rattle.lalrpop_json_symbols.specs.Readable.{AreReadableSymbols, IsReadableSymbol}

-- a symbol that is a terminal is a literal
abbrev pub IsLiteral : TerminalString → Type 0
IsLiteral (terminals.Literal l) = Unit {0}
IsLiteral (terminals.Bare n) = ⊥
IsLiteral terminals.Error = ⊥

abbrev pub IsReadableLayer : layer.SymbolKind-F SymbolKind ExprSymbol MacroSymbol RepeatSymbol Symbol → Type 0
IsReadableLayer (layer.Expr e) = AreReadableSymbols (out-ExprSymbol e).symbols
IsReadableLayer (layer.AmbiguousId n) = IsTrue (is_name n)
IsReadableLayer (layer.Terminal t) = IsLiteral t
IsReadableLayer (layer.Nonterminal n) = ⊥
IsReadableLayer (layer.Macro m) = IsTrue (is_name (out-MacroSymbol m).name.0) × AreReadableSymbols (out-MacroSymbol m).args
IsReadableLayer (layer.Repeat r) = IsReadableSymbol (out-RepeatSymbol r).symbol
IsReadableLayer (layer.Choose x) = IsReadableSymbol x
IsReadableLayer (layer.Name n x) = IsTrue (is_name n.name) × IsReadableSymbol x
IsReadableLayer layer.Lookahead = Unit {0}
IsReadableLayer layer.Lookbehind = Unit {0}
IsReadableLayer layer.Error = Unit {0}

abbrev pub IsReadableKind : SymbolKind → Type 0
IsReadableKind k = IsReadableLayer (out-SymbolKind k)
