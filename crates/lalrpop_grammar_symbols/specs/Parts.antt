-- What definitions see of the parts of a symbol: a group, a call, a repeated symbol.
use Rattle.std.specs.Prelude.{List, map}
use Rattle.lalrpop_grammar_symbols.specs.declared.symbol.ExprSymbol as groups
use Rattle.lalrpop_grammar_symbols.specs.declared.symbol.MacroSymbol as calls
use Rattle.lalrpop_grammar_symbols.specs.declared.symbol.RepeatSymbol as repeats
use Rattle.lalrpop_grammar_symbols.specs.declared.symbol.Symbol as symbols
use Rattle.lalrpop_grammar_symbols.specs.declared.symbol.SymbolKind.TheFolds as folds
use Rattle.lalrpop_grammar_symbols.specs.Symbols.{Text, TextSpan, Op, Syms, WrittenSymbol}
use Rattle.lalrpop_grammar_symbols.specs.Texts.{symbol_text}
use Rattle.lalrpop_grammar_symbols.specs.Views.{kind_step, expr_step, macro_step, repeat_step, symbol_step, symbol_view}

-- the symbols of a group
abbrev pub group_view : groups.ExprSymbol → Syms TextSpan
group_view =
    folds.fold-ExprSymbol (TextSpan → WrittenSymbol) (Syms TextSpan) (Text × Syms TextSpan) (Op × WrittenSymbol) WrittenSymbol
    kind_step expr_step macro_step repeat_step symbol_step

-- the macro's name and the arguments
abbrev pub macro_view : calls.MacroSymbol → Text × Syms TextSpan
macro_view =
    folds.fold-MacroSymbol (TextSpan → WrittenSymbol) (Syms TextSpan) (Text × Syms TextSpan) (Op × WrittenSymbol) WrittenSymbol
    kind_step expr_step macro_step repeat_step symbol_step

-- how often, and what is repeated
abbrev pub repeat_view : repeats.RepeatSymbol → Op × WrittenSymbol
repeat_view =
    folds.fold-RepeatSymbol (TextSpan → WrittenSymbol) (Syms TextSpan) (Text × Syms TextSpan) (Op × WrittenSymbol) WrittenSymbol
    kind_step expr_step macro_step repeat_step symbol_step

-- the texts of symbols, in order
abbrev pub texts_of_symbols : List symbols.Symbol → List Text
texts_of_symbols = map (λ s. symbol_text (symbol_view s))
