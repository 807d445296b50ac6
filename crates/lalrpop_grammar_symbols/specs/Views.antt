-- What definitions see of the program's symbols.
use Rattle.lalrpop_grammar_symbols.specs.declared.span.Span.{Span}
use Rattle.lalrpop_grammar_symbols.specs.declared.terminal.TerminalLiteral.{TerminalLiteral}
use Rattle.lalrpop_grammar_symbols.specs.declared.terminal.TerminalLiteral.TheVariants as literals
use Rattle.lalrpop_grammar_symbols.specs.declared.terminal.TerminalString.{TerminalString}
use Rattle.lalrpop_grammar_symbols.specs.declared.terminal.TerminalString.TheVariants as terminals
use Rattle.lalrpop_grammar_symbols.specs.declared.symbol.RepeatOp.{RepeatOp}
use Rattle.lalrpop_grammar_symbols.specs.declared.symbol.RepeatOp.TheVariants as ops
use Rattle.lalrpop_grammar_symbols.specs.declared.symbol.Symbol as symbols
use Rattle.lalrpop_grammar_symbols.specs.declared.symbol.SymbolKind.TheOpen as layer
use Rattle.lalrpop_grammar_symbols.specs.declared.symbol.SymbolKind.TheFolds as folds
use Rattle.lalrpop_grammar_symbols.specs.Symbols.{Text, TextSpan, Op, Terminal, Syms, syms, WrittenSymbol, Argument, Sym}

abbrev pub span_view : Span → TextSpan
span_view s = (s.0, s.1)

abbrev pub literal_view : TerminalLiteral → Terminal
literal_view (literals.Quoted t) = Terminal.quoted t
literal_view (literals.Regex t) = Terminal.regex t

abbrev pub terminal_view : TerminalString → Terminal
terminal_view (terminals.Literal l) = literal_view l
terminal_view (terminals.Bare n) = Terminal.bare n
terminal_view terminals.Error = Terminal.error

abbrev pub repeat_op_view : RepeatOp → Op
repeat_op_view ops.Star = Op.star
repeat_op_view ops.Plus = Op.plus
repeat_op_view ops.Question = Op.question

-- one layer of a symbol, with what stands inside seen already
abbrev pub kind_step : layer.SymbolKind-F (TextSpan → WrittenSymbol) (Syms TextSpan) (Text × Syms TextSpan) (Op × WrittenSymbol)
    WrittenSymbol → TextSpan → WrittenSymbol
kind_step (layer.Expr xs) p = Sym.expr p xs
kind_step (layer.AmbiguousId n) p = Sym.ambiguous_id p n
kind_step (layer.Terminal t) p = Sym.terminal p (terminal_view t)
kind_step (layer.Nonterminal n) p = Sym.nonterminal p n.0
kind_step (layer.Macro m) p = Sym.macro p m.0 m.1
kind_step (layer.Repeat r) p = Sym.repeat p r.0 r.1
kind_step (layer.Choose x) p = Sym.choose p x
kind_step (layer.Name n x) p = Sym.name p n.mutable n.name x
kind_step layer.Lookahead p = Sym.lookahead p
kind_step layer.Lookbehind p = Sym.lookbehind p
kind_step layer.Error p = Sym.error p

abbrev pub expr_step : layer.ExprSymbol-F (TextSpan → WrittenSymbol) (Syms TextSpan) (Text × Syms TextSpan) (Op × WrittenSymbol)
    WrittenSymbol → Syms TextSpan
expr_step e = syms e.symbols

abbrev pub macro_step : layer.MacroSymbol-F (TextSpan → WrittenSymbol) (Syms TextSpan) (Text × Syms TextSpan) (Op × WrittenSymbol)
    WrittenSymbol → Text × Syms TextSpan
macro_step m = (m.name.0, syms m.args)

abbrev pub repeat_step : layer.RepeatSymbol-F (TextSpan → WrittenSymbol) (Syms TextSpan) (Text × Syms TextSpan) (Op × WrittenSymbol)
    WrittenSymbol → Op × WrittenSymbol
repeat_step r = (repeat_op_view r.op, r.symbol)

abbrev pub symbol_step : layer.Symbol-F (TextSpan → WrittenSymbol) (Syms TextSpan) (Text × Syms TextSpan) (Op × WrittenSymbol)
    WrittenSymbol → WrittenSymbol
symbol_step s = s.kind (span_view s.span)

-- the symbol as definitions see it
abbrev pub symbol_view : symbols.Symbol → WrittenSymbol
symbol_view =
    folds.fold-Symbol (TextSpan → WrittenSymbol) (Syms TextSpan) (Text × Syms TextSpan) (Op × WrittenSymbol) WrittenSymbol
    kind_step expr_step macro_step repeat_step symbol_step

-- a symbol without its marks
abbrev mutual
  pub without_marks : WrittenSymbol → Argument
  without_marks (Sym.expr p xs) = Sym.expr tt (all_without_marks xs)
  without_marks (Sym.ambiguous_id p n) = Sym.ambiguous_id tt n
  without_marks (Sym.nonterminal p n) = Sym.nonterminal tt n
  without_marks (Sym.terminal p t) = Sym.terminal tt t
  without_marks (Sym.macro p n args) = Sym.macro tt n (all_without_marks args)
  without_marks (Sym.repeat p op x) = Sym.repeat tt op (without_marks x)
  without_marks (Sym.choose p x) = Sym.choose tt (without_marks x)
  without_marks (Sym.name p m n x) = Sym.name tt m n (without_marks x)
  without_marks (Sym.lookahead p) = Sym.lookahead tt
  without_marks (Sym.lookbehind p) = Sym.lookbehind tt
  without_marks (Sym.error p) = Sym.error tt

  pub all_without_marks : Syms TextSpan → Syms (Unit {0})
  all_without_marks Syms.none = Syms.none
  all_without_marks (Syms.more x xs) = Syms.more (without_marks x) (all_without_marks xs)
