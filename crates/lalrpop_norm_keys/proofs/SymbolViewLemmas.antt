-- What is seen of a group, a name and a call of a macro among written symbols; for the walk over a symbol.
use Rattle.std.proofs.Common.{◌≡◌, ap, sym, ◌∙◌, map}
use Rattle.lalrpop_grammar_symbols.specs.Symbols.{Text, TextSpan, Op, Sym, Syms, WrittenSymbol, syms}
use Rattle.lalrpop_grammar_symbols.specs.Views.{expr_step, kind_step, macro_step, repeat_step, span_view, symbol_step, symbol_view}
use Rattle.lalrpop_grammar_symbols.specs.declared.symbol.ExprSymbol.{ExprSymbol, fold-roll-ExprSymbol}
use Rattle.lalrpop_grammar_symbols.specs.declared.symbol.MacroSymbol.{MacroSymbol}
use Rattle.lalrpop_grammar_symbols.specs.declared.symbol.Symbol.{Symbol, fold-roll-Symbol}
use Rattle.lalrpop_grammar_symbols.specs.declared.symbol.SymbolKind.{SymbolKind, fold-roll-SymbolKind}
use Rattle.lalrpop_grammar_symbols.specs.declared.symbol.SymbolKind.TheFolds as folds
use Rattle.lalrpop_grammar_symbols.specs.declared.symbol.SymbolKind.TheOpen as layer
use Rattle.lalrpop_grammar_symbols.specs.declared.symbol.SymbolKind.TheVariants as kinds
use Rattle.lalrpop_grammar_symbols.specs.declared.symbol.SymbolKind.TheViews.{out-ExprSymbol, out-Symbol}
use Rattle.lalrpop_grammar_symbols.specs.declared.symbol.SymbolKind.TheViews.{roll-out-ExprSymbol, roll-out-Symbol}

abbrev kind_view : SymbolKind → TextSpan → WrittenSymbol
kind_view =
    folds.fold-SymbolKind (TextSpan → WrittenSymbol) (Syms TextSpan) (Text × Syms TextSpan) (Op × WrittenSymbol) WrittenSymbol
    kind_step expr_step macro_step repeat_step symbol_step

abbrev expr_view : ExprSymbol → Syms TextSpan
expr_view =
    folds.fold-ExprSymbol (TextSpan → WrittenSymbol) (Syms TextSpan) (Text × Syms TextSpan) (Op × WrittenSymbol) WrittenSymbol
    kind_step expr_step macro_step repeat_step symbol_step

abbrev macro_view : MacroSymbol → Text × Syms TextSpan
macro_view =
    folds.fold-MacroSymbol (TextSpan → WrittenSymbol) (Syms TextSpan) (Text × Syms TextSpan) (Op × WrittenSymbol) WrittenSymbol
    kind_step expr_step macro_step repeat_step symbol_step

-- the place of a symbol of the program, as definitions see it
abbrev pub place_view : Symbol → TextSpan
place_view w = span_view (out-Symbol w).span

of_kind : (w : Symbol) (k : SymbolKind) → (out-Symbol w).kind ≡ k → symbol_view w ≡ kind_view k (place_view w)
of_kind w k e =
    ap symbol_view (sym (roll-out-Symbol w))
    ∙ fold-roll-Symbol (TextSpan → WrittenSymbol) (Syms TextSpan) (Text × Syms TextSpan) (Op × WrittenSymbol) WrittenSymbol
    kind_step expr_step macro_step repeat_step symbol_step (out-Symbol w)
    ∙ ap (λ l. kind_view l (place_view w)) e

-- a name of the program is seen as a name at its place
pub seen_name : (w : Symbol) (n : Text) → (out-Symbol w).kind ≡ kinds.AmbiguousId n
    → symbol_view w ≡ Sym.ambiguous_id (place_view w) n
seen_name w n e =
    of_kind w (kinds.AmbiguousId n) e
    ∙ ap (λ k. kind_view k (place_view w)) (sym (kinds.rolls-AmbiguousId n))
    ∙ ap (λ f. f (place_view w))
    (fold-roll-SymbolKind (TextSpan → WrittenSymbol) (Syms TextSpan) (Text × Syms TextSpan) (Op × WrittenSymbol) WrittenSymbol
    kind_step expr_step macro_step repeat_step symbol_step (layer.AmbiguousId n))

-- a macro's call of the program is seen as a macro's call at its place, with some arguments
pub seen_macro : (w : Symbol) (m : MacroSymbol) → (out-Symbol w).kind ≡ kinds.Macro m
    → (n : Text) × (args : Syms TextSpan) × (symbol_view w ≡ Sym.macro (place_view w) n args)
seen_macro w m e = (
  (macro_view m).0,
  (macro_view m).1,
  of_kind w (kinds.Macro m) e
      ∙ ap (λ k. kind_view k (place_view w)) (sym (kinds.rolls-Macro m))
      ∙ ap (λ f. f (place_view w))
      (fold-roll-SymbolKind (TextSpan → WrittenSymbol) (Syms TextSpan) (Text × Syms TextSpan) (Op × WrittenSymbol) WrittenSymbol
      kind_step expr_step macro_step repeat_step symbol_step (layer.Macro m)),
)

-- a group of the program is seen as a group at its place, of the program's symbols in order
pub seen_group : (w : Symbol) (g : ExprSymbol) → (out-Symbol w).kind ≡ kinds.Expr g
    → symbol_view w ≡ Sym.expr (place_view w) (syms (map symbol_view (out-ExprSymbol g).symbols))
seen_group w g e =
    of_kind w (kinds.Expr g) e
    ∙ ap (λ k. kind_view k (place_view w)) (sym (kinds.rolls-Expr g))
    ∙ ap (λ f. f (place_view w))
    (fold-roll-SymbolKind (TextSpan → WrittenSymbol) (Syms TextSpan) (Text × Syms TextSpan) (Op × WrittenSymbol) WrittenSymbol
    kind_step expr_step macro_step repeat_step symbol_step (layer.Expr g))
    ∙ ap (λ h. Sym.expr (place_view w) (expr_view h)) (sym (roll-out-ExprSymbol g))
    ∙ ap (Sym.expr (place_view w))
    (fold-roll-ExprSymbol (TextSpan → WrittenSymbol) (Syms TextSpan) (Text × Syms TextSpan) (Op × WrittenSymbol) WrittenSymbol
    kind_step expr_step macro_step repeat_step symbol_step (out-ExprSymbol g))
