-- Texts of lists of symbols, as the functions that write them build them up.
use Rattle.std.proofs.Common.{ap₂, ◌≡◌, List, [], ◌∷◌, refl, ap, ◌∙◌, map}
use Rattle.lalrpop_grammar_symbols.specs.declared.symbol.Symbol as symbols
use Rattle.lalrpop_grammar_symbols.specs.declared.symbol.ExprSymbol.{ExprSymbol}
use Rattle.lalrpop_grammar_symbols.specs.declared.symbol.MacroSymbol.{MacroSymbol}
use Rattle.lalrpop_grammar_symbols.specs.declared.symbol.SymbolKind.TheFolds.{fold_out-ExprSymbol, fold_out-MacroSymbol}
use Rattle.lalrpop_grammar_symbols.specs.declared.symbol.SymbolKind.TheViews.{out-ExprSymbol, out-MacroSymbol}
use Rattle.lalrpop_grammar_symbols.specs.Symbols.{Text, TextSpan, Op, Syms, WrittenSymbol, syms, Sym}
use Rattle.lalrpop_grammar_symbols.specs.Texts.{symbol_text, symbol_texts, group_text, macro_text, repeat_text, choose_text, named_text}
use Rattle.lalrpop_grammar_symbols.specs.Views.{kind_step, expr_step, macro_step, repeat_step, symbol_step, symbol_view, without_marks}
use Rattle.lalrpop_grammar_symbols.specs.Views.{all_without_marks}
use Rattle.lalrpop_grammar_symbols.specs.Parts.{group_view, macro_view, texts_of_symbols}

pub symbol_texts-syms : (xs : List symbols.Symbol) → symbol_texts (syms (map symbol_view xs)) ≡ texts_of_symbols xs
symbol_texts-syms [] = refl
symbol_texts-syms (x ∷ xs) = ap (λ ts. symbol_text (symbol_view x) ∷ ts) (symbol_texts-syms xs)

-- the texts inside a group
pub group-texts : (e : ExprSymbol) → symbol_texts (group_view e) ≡ texts_of_symbols (out-ExprSymbol e).symbols
group-texts e =
    ap symbol_texts
    (fold_out-ExprSymbol (TextSpan → WrittenSymbol) (Syms TextSpan) (Text × Syms TextSpan) (Op × WrittenSymbol) WrittenSymbol
    kind_step expr_step macro_step repeat_step symbol_step e)
    ∙ symbol_texts-syms (out-ExprSymbol e).symbols

call-out : (m : MacroSymbol) → macro_view m ≡ ((out-MacroSymbol m).name.0, syms (map symbol_view (out-MacroSymbol m).args))
call-out m =
    fold_out-MacroSymbol (TextSpan → WrittenSymbol) (Syms TextSpan) (Text × Syms TextSpan) (Op × WrittenSymbol) WrittenSymbol
    kind_step expr_step macro_step repeat_step symbol_step m

-- the name and the texts of a call's arguments
pub call-name : (m : MacroSymbol) → (macro_view m).0 ≡ (out-MacroSymbol m).name.0
call-name m = ap (λ p. p.0) (call-out m)

-- the texts of a call's arguments are those of its symbols
pub call-texts : (m : MacroSymbol) → symbol_texts (macro_view m).1 ≡ texts_of_symbols (out-MacroSymbol m).args
call-texts m = ap (λ p. symbol_texts p.1) (call-out m) ∙ symbol_texts-syms (out-MacroSymbol m).args

-- the mark at each node never shows: for printers of trees, whose arguments have no marks
mutual
  -- a symbol has the same text without its marks
  pub symbol_text-unmarked : (x : WrittenSymbol) → symbol_text (without_marks x) ≡ symbol_text x
  symbol_text-unmarked (Sym.expr p xs) = ap group_text (symbol_texts-unmarked xs)
  symbol_text-unmarked (Sym.ambiguous_id p n) = refl
  symbol_text-unmarked (Sym.nonterminal p n) = refl
  symbol_text-unmarked (Sym.terminal p t) = refl
  symbol_text-unmarked (Sym.macro p n args) = ap (macro_text n) (symbol_texts-unmarked args)
  symbol_text-unmarked (Sym.repeat p op x) = ap (repeat_text op) (symbol_text-unmarked x)
  symbol_text-unmarked (Sym.choose p x) = ap choose_text (symbol_text-unmarked x)
  symbol_text-unmarked (Sym.name p m n x) = ap (named_text m n) (symbol_text-unmarked x)
  symbol_text-unmarked (Sym.lookahead p) = refl
  symbol_text-unmarked (Sym.lookbehind p) = refl
  symbol_text-unmarked (Sym.error p) = refl

  pub symbol_texts-unmarked : (xs : Syms TextSpan) → symbol_texts (all_without_marks xs) ≡ symbol_texts xs
  symbol_texts-unmarked Syms.none = refl
  symbol_texts-unmarked (Syms.more x xs) = ap₂ ◌∷◌ (symbol_text-unmarked x) (symbol_texts-unmarked xs)
