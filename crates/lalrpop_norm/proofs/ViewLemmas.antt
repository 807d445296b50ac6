-- What is seen of the symbols and types that have a spelling, form by form; for the forms that are read.
use Rattle.std.proofs.Common.{◌≡◌, List, ap, sym, ◌∙◌, map, Bool}
use Rattle.std.specs.Prelude.{Option}
use Rattle.lalrpop_grammar_symbols.specs.Symbols.{Text, TextSpan, Op, Syms, Sym, syms, WrittenSymbol}
use Rattle.lalrpop_grammar_symbols.specs.Views.{kind_step, expr_step, macro_step, repeat_step, symbol_step, symbol_view}
use Rattle.lalrpop_grammar_symbols.specs.Views.{span_view, literal_view, repeat_op_view}
use Rattle.lalrpop_grammar_symbols.specs.declared.span.Span.{Span}
use Rattle.lalrpop_grammar_symbols.specs.declared.symbol.ExprSymbol.{roll-ExprSymbol, fold-roll-ExprSymbol}
use Rattle.lalrpop_grammar_symbols.specs.declared.symbol.MacroSymbol.{roll-MacroSymbol, fold-roll-MacroSymbol}
use Rattle.lalrpop_grammar_symbols.specs.declared.symbol.RepeatOp.{RepeatOp}
use Rattle.lalrpop_grammar_symbols.specs.declared.symbol.RepeatSymbol.{roll-RepeatSymbol, fold-roll-RepeatSymbol}
use Rattle.lalrpop_grammar_symbols.specs.declared.symbol.Symbol.{Symbol, fold-roll-Symbol}
use Rattle.lalrpop_grammar_symbols.specs.declared.symbol.SymbolKind.{SymbolKind, fold-roll-SymbolKind}
use Rattle.lalrpop_grammar_symbols.specs.declared.symbol.SymbolKind.TheFolds as folds
use Rattle.lalrpop_grammar_symbols.specs.declared.symbol.SymbolKind.TheOpen as layer
use Rattle.lalrpop_grammar_symbols.specs.declared.symbol.SymbolKind.TheVariants as kinds
use Rattle.lalrpop_grammar_symbols.specs.declared.terminal.TerminalLiteral.{TerminalLiteral}
use Rattle.lalrpop_grammar_symbols.specs.declared.terminal.TerminalString.TheVariants as terminals
use Rattle.lalrpop_grammar.specs.declared.types.type_ref.TypeRef.{TypeRef, fold-roll-TypeRef}
use Rattle.lalrpop_grammar.specs.declared.types.type_ref.TypeRef.TheOpen as type_layer
use Rattle.lalrpop_grammar.specs.declared.types.type_ref.TypeRef.TheVariants as types
use Rattle.lalrpop_grammar.specs.Views.{tys, type_step, type_view}
use Rattle.lalrpop_grammar.specs.WrittenGrammar.{Ty}
use Rattle.lalrpop_json_symbols.specs.Symbols.{written_symbol, group_of, macro_of, repeat_of, named_of}

abbrev kind_view : SymbolKind → TextSpan → WrittenSymbol
kind_view =
    folds.fold-SymbolKind (TextSpan → WrittenSymbol) (Syms TextSpan) (Text × Syms TextSpan) (Op × WrittenSymbol) WrittenSymbol
    kind_step expr_step macro_step repeat_step symbol_step

of_kind : (p : Span) (k : SymbolKind) → symbol_view (written_symbol p k) ≡ kind_view k (span_view p)
of_kind p k =
    fold-roll-Symbol (TextSpan → WrittenSymbol) (Syms TextSpan) (Text × Syms TextSpan) (Op × WrittenSymbol) WrittenSymbol
    kind_step expr_step macro_step repeat_step symbol_step (record { span = p; kind = k })

-- the symbol of a name alone is seen as a name that may be of a terminal or a nonterminal
pub view-id : (p : Span) (n : Text) → symbol_view (written_symbol p (kinds.AmbiguousId n)) ≡ Sym.ambiguous_id (span_view p) n
view-id p n =
    of_kind p (kinds.AmbiguousId n)
    ∙ ap (λ k. kind_view k (span_view p)) (sym (kinds.rolls-AmbiguousId n))
    ∙ ap (λ f. f (span_view p))
    (fold-roll-SymbolKind (TextSpan → WrittenSymbol) (Syms TextSpan) (Text × Syms TextSpan) (Op × WrittenSymbol) WrittenSymbol
    kind_step expr_step macro_step repeat_step symbol_step (layer.AmbiguousId n))

-- the symbol of a terminal's literal is seen as that terminal
pub view-literal : (p : Span) (l : TerminalLiteral)
    → symbol_view (written_symbol p (kinds.Terminal (terminals.Literal l))) ≡ Sym.terminal (span_view p) (literal_view l)
view-literal p l =
    of_kind p (kinds.Terminal (terminals.Literal l))
    ∙ ap (λ k. kind_view k (span_view p)) (sym (kinds.rolls-Terminal (terminals.Literal l)))
    ∙ ap (λ f. f (span_view p))
    (fold-roll-SymbolKind (TextSpan → WrittenSymbol) (Syms TextSpan) (Text × Syms TextSpan) (Op × WrittenSymbol) WrittenSymbol
    kind_step expr_step macro_step repeat_step symbol_step (layer.Terminal (terminals.Literal l)))

-- the symbol of a group is seen as the group of what is seen of its symbols
pub view-group : (p : Span) (xs : List Symbol)
    → symbol_view (written_symbol p (group_of xs)) ≡ Sym.expr (span_view p) (syms (map symbol_view xs))
view-group p xs =
    of_kind p (group_of xs)
    ∙ ap (λ k. kind_view k (span_view p)) (sym (kinds.rolls-Expr (roll-ExprSymbol (record { symbols = xs }))))
    ∙ ap (λ f. f (span_view p))
    (fold-roll-SymbolKind (TextSpan → WrittenSymbol) (Syms TextSpan) (Text × Syms TextSpan) (Op × WrittenSymbol) WrittenSymbol
    kind_step expr_step macro_step repeat_step symbol_step (layer.Expr (roll-ExprSymbol (record { symbols = xs }))))
    ∙ ap (Sym.expr (span_view p))
    (fold-roll-ExprSymbol (TextSpan → WrittenSymbol) (Syms TextSpan) (Text × Syms TextSpan) (Op × WrittenSymbol) WrittenSymbol
    kind_step expr_step macro_step repeat_step symbol_step (record { symbols = xs }))

-- the symbol of a macro is seen as the macro's name with what is seen of its arguments
pub view-macro : (p : Span) (n : Text) (args : List Symbol)
    → symbol_view (written_symbol p (macro_of n args)) ≡ Sym.macro (span_view p) n (syms (map symbol_view args))
view-macro p n args =
    of_kind p (macro_of n args)
    ∙ ap (λ k. kind_view k (span_view p)) (sym (kinds.rolls-Macro (roll-MacroSymbol (record { name = record { 0 = n }; args = args }))))
    ∙ ap (λ f. f (span_view p))
    (fold-roll-SymbolKind (TextSpan → WrittenSymbol) (Syms TextSpan) (Text × Syms TextSpan) (Op × WrittenSymbol) WrittenSymbol
    kind_step expr_step macro_step repeat_step symbol_step
    (layer.Macro (roll-MacroSymbol (record { name = record { 0 = n }; args = args }))))
    ∙ ap (λ c. Sym.macro (span_view p) c.0 c.1)
    (fold-roll-MacroSymbol (TextSpan → WrittenSymbol) (Syms TextSpan) (Text × Syms TextSpan) (Op × WrittenSymbol) WrittenSymbol
    kind_step expr_step macro_step repeat_step symbol_step (record { name = record { 0 = n }; args = args }))

-- the symbol of a repetition is seen as what is seen of the repeated symbol, with the operator
pub view-repeat : (p : Span) (op : RepeatOp) (x : Symbol)
    → symbol_view (written_symbol p (repeat_of op x)) ≡ Sym.repeat (span_view p) (repeat_op_view op) (symbol_view x)
view-repeat p op x =
    of_kind p (repeat_of op x)
    ∙ ap (λ k. kind_view k (span_view p)) (sym (kinds.rolls-Repeat (roll-RepeatSymbol (record { op = op; symbol = x }))))
    ∙ ap (λ f. f (span_view p))
    (fold-roll-SymbolKind (TextSpan → WrittenSymbol) (Syms TextSpan) (Text × Syms TextSpan) (Op × WrittenSymbol) WrittenSymbol
    kind_step expr_step macro_step repeat_step symbol_step (layer.Repeat (roll-RepeatSymbol (record { op = op; symbol = x }))))
    ∙ ap (λ c. Sym.repeat (span_view p) c.0 c.1)
    (fold-roll-RepeatSymbol (TextSpan → WrittenSymbol) (Syms TextSpan) (Text × Syms TextSpan) (Op × WrittenSymbol) WrittenSymbol
    kind_step expr_step macro_step repeat_step symbol_step (record { op = op; symbol = x }))

-- the symbol that chooses a value is seen as the choice of what is seen of the symbol inside
pub view-choose : (p : Span) (x : Symbol) → symbol_view (written_symbol p (kinds.Choose x)) ≡ Sym.choose (span_view p) (symbol_view x)
view-choose p x =
    of_kind p (kinds.Choose x)
    ∙ ap (λ k. kind_view k (span_view p)) (sym (kinds.rolls-Choose x))
    ∙ ap (λ f. f (span_view p))
    (fold-roll-SymbolKind (TextSpan → WrittenSymbol) (Syms TextSpan) (Text × Syms TextSpan) (Op × WrittenSymbol) WrittenSymbol
    kind_step expr_step macro_step repeat_step symbol_step (layer.Choose x))

-- the symbol that names a value is seen as its name, mutable or not, and what is seen of the symbol inside
pub view-name : (p : Span) (m : Bool) (n : Text) (x : Symbol)
    → symbol_view (written_symbol p (named_of m n x)) ≡ Sym.name (span_view p) m n (symbol_view x)
view-name p m n x =
    of_kind p (named_of m n x)
    ∙ ap (λ k. kind_view k (span_view p)) (sym (kinds.rolls-Name (record { mutable = m; name = n }) x))
    ∙ ap (λ f. f (span_view p))
    (fold-roll-SymbolKind (TextSpan → WrittenSymbol) (Syms TextSpan) (Text × Syms TextSpan) (Op × WrittenSymbol) WrittenSymbol
    kind_step expr_step macro_step repeat_step symbol_step (layer.Name (record { mutable = m; name = n }) x))

-- the symbol of the place ahead, `@L`, is seen as itself
pub view-lookahead : (p : Span) → symbol_view (written_symbol p kinds.Lookahead) ≡ Sym.lookahead (span_view p)
view-lookahead p =
    of_kind p kinds.Lookahead
    ∙ ap (λ k. kind_view k (span_view p)) (sym kinds.rolls-Lookahead)
    ∙ ap (λ f. f (span_view p))
    (fold-roll-SymbolKind (TextSpan → WrittenSymbol) (Syms TextSpan) (Text × Syms TextSpan) (Op × WrittenSymbol) WrittenSymbol
    kind_step expr_step macro_step repeat_step symbol_step layer.Lookahead)

-- the symbol of the place behind, `@R`, is seen as itself
pub view-lookbehind : (p : Span) → symbol_view (written_symbol p kinds.Lookbehind) ≡ Sym.lookbehind (span_view p)
view-lookbehind p =
    of_kind p kinds.Lookbehind
    ∙ ap (λ k. kind_view k (span_view p)) (sym kinds.rolls-Lookbehind)
    ∙ ap (λ f. f (span_view p))
    (fold-roll-SymbolKind (TextSpan → WrittenSymbol) (Syms TextSpan) (Text × Syms TextSpan) (Op × WrittenSymbol) WrittenSymbol
    kind_step expr_step macro_step repeat_step symbol_step layer.Lookbehind)

-- the symbol of errors, `!`, is seen as itself
pub view-error : (p : Span) → symbol_view (written_symbol p kinds.Error) ≡ Sym.error (span_view p)
view-error p =
    of_kind p kinds.Error
    ∙ ap (λ k. kind_view k (span_view p)) (sym kinds.rolls-Error)
    ∙ ap (λ f. f (span_view p))
    (fold-roll-SymbolKind (TextSpan → WrittenSymbol) (Syms TextSpan) (Text × Syms TextSpan) (Op × WrittenSymbol) WrittenSymbol
    kind_step expr_step macro_step repeat_step symbol_step layer.Error)

-- the type of a tuple is seen as the tuple of what is seen of its types
pub view-tuple : (ts : List TypeRef) → type_view (types.Tuple ts) ≡ Ty.tuple (tys (map type_view ts))
view-tuple ts = ap type_view (sym (types.rolls-Tuple ts)) ∙ fold-roll-TypeRef Ty type_step (type_layer.Tuple ts)

-- the type of a path with arguments is seen as the path with what is seen of the arguments
pub view-nominal : (path : Text) (ts : List TypeRef) → type_view (types.Nominal path ts) ≡ Ty.nominal path (tys (map type_view ts))
view-nominal path ts = ap type_view (sym (types.rolls-Nominal path ts)) ∙ fold-roll-TypeRef Ty type_step (type_layer.Nominal path ts)

-- the type of a name alone is seen as that name
pub view-type_name : (n : Text) → type_view (types.Id n) ≡ Ty.id n
view-type_name n = ap type_view (sym (types.rolls-Id n)) ∙ fold-roll-TypeRef Ty type_step (type_layer.Id n)

-- the type that a symbol has is seen as the type of what is seen of the symbol
pub view-of_symbol : (x : Symbol) → type_view (types.OfSymbol x) ≡ Ty.of_symbol (symbol_view x)
view-of_symbol x = ap type_view (sym (types.rolls-OfSymbol x)) ∙ fold-roll-TypeRef Ty type_step (type_layer.OfSymbol x)

-- the type of a reference is seen as its lifetime, mutable or not, and what is seen of the type behind it
pub view-ref : (l : Option Text) (m : Bool) (t : TypeRef) → type_view (types.Ref l m t) ≡ Ty.ref l m (type_view t)
view-ref l m t = ap type_view (sym (types.rolls-Ref l m t)) ∙ fold-roll-TypeRef Ty type_step (type_layer.Ref l m t)

-- the type that is kept as a text is seen as that text
pub view-opaque : (text : Text) → type_view (types.Opaque text) ≡ Ty.opaque text
view-opaque text = ap type_view (sym (types.rolls-Opaque text)) ∙ fold-roll-TypeRef Ty type_step (type_layer.Opaque text)
