-- Which symbols have a spelling, by their kinds: for the functions that tell it.
use Rattle.std.proofs.Common.{◌≡◌, ◌↔◌, IsTrue, Bool, true, false, ℕ, ◌+◌, List, [], ◌∷◌, refl, ap, sym, ◌∙◌}
use Rattle.lalrpop_grammar_symbols.specs.declared.names.NonterminalString.{NonterminalString}
use Rattle.lalrpop_grammar_symbols.specs.declared.span.Span.{Span}
use Rattle.lalrpop_grammar_symbols.specs.declared.symbol.ExprSymbol.{ExprSymbol}
use Rattle.lalrpop_grammar_symbols.specs.declared.symbol.MacroSymbol.{MacroSymbol}
use Rattle.lalrpop_grammar_symbols.specs.declared.names.Name.{Name}
use Rattle.lalrpop_grammar_symbols.specs.declared.symbol.RepeatSymbol.{RepeatSymbol}
use Rattle.lalrpop_grammar_symbols.specs.declared.symbol.Symbol.{Symbol}
use Rattle.lalrpop_grammar_symbols.specs.declared.symbol.SymbolKind.{SymbolKind}
use Rattle.lalrpop_grammar_symbols.specs.declared.symbol.SymbolKind.TheOpen as layer
use Rattle.lalrpop_grammar_symbols.specs.declared.symbol.SymbolKind.TheVariants as kinds
use Rattle.lalrpop_grammar_symbols.specs.declared.symbol.SymbolKind.TheViews.{out-ExprSymbol, out-MacroSymbol, out-RepeatSymbol, out-Symbol}
use Rattle.lalrpop_grammar_symbols.specs.declared.symbol.SymbolKind.TheViews.{out-SymbolKind, roll-ExprSymbol, roll-MacroSymbol}
use Rattle.lalrpop_grammar_symbols.specs.declared.symbol.SymbolKind.TheViews.{roll-RepeatSymbol, roll-SymbolKind, out-roll-ExprSymbol}
use Rattle.lalrpop_grammar_symbols.specs.declared.symbol.SymbolKind.TheViews.{out-roll-MacroSymbol, out-roll-SymbolKind}
use Rattle.lalrpop_grammar_symbols.specs.declared.symbol.SymbolKind.TheViews.{roll-out-ExprSymbol, roll-out-MacroSymbol}
use Rattle.lalrpop_grammar_symbols.specs.declared.symbol.SymbolKind.TheViews.{roll-out-RepeatSymbol, roll-out-Symbol, roll-out-SymbolKind}
use Rattle.lalrpop_grammar_symbols.specs.declared.terminal.TerminalLiteral.{TerminalLiteral}
use Rattle.lalrpop_grammar_symbols.specs.declared.terminal.TerminalString.{TerminalString}
use Rattle.lalrpop_grammar_symbols.specs.declared.terminal.TerminalString.TheVariants as terminals
use Rattle.lalrpop_json_values.specs.Scalars.{is_name}
use Rattle.lalrpop_json_values.specs.Spelled.{EachFrom, IsSpan}
use Rattle.lalrpop_json_symbols.specs.Readable.{AreReadableSymbols, IsReadableSymbol}
use Rattle.lalrpop_json_symbols.specs.Symbols.{written_symbol}
use Rattle.lalrpop_json_symbols.specs.Kinds.{IsLiteral, IsReadableKind, IsReadableLayer}

-- ---- from a readable symbol to its parts

abbrev Layer : Type 0
Layer = layer.SymbolKind-F SymbolKind ExprSymbol MacroSymbol RepeatSymbol Symbol

-- a kind of this layer
layered : (l : Layer) (kind : SymbolKind) → roll-SymbolKind l ≡ kind → IsReadableLayer l → IsReadableKind kind
layered l kind e is = rw (← e, out-roll-SymbolKind l) is

abbrev pub Parts : Symbol → Type 0
Parts s = IsSpan (out-Symbol s).span × IsReadableKind (out-Symbol s).kind

parts_of : (s : Symbol) (span : Span) (kind : SymbolKind) → s ≡ written_symbol span kind → IsSpan span → IsReadableKind kind
    → Parts s
parts_of s span kind e spanned is = rw e (spanned, is)

pub symbol_parts : (s : Symbol) → IsReadableSymbol s → Parts s
symbol_parts s (IsReadableSymbol.ambiguous_id span n e is spanned) =
    parts_of s span _ e spanned (layered (layer.AmbiguousId n) _ (kinds.rolls-AmbiguousId n) is)
symbol_parts s (IsReadableSymbol.terminal span l e spanned) =
    parts_of s span _ e spanned (layered (layer.Terminal (terminals.Literal l)) _ (kinds.rolls-Terminal (terminals.Literal l)) tt)
symbol_parts s (IsReadableSymbol.expr span xs e are spanned) =
    let g = roll-ExprSymbol (record { symbols = xs }) in
    parts_of s span _ e spanned (layered (layer.Expr g) _ (kinds.rolls-Expr g) (rw (out-roll-ExprSymbol (record { symbols = xs })) are))
symbol_parts s (IsReadableSymbol.macro span n xs e are is spanned) =
    let m = roll-MacroSymbol (record { name = record { 0 = n }; args = xs }) in
    parts_of s span _ e spanned
    (layered (layer.Macro m) _ (kinds.rolls-Macro m)
    (rw (out-roll-MacroSymbol (record { name = record { 0 = n }; args = xs })) (is, are)))
symbol_parts s (IsReadableSymbol.repeat span op x e is spanned) =
    let r = roll-RepeatSymbol (record { op = op; symbol = x }) in
    parts_of s span _ e spanned (layered (layer.Repeat r) _ (kinds.rolls-Repeat r) is)
symbol_parts s (IsReadableSymbol.choose span x e is spanned) =
    parts_of s span _ e spanned (layered (layer.Choose x) _ (kinds.rolls-Choose x) is)
symbol_parts s (IsReadableSymbol.name span m n x e is name spanned) =
    parts_of s span _ e spanned
    (layered (layer.Name (record { mutable = m; name = n }) x) _ (kinds.rolls-Name (record { mutable = m; name = n }) x) (name, is))
symbol_parts s (IsReadableSymbol.lookahead span e spanned) =
    parts_of s span _ e spanned (layered layer.Lookahead _ kinds.rolls-Lookahead tt)
symbol_parts s (IsReadableSymbol.lookbehind span e spanned) =
    parts_of s span _ e spanned (layered layer.Lookbehind _ kinds.rolls-Lookbehind tt)
symbol_parts s (IsReadableSymbol.error span e spanned) = parts_of s span _ e spanned (layered layer.Error _ kinds.rolls-Error tt)

-- ---- and back

-- what kind it is, by its layer
of_layer : (kind k : SymbolKind) (l : Layer) → out-SymbolKind kind ≡ l → roll-SymbolKind l ≡ k → kind ≡ k
of_layer kind k l e rolls = sym (roll-out-SymbolKind kind) ∙ ap roll-SymbolKind e ∙ rolls

by_layer : (s : Symbol) (span : Span) (kind : SymbolKind) (l : Layer) → s ≡ written_symbol span kind → out-SymbolKind kind ≡ l
    → IsSpan span → IsReadableLayer l → IsReadableSymbol s
by_layer s span kind (layer.Expr g) e at spanned are =
    let g_is = of_layer kind (kinds.Expr g) (layer.Expr g) at (kinds.rolls-Expr g) ∙ ap kinds.Expr (sym (roll-out-ExprSymbol g)) in
    IsReadableSymbol.expr span (out-ExprSymbol g).symbols (e ∙ ap (written_symbol span) g_is) are spanned
by_layer s span kind (layer.AmbiguousId n) e at spanned is =
    IsReadableSymbol.ambiguous_id span n (e ∙ ap (written_symbol span) (of_layer kind _ _ at (kinds.rolls-AmbiguousId n))) is spanned
by_layer s span kind (layer.Terminal (terminals.Literal l)) e at spanned is =
    IsReadableSymbol.terminal span l (e ∙ ap (written_symbol span) (of_layer kind _ _ at (kinds.rolls-Terminal (terminals.Literal l))))
    spanned
by_layer s span kind (layer.Terminal (terminals.Bare n)) e at spanned is = absurd is
by_layer s span kind (layer.Terminal terminals.Error) e at spanned is = absurd is
by_layer s span kind (layer.Nonterminal n) e at spanned is = absurd is
by_layer s span kind (layer.Macro m) e at spanned is =
    let m_is = of_layer kind (kinds.Macro m) (layer.Macro m) at (kinds.rolls-Macro m) ∙ ap kinds.Macro (sym (roll-out-MacroSymbol m)) in
    IsReadableSymbol.macro span (out-MacroSymbol m).name.0 (out-MacroSymbol m).args (e ∙ ap (written_symbol span) m_is) is.1 is.0 spanned
by_layer s span kind (layer.Repeat r) e at spanned is =
    let r_is = of_layer kind (kinds.Repeat r) (layer.Repeat r) at (kinds.rolls-Repeat r)
    ∙ ap kinds.Repeat (sym (roll-out-RepeatSymbol r)) in
    IsReadableSymbol.repeat span (out-RepeatSymbol r).op (out-RepeatSymbol r).symbol (e ∙ ap (written_symbol span) r_is) is spanned
by_layer s span kind (layer.Choose x) e at spanned is =
    IsReadableSymbol.choose span x (e ∙ ap (written_symbol span) (of_layer kind _ _ at (kinds.rolls-Choose x))) is spanned
by_layer s span kind (layer.Name n x) e at spanned is =
    IsReadableSymbol.name span n.mutable n.name x (e ∙ ap (written_symbol span) (of_layer kind _ _ at (kinds.rolls-Name n x))) is.1 is.0
    spanned
by_layer s span kind layer.Lookahead e at spanned is =
    IsReadableSymbol.lookahead span (e ∙ ap (written_symbol span) (of_layer kind _ _ at kinds.rolls-Lookahead)) spanned
by_layer s span kind layer.Lookbehind e at spanned is =
    IsReadableSymbol.lookbehind span (e ∙ ap (written_symbol span) (of_layer kind _ _ at kinds.rolls-Lookbehind)) spanned
by_layer s span kind layer.Error e at spanned is =
    IsReadableSymbol.error span (e ∙ ap (written_symbol span) (of_layer kind _ _ at kinds.rolls-Error)) spanned

pub symbol_whole : (s : Symbol) → IsSpan (out-Symbol s).span → IsReadableKind (out-Symbol s).kind → IsReadableSymbol s
symbol_whole s spanned is =
    by_layer s (out-Symbol s).span (out-Symbol s).kind (out-SymbolKind (out-Symbol s).kind) (sym (roll-out-Symbol s)) refl spanned is

-- ---- by the kinds that a function tells apart

by_kind : (l : Layer) (kind k : SymbolKind) (r : Bool) → kind ≡ k → roll-SymbolKind l ≡ k → (IsTrue r ↔ IsReadableLayer l) → IsTrue r
    ↔ IsReadableKind kind
by_kind l kind k r e rolls told = rw (ap out-SymbolKind (e ∙ sym rolls) ∙ out-roll-SymbolKind l) told

pub of_group : (r : Bool) (kind : SymbolKind) (g : ExprSymbol) → kind ≡ kinds.Expr g
    → (IsTrue r ↔ AreReadableSymbols (out-ExprSymbol g).symbols) → IsTrue r ↔ IsReadableKind kind
of_group r kind g e told = by_kind (layer.Expr g) kind _ r e (kinds.rolls-Expr g) told

pub of_id : (r : Bool) (kind : SymbolKind) (n : List ℕ) → kind ≡ kinds.AmbiguousId n → r ≡ is_name n → IsTrue r ↔ IsReadableKind kind
of_id r kind n e told = by_kind (layer.AmbiguousId n) kind _ r e (kinds.rolls-AmbiguousId n) (rw told ((λ is. is), (λ is. is)))

pub of_literal : (kind : SymbolKind) (t : TerminalString) (l : TerminalLiteral) → kind ≡ kinds.Terminal t → t ≡ terminals.Literal l
    → IsTrue true ↔ IsReadableKind kind
of_literal kind t l e is = by_kind (layer.Terminal t) kind _ true e (kinds.rolls-Terminal t) (rw is ((λ _. tt), (λ _. refl)))

not_literal : (t : TerminalString) → ((l : TerminalLiteral) → t ≡ terminals.Literal l → ⊥) → IsLiteral t → ⊥
not_literal (terminals.Literal l) other is = other l refl
not_literal (terminals.Bare n) other is = is
not_literal terminals.Error other is = is

pub of_no_literal : (kind : SymbolKind) (t : TerminalString) → kind ≡ kinds.Terminal t
    → ((l : TerminalLiteral) → t ≡ terminals.Literal l → ⊥) → IsTrue false ↔ IsReadableKind kind
of_no_literal kind t e other =
    by_kind (layer.Terminal t) kind _ false e (kinds.rolls-Terminal t) ((λ none. absurd (cc)), (λ is. absurd (not_literal t other is)))

pub of_nonterminal : (kind : SymbolKind) (n : NonterminalString) → kind ≡ kinds.Nonterminal n → IsTrue false ↔ IsReadableKind kind
of_nonterminal kind n e =
    by_kind (layer.Nonterminal n) kind _ false e (kinds.rolls-Nonterminal n) ((λ none. absurd (cc)), (λ none. absurd none))

pub of_macro : (r : Bool) (kind : SymbolKind) (m : MacroSymbol) → kind ≡ kinds.Macro m → IsTrue (is_name (out-MacroSymbol m).name.0)
    → (IsTrue r ↔ AreReadableSymbols (out-MacroSymbol m).args) → IsTrue r ↔ IsReadableKind kind
of_macro r kind m e named told =
    by_kind (layer.Macro m) kind _ r e (kinds.rolls-Macro m) ((λ is. (named, told.0 is)), (λ is. told.1 is.1))

pub of_no_macro : (r : Bool) (kind : SymbolKind) (m : MacroSymbol) → kind ≡ kinds.Macro m → r ≡ is_name (out-MacroSymbol m).name.0
    → r ≡ false → IsTrue r ↔ IsReadableKind kind
of_no_macro r kind m e told unnamed =
    by_kind (layer.Macro m) kind _ r e (kinds.rolls-Macro m) ((λ is. absurd (cc)), (λ is. told ∙ is.0))

pub of_repeat : (r : Bool) (kind : SymbolKind) (x : RepeatSymbol) → kind ≡ kinds.Repeat x
    → (IsTrue r ↔ IsReadableSymbol (out-RepeatSymbol x).symbol) → IsTrue r ↔ IsReadableKind kind
of_repeat r kind x e told = by_kind (layer.Repeat x) kind _ r e (kinds.rolls-Repeat x) told

pub of_choice : (r : Bool) (kind : SymbolKind) (x : Symbol) → kind ≡ kinds.Choose x → (IsTrue r ↔ IsReadableSymbol x) → IsTrue r
    ↔ IsReadableKind kind
of_choice r kind x e told = by_kind (layer.Choose x) kind _ r e (kinds.rolls-Choose x) told

pub of_named : (r : Bool) (kind : SymbolKind) (n : Name) (x : Symbol) → kind ≡ kinds.Name n x → IsTrue (is_name n.name)
    → (IsTrue r ↔ IsReadableSymbol x) → IsTrue r ↔ IsReadableKind kind
of_named r kind n x e named told =
    by_kind (layer.Name n x) kind _ r e (kinds.rolls-Name n x) ((λ is. (named, told.0 is)), (λ is. told.1 is.1))

pub of_unnamed : (r : Bool) (kind : SymbolKind) (n : Name) (x : Symbol) → kind ≡ kinds.Name n x → r ≡ is_name n.name → r ≡ false
    → IsTrue r ↔ IsReadableKind kind
of_unnamed r kind n x e told unnamed =
    by_kind (layer.Name n x) kind _ r e (kinds.rolls-Name n x) ((λ is. absurd (cc)), (λ is. told ∙ is.0))

-- a symbol with a span that has a spelling has one where its kind has one
pub of_spanned : (r : Bool) (s : Symbol) → IsSpan (out-Symbol s).span → (IsTrue r ↔ IsReadableKind (out-Symbol s).kind) → IsTrue r
    ↔ IsReadableSymbol s
of_spanned r s spanned told = ((λ is. symbol_whole s spanned (told.0 is)), (λ is. told.1 (symbol_parts s is).1))

pub of_no_span : (r : Bool) (s : Symbol) → (IsTrue r ↔ IsSpan (out-Symbol s).span) → r ≡ false → IsTrue r ↔ IsReadableSymbol s
of_no_span r s told unspanned = ((λ is. absurd (cc)), (λ is. told.1 (symbol_parts s is).0))

-- ---- lists of symbols

pub each_readable : (i : ℕ) (xs : List Symbol) → AreReadableSymbols xs → EachFrom (λ _. IsReadableSymbol) i xs
each_readable i [] AreReadableSymbols.none = tt
each_readable i (x ∷ xs) (AreReadableSymbols.more is are) = (is, each_readable (i + 1) xs are)

pub all_readable : (i : ℕ) (xs : List Symbol) → EachFrom (λ _. IsReadableSymbol) i xs → AreReadableSymbols xs
all_readable i [] each = AreReadableSymbols.none
all_readable i (x ∷ xs) each = AreReadableSymbols.more each.0 (all_readable (i + 1) xs each.1)

pub ruleset symbols_told = (symbol_parts, symbol_whole)

pub ruleset symbol_lists = (each_readable, all_readable)
