-- Which terminals, symbols, types and attributes have a spelling.
use Rattle.std.specs.Prelude.{◌≡◌, ℕ, Bool, List, [], ◌∷◌, Option, IsTrue}
use Rattle.lalrpop_grammar_symbols.specs.declared.span.Span.{Span}
use Rattle.lalrpop_grammar_symbols.specs.declared.symbol.RepeatOp.{RepeatOp}
use Rattle.lalrpop_grammar_symbols.specs.declared.symbol.Symbol.{Symbol}
use Rattle.lalrpop_grammar_symbols.specs.declared.symbol.SymbolKind.TheVariants as kinds
use Rattle.lalrpop_grammar_symbols.specs.declared.terminal.TerminalLiteral.{TerminalLiteral}
use Rattle.lalrpop_grammar_symbols.specs.declared.terminal.TerminalString.{TerminalString}
use Rattle.lalrpop_grammar_symbols.specs.declared.terminal.TerminalString.TheVariants as terminals
use Rattle.lalrpop_grammar.specs.declared.types.type_ref.TypeRef.{TypeRef}
use Rattle.lalrpop_grammar.specs.declared.types.type_ref.TypeRef.TheVariants as types
use Rattle.lalrpop_grammar.specs.declared.types.attribute.Attribute.{Attribute}
use Rattle.lalrpop_grammar.specs.declared.types.attribute.AttributeArg.{AttributeArg}
use Rattle.lalrpop_grammar.specs.declared.types.attribute.AttributeArg.TheVariants as args
use Rattle.lalrpop_json_values.specs.Scalars.{is_name}
use Rattle.lalrpop_json_values.specs.Spelled.{IsSpan}
use Rattle.lalrpop_json_symbols.specs.Attributes.{attribute_of}
use Rattle.lalrpop_json_symbols.specs.Symbols.{written_symbol, group_of, macro_of, repeat_of, named_of}

-- the terminal of a token
pub data IsReadableTerminal (t : TerminalString) : Type 0 where
  literal : (l : TerminalLiteral) → t ≡ terminals.Literal l → IsReadableTerminal t
  bare : (name : List ℕ) → t ≡ terminals.Bare name → IsTrue (is_name name) → IsReadableTerminal t

mutual
  pub data IsReadableSymbol : Symbol → Type 0 where
    ambiguous_id : {s : Symbol} (span : Span) (name : List ℕ) → s ≡ written_symbol span (kinds.AmbiguousId name)
        → IsTrue (is_name name) → IsSpan span → IsReadableSymbol s
    terminal : {s : Symbol} (span : Span) (l : TerminalLiteral) → s ≡ written_symbol span (kinds.Terminal (terminals.Literal l))
        → IsSpan span → IsReadableSymbol s
    expr : {s : Symbol} (span : Span) (symbols : List Symbol) → s ≡ written_symbol span (group_of symbols)
        → AreReadableSymbols symbols → IsSpan span → IsReadableSymbol s
    macro : {s : Symbol} (span : Span) (name : List ℕ) (args : List Symbol) → s ≡ written_symbol span (macro_of name args)
        → AreReadableSymbols args
        → IsTrue (is_name name) → IsSpan span → IsReadableSymbol s
    repeat : {s : Symbol} (span : Span) (op : RepeatOp) (symbol : Symbol) → s ≡ written_symbol span (repeat_of op symbol)
        → IsReadableSymbol symbol
        → IsSpan span → IsReadableSymbol s
    choose : {s : Symbol} (span : Span) (symbol : Symbol) → s ≡ written_symbol span (kinds.Choose symbol) → IsReadableSymbol symbol
        → IsSpan span
        → IsReadableSymbol s
    name : {s : Symbol} (span : Span) (mutable : Bool) (name : List ℕ) (symbol : Symbol)
        → s ≡ written_symbol span (named_of mutable name symbol)
        → IsReadableSymbol symbol → IsTrue (is_name name) → IsSpan span → IsReadableSymbol s
    lookahead : {s : Symbol} (span : Span) → s ≡ written_symbol span kinds.Lookahead → IsSpan span → IsReadableSymbol s
    lookbehind : {s : Symbol} (span : Span) → s ≡ written_symbol span kinds.Lookbehind → IsSpan span → IsReadableSymbol s
    error : {s : Symbol} (span : Span) → s ≡ written_symbol span kinds.Error → IsSpan span → IsReadableSymbol s

  pub data AreReadableSymbols : List Symbol → Type 0 where
    none : AreReadableSymbols []
    more : {s : Symbol} {ss : List Symbol} → IsReadableSymbol s → AreReadableSymbols ss → AreReadableSymbols (s ∷ ss)

mutual
  pub data IsReadableType : TypeRef → Type 0 where
    tuple : {t : TypeRef} (parts : List TypeRef) → t ≡ types.Tuple parts → AreReadableTypes parts → IsReadableType t
    nominal : {t : TypeRef} (path : List ℕ) (parts : List TypeRef) → t ≡ types.Nominal path parts → AreReadableTypes parts
        → IsReadableType t
    id : {t : TypeRef} (name : List ℕ) → t ≡ types.Id name → IsTrue (is_name name) → IsReadableType t
    of_symbol : {t : TypeRef} (symbol : Symbol) → t ≡ types.OfSymbol symbol → IsReadableSymbol symbol → IsReadableType t
    ref : {t : TypeRef} (lifetime : Option (List ℕ)) (mutable : Bool) (referent : TypeRef) → t ≡ types.Ref lifetime mutable referent
        → IsReadableType referent → IsReadableType t
    opaque : {t : TypeRef} (text : List ℕ) → t ≡ types.Opaque text → IsReadableType t

  pub data AreReadableTypes : List TypeRef → Type 0 where
    none : AreReadableTypes []
    more : {t : TypeRef} {ts : List TypeRef} → IsReadableType t → AreReadableTypes ts → AreReadableTypes (t ∷ ts)

mutual
  pub data IsReadableAttribute : Attribute → Type 0 where
    attribute : {a : Attribute} (span : Span) (name : List ℕ) (arg : AttributeArg) → a ≡ attribute_of span name arg
        → IsReadableArg arg
        → IsTrue (is_name name) → IsSpan span → IsReadableAttribute a

  pub data IsReadableArg : AttributeArg → Type 0 where
    empty : {a : AttributeArg} → a ≡ args.Empty → IsReadableArg a
    paren : {a : AttributeArg} (parts : List Attribute) → a ≡ args.Paren parts → AreReadableAttributes parts → IsReadableArg a
    equal : {a : AttributeArg} (text : List ℕ) → a ≡ args.Equal text → IsReadableArg a

  pub data AreReadableAttributes : List Attribute → Type 0 where
    none : AreReadableAttributes []
    more : {a : Attribute} {as_ : List Attribute} → IsReadableAttribute a → AreReadableAttributes as_
        → AreReadableAttributes (a ∷ as_)
