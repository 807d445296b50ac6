-- The one JSON value of a literal, a symbol, a type and an attribute.
use Rattle.std.specs.Prelude.{ℕ, Bool, List, [], ◌∷◌, Option}
use Rattle.serde_json.specs.Data.{Data, null, boolean, string, array}
use Rattle.serde_json.specs.View.{items_of}
use Rattle.lalrpop_grammar_symbols.specs.declared.span.Span.{Span}
use Rattle.lalrpop_grammar_symbols.specs.declared.symbol.RepeatOp.{RepeatOp}
use Rattle.lalrpop_grammar_symbols.specs.declared.symbol.RepeatOp.TheVariants as ops
use Rattle.lalrpop_grammar_symbols.specs.declared.symbol.Symbol.{Symbol}
use Rattle.lalrpop_grammar_symbols.specs.declared.symbol.SymbolKind.{SymbolKind}
use Rattle.lalrpop_grammar_symbols.specs.declared.symbol.SymbolKind.TheFolds as folds
use Rattle.lalrpop_grammar_symbols.specs.declared.symbol.SymbolKind.TheOpen as layer
use Rattle.lalrpop_grammar_symbols.specs.declared.terminal.TerminalLiteral.{TerminalLiteral}
use Rattle.lalrpop_grammar_symbols.specs.declared.terminal.TerminalLiteral.TheVariants as literals
use Rattle.lalrpop_grammar_symbols.specs.declared.terminal.TerminalString.{TerminalString}
use Rattle.lalrpop_grammar_symbols.specs.declared.terminal.TerminalString.TheVariants as terminals
use Rattle.lalrpop_grammar.specs.declared.types.type_ref.TypeRef.{TypeRef, fold-TypeRef}
use Rattle.lalrpop_grammar.specs.declared.types.type_ref.TypeRef.TheOpen as type_layer
use Rattle.lalrpop_grammar.specs.declared.types.attribute.Attribute.{Attribute}
use Rattle.lalrpop_grammar.specs.declared.types.attribute.AttributeArg.{AttributeArg}
use Rattle.lalrpop_grammar.specs.declared.types.attribute.AttributeArg.TheFolds as attribute_folds
use Rattle.lalrpop_grammar.specs.declared.types.attribute.AttributeArg.TheOpen as attribute_layer
use Rattle.lalrpop_json_values.specs.declared.key.Key.TheVariants as key
use Rattle.lalrpop_json_values.specs.declared.word.Word.{Word}
use Rattle.lalrpop_json_values.specs.declared.word.Word.TheVariants as word
use Rattle.lalrpop_json_values.specs.Spelled.{object_of, option_json, span_json, word_json}

-- ---- literals and terminals of tokens

abbrev pub literal_json : TerminalLiteral → Data
literal_json (literals.Quoted t) = object_of ((key.Quoted, string t) ∷ [])
literal_json (literals.Regex t) = object_of ((key.Regex, string t) ∷ [])

-- error recovery is no token
abbrev pub terminal_json : TerminalString → Data
terminal_json (terminals.Literal l) = literal_json l
terminal_json (terminals.Bare n) = object_of ((key.Bare, string n) ∷ [])
terminal_json terminals.Error = null

-- ---- symbols

abbrev pub op_json : RepeatOp → Data
op_json ops.Star = word_json word.Star
op_json ops.Plus = word_json word.Plus
op_json ops.Question = word_json word.Question

abbrev pub id_json : Span → List ℕ → Data
id_json s n = object_of ((key.Kind, word_json word.Id) ∷ (key.Name, string n) ∷ (key.Span, span_json s) ∷ [])

abbrev pub literal_symbol_json : Span → TerminalLiteral → Data
literal_symbol_json s l =
    object_of ((key.Kind, word_json word.Terminal) ∷ (key.Span, span_json s) ∷ (key.Terminal, literal_json l) ∷ [])

abbrev pub look_json : Word → Span → Data
look_json w s = object_of ((key.Kind, word_json w) ∷ (key.Span, span_json s) ∷ [])

-- those below are given what stands inside as JSON
abbrev pub group_json : Span → Data → Data
group_json s xs = object_of ((key.Expr, xs) ∷ (key.Kind, word_json word.Group) ∷ (key.Span, span_json s) ∷ [])

abbrev pub macro_json : Span → List ℕ → Data → Data
macro_json s n xs = object_of
    ((key.Args, xs) ∷ (key.Kind, word_json word.Macro) ∷ (key.Name, string n) ∷ (key.Span, span_json s) ∷ [])

abbrev pub repeat_json : Span → RepeatOp → Data → Data
repeat_json s op x =
    object_of ((key.Kind, word_json word.Repeat) ∷ (key.Op, op_json op) ∷ (key.Span, span_json s) ∷ (key.Symbol, x) ∷ [])

abbrev pub choose_json : Span → Data → Data
choose_json s x = object_of ((key.Kind, word_json word.Choose) ∷ (key.Span, span_json s) ∷ (key.Symbol, x) ∷ [])

abbrev pub named_json : Span → Bool → List ℕ → Data → Data
named_json s mutable n x =
    object_of ((key.Kind, word_json word.Named) ∷ (key.Mutable, boolean mutable) ∷ (key.Name, string n) ∷ (key.Span, span_json s) ∷
    (key.Symbol, x) ∷ [])

-- one layer of a symbol, with what stands inside as JSON; a resolved name has none, nor a bare name or an error as a terminal
abbrev pub Kind : Type 0
Kind = Span → Data

abbrev pub Call : Type 0
Call = List ℕ × Data

abbrev pub Repeated : Type 0
Repeated = RepeatOp × Data

abbrev pub terminal_symbol_json : TerminalString → Kind
terminal_symbol_json (terminals.Literal l) s = literal_symbol_json s l
terminal_symbol_json (terminals.Bare n) s = null
terminal_symbol_json terminals.Error s = null

abbrev pub kind_json_step : layer.SymbolKind-F Kind Data Call Repeated Data → Kind
kind_json_step (layer.Expr xs) s = group_json s xs
kind_json_step (layer.AmbiguousId n) s = id_json s n
kind_json_step (layer.Terminal t) s = terminal_symbol_json t s
kind_json_step (layer.Nonterminal n) s = null
kind_json_step (layer.Macro m) s = macro_json s m.0 m.1
kind_json_step (layer.Repeat r) s = repeat_json s r.0 r.1
kind_json_step (layer.Choose x) s = choose_json s x
kind_json_step (layer.Name n x) s = named_json s n.mutable n.name x
kind_json_step layer.Lookahead s = look_json word.Lookahead s
kind_json_step layer.Lookbehind s = look_json word.Lookbehind s
kind_json_step layer.Error s = look_json word.Error s

abbrev pub expr_json_step : layer.ExprSymbol-F Kind Data Call Repeated Data → Data
expr_json_step e = array (items_of e.symbols)

abbrev pub macro_json_step : layer.MacroSymbol-F Kind Data Call Repeated Data → Call
macro_json_step m = (m.name.0, array (items_of m.args))

abbrev pub repeat_json_step : layer.RepeatSymbol-F Kind Data Call Repeated Data → Repeated
repeat_json_step r = (r.op, r.symbol)

abbrev pub symbol_json_step : layer.Symbol-F Kind Data Call Repeated Data → Data
symbol_json_step s = s.kind s.span

abbrev pub symbol_json : Symbol → Data
symbol_json = folds.fold-Symbol Kind Data Call Repeated Data kind_json_step expr_json_step macro_json_step repeat_json_step symbol_json_step

abbrev pub kind_json : SymbolKind → Kind
kind_json = folds.fold-SymbolKind Kind Data Call Repeated Data kind_json_step expr_json_step macro_json_step repeat_json_step
    symbol_json_step

-- ---- types

abbrev pub tuple_json : Data → Data
tuple_json ts = object_of ((key.Tuple, ts) ∷ [])

abbrev pub nominal_json : List ℕ → Data → Data
nominal_json path ts = object_of ((key.Args, ts) ∷ (key.Path, string path) ∷ [])

abbrev pub ref_json : Option (List ℕ) → Bool → Data → Data
ref_json lifetime mutable t =
    object_of ((key.Lifetime, option_json string lifetime) ∷ (key.Mutable, boolean mutable) ∷ (key.Ref, t) ∷ [])

abbrev pub type_json_step : type_layer.TypeRef-F Data → Data
type_json_step (type_layer.Tuple ts) = tuple_json (array (items_of ts))
type_json_step (type_layer.Nominal path ts) = nominal_json path (array (items_of ts))
type_json_step (type_layer.Id n) = object_of ((key.Id, string n) ∷ [])
type_json_step (type_layer.OfSymbol s) = object_of ((key.Symbol, symbol_json s) ∷ [])
type_json_step (type_layer.Ref lifetime mutable t) = ref_json lifetime mutable t
type_json_step (type_layer.Opaque t) = object_of ((key.Text, string t) ∷ [])

abbrev pub type_json : TypeRef → Data
type_json = fold-TypeRef Data type_json_step

-- ---- attributes

abbrev pub paren_json : Data → Data
paren_json parts = object_of ((key.Paren, parts) ∷ [])

abbrev pub shaped_json : Span → List ℕ → Data → Data
shaped_json s id arg = object_of ((key.Arg, arg) ∷ (key.Id, string id) ∷ (key.Span, span_json s) ∷ [])

abbrev pub arg_json_step : attribute_layer.AttributeArg-F Data Data → Data
arg_json_step attribute_layer.Empty = null
arg_json_step (attribute_layer.Paren parts) = paren_json (array (items_of parts))
arg_json_step (attribute_layer.Equal t) = object_of ((key.Equal, string t) ∷ [])

abbrev pub attribute_json_step : attribute_layer.Attribute-F Data Data → Data
attribute_json_step a = shaped_json a.span a.id a.arg

abbrev pub attribute_json : Attribute → Data
attribute_json = attribute_folds.fold-Attribute Data Data arg_json_step attribute_json_step

abbrev pub arg_json : AttributeArg → Data
arg_json = attribute_folds.fold-AttributeArg Data Data arg_json_step attribute_json_step
