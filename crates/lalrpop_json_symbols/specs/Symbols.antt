-- How symbols are read.
use Rattle.std.specs.Prelude.{ℕ, Bool, List, [], ◌∷◌, Result, Ok, Err, Option, Some, if◌then◌else◌}
use Rattle.serde_json.specs.Find.{as_str}
use Rattle.lalrpop_grammar_symbols.specs.declared.span.Span.{Span}
use Rattle.lalrpop_grammar_symbols.specs.declared.symbol.ExprSymbol.{roll-ExprSymbol}
use Rattle.lalrpop_grammar_symbols.specs.declared.symbol.MacroSymbol.{roll-MacroSymbol}
use Rattle.lalrpop_grammar_symbols.specs.declared.symbol.RepeatOp.{RepeatOp}
use Rattle.lalrpop_grammar_symbols.specs.declared.symbol.RepeatOp.TheVariants as ops
use Rattle.lalrpop_grammar_symbols.specs.declared.symbol.RepeatSymbol.{roll-RepeatSymbol}
use Rattle.lalrpop_grammar_symbols.specs.declared.symbol.Symbol.{Symbol, roll-Symbol}
use Rattle.lalrpop_grammar_symbols.specs.declared.symbol.SymbolKind.{SymbolKind}
use Rattle.lalrpop_grammar_symbols.specs.declared.symbol.SymbolKind.TheVariants as kinds
use Rattle.lalrpop_grammar_symbols.specs.declared.terminal.TerminalString.TheVariants as terminals
use Rattle.serde_json.specs.Data.{Data}
use Rattle.lalrpop_json_values.specs.declared.fault.Fault.{Fault}
use Rattle.lalrpop_json_values.specs.declared.fault.FaultKind.TheVariants as fault
use Rattle.lalrpop_json_values.specs.declared.form.Form.{Form}
use Rattle.lalrpop_json_values.specs.declared.form.Form.TheVariants as form
use Rattle.lalrpop_json_values.specs.declared.key.Key.{Key}
use Rattle.lalrpop_json_values.specs.declared.key.Key.TheVariants as key
use Rattle.lalrpop_json_values.specs.declared.word.Word.{Word}
use Rattle.lalrpop_json_values.specs.declared.word.Word.TheVariants as word
use Rattle.lalrpop_json_values.specs.Forms.{form_at}
use Rattle.lalrpop_json_values.specs.Gives.{◌>>=◌, here, required_value}
use Rattle.lalrpop_json_values.specs.Lists.{list_at}
use Rattle.lalrpop_json_values.specs.Nested.{Reader, nested_reader}
use Rattle.lalrpop_json_values.specs.Objects.{field_at, keys_at}
use Rattle.lalrpop_json_values.specs.Scalars.{flag_at, is_word, name_at, span_at, word_at}
use Rattle.lalrpop_json_symbols.specs.Literals.{literal_at}

-- ---- the symbols that there are

abbrev pub written_symbol : Span → SymbolKind → Symbol
written_symbol span kind = roll-Symbol (record { span = span; kind = kind })

abbrev pub group_of : List Symbol → SymbolKind
group_of symbols = kinds.Expr (roll-ExprSymbol (record { symbols = symbols }))

abbrev pub macro_of : List ℕ → List Symbol → SymbolKind
macro_of name args = kinds.Macro (roll-MacroSymbol (record { name = record { 0 = name }; args = args }))

abbrev pub repeat_of : RepeatOp → Symbol → SymbolKind
repeat_of op symbol = kinds.Repeat (roll-RepeatSymbol (record { op = op; symbol = symbol }))

abbrev pub named_of : Bool → List ℕ → Symbol → SymbolKind
named_of mutable name symbol = kinds.Name (record { mutable = mutable; name = name }) symbol

-- ---- those without a symbol inside

abbrev pub op_of : List ℕ → Result RepeatOp Fault
op_of t = if is_word word.Star t then Ok ops.Star else
    (if is_word word.Plus t then Ok ops.Plus else (if is_word word.Question t then Ok ops.Question else Err (here fault.WrongShape)))

unfoldable pub op_at : Data → Result RepeatOp Fault
op_at d = do
  t ← required_value (as_str d)
  op_of t

unfoldable pub id_at : Data → Result Symbol Fault
id_at d = do
  _ ← keys_at (key.Kind ∷ key.Name ∷ key.Span ∷ []) d
  _ ← field_at key.Kind (word_at word.Id) d
  name ← field_at key.Name name_at d
  span ← field_at key.Span span_at d
  Ok (written_symbol span (kinds.AmbiguousId name))

unfoldable pub literal_symbol_at : Data → Result Symbol Fault
literal_symbol_at d = do
  _ ← keys_at (key.Kind ∷ key.Span ∷ key.Terminal ∷ []) d
  _ ← field_at key.Kind (word_at word.Terminal) d
  span ← field_at key.Span span_at d
  literal ← field_at key.Terminal literal_at d
  Ok (written_symbol span (kinds.Terminal (terminals.Literal literal)))

-- the span of `@L`, `@R` or `!`
unfoldable pub look_span_at : Word → Data → Result Span Fault
look_span_at w d = do
  _ ← keys_at (key.Kind ∷ key.Span ∷ []) d
  _ ← field_at key.Kind (word_at w) d
  field_at key.Span span_at d

-- `@L`, `@R` and `!`
unfoldable pub look_at : Word → SymbolKind → Data → Result Symbol Fault
look_at w kind d = do
  _ ← keys_at (key.Kind ∷ key.Span ∷ []) d
  _ ← field_at key.Kind (word_at w) d
  span ← field_at key.Span span_at d
  Ok (written_symbol span kind)

-- ---- those with symbols inside

unfoldable pub group_at : Reader Symbol → Reader Symbol
group_at read d = do
  _ ← keys_at (key.Expr ∷ key.Kind ∷ key.Span ∷ []) d
  symbols ← field_at key.Expr (list_at (λ _. read)) d
  _ ← field_at key.Kind (word_at word.Group) d
  span ← field_at key.Span span_at d
  Ok (written_symbol span (group_of symbols))

unfoldable pub macro_at : Reader Symbol → Reader Symbol
macro_at read d = do
  _ ← keys_at (key.Args ∷ key.Kind ∷ key.Name ∷ key.Span ∷ []) d
  args ← field_at key.Args (list_at (λ _. read)) d
  _ ← field_at key.Kind (word_at word.Macro) d
  name ← field_at key.Name name_at d
  span ← field_at key.Span span_at d
  Ok (written_symbol span (macro_of name args))

unfoldable pub repeat_at : Reader Symbol → Reader Symbol
repeat_at read d = do
  _ ← keys_at (key.Kind ∷ key.Op ∷ key.Span ∷ key.Symbol ∷ []) d
  _ ← field_at key.Kind (word_at word.Repeat) d
  op ← field_at key.Op op_at d
  span ← field_at key.Span span_at d
  symbol ← field_at key.Symbol read d
  Ok (written_symbol span (repeat_of op symbol))

unfoldable pub choose_at : Reader Symbol → Reader Symbol
choose_at read d = do
  _ ← keys_at (key.Kind ∷ key.Span ∷ key.Symbol ∷ []) d
  _ ← field_at key.Kind (word_at word.Choose) d
  span ← field_at key.Span span_at d
  symbol ← field_at key.Symbol read d
  Ok (written_symbol span (kinds.Choose symbol))

unfoldable pub named_at : Reader Symbol → Reader Symbol
named_at read d = do
  _ ← keys_at (key.Kind ∷ key.Mutable ∷ key.Name ∷ key.Span ∷ key.Symbol ∷ []) d
  _ ← field_at key.Kind (word_at word.Named) d
  mutable ← field_at key.Mutable flag_at d
  name ← field_at key.Name name_at d
  span ← field_at key.Span span_at d
  symbol ← field_at key.Symbol read d
  Ok (written_symbol span (named_of mutable name symbol))

-- ---- all of them

abbrev pub symbol_words : List (Word × Form)
symbol_words =
    (word.Choose, form.Choose) ∷ (word.Error, form.Error) ∷ (word.Group, form.Group) ∷ (word.Id, form.Id) ∷
    (word.Lookahead, form.Lookahead)
    ∷ (word.Lookbehind, form.Lookbehind) ∷ (word.Macro, form.Macro) ∷ (word.Named, form.Named) ∷ (word.Repeat, form.Repeat)
    ∷ (word.Terminal, form.Terminal) ∷ []

-- without a word: several have `span`, `name`, `args` or `symbol`, which tells the one that the format lists first
abbrev pub symbol_rows : List (Key × Form)
symbol_rows =
    (key.Args, form.Macro) ∷ (key.Expr, form.Group) ∷ (key.Mutable, form.Named) ∷ (key.Name, form.Id) ∷ (key.Op, form.Repeat)
    ∷ (key.Span, form.Id) ∷ (key.Symbol, form.Repeat) ∷ (key.Terminal, form.Terminal) ∷ []

abbrev pub symbol_by : Option Form → Reader Symbol → Reader Symbol
symbol_by (Some form.Choose) read d = choose_at read d
symbol_by (Some form.Error) read d = look_at word.Error kinds.Error d
symbol_by (Some form.Group) read d = group_at read d
symbol_by (Some form.Id) read d = id_at d
symbol_by (Some form.Lookahead) read d = look_at word.Lookahead kinds.Lookahead d
symbol_by (Some form.Lookbehind) read d = look_at word.Lookbehind kinds.Lookbehind d
symbol_by (Some form.Macro) read d = macro_at read d
symbol_by (Some form.Named) read d = named_at read d
symbol_by (Some form.Repeat) read d = repeat_at read d
symbol_by (Some form.Terminal) read d = literal_symbol_at d
symbol_by _ read d = Err (here fault.WrongShape)

unfoldable pub form_of_symbol : Data → Option Form
form_of_symbol d = form_at symbol_words symbol_rows d

unfoldable pub symbol_layer_at : Reader Symbol → Reader Symbol
symbol_layer_at read d = symbol_by (form_of_symbol d) read d

unfoldable pub symbol_at : Reader Symbol
symbol_at d = nested_reader symbol_layer_at d
