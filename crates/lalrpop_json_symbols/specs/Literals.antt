-- How literals and the terminals of tokens are read.
use Rattle.std.specs.Prelude.{List, [], ◌∷◌, Result, Ok, Err, Option, Some}
use Rattle.lalrpop_grammar_symbols.specs.declared.terminal.TerminalLiteral.{TerminalLiteral}
use Rattle.lalrpop_grammar_symbols.specs.declared.terminal.TerminalLiteral.TheVariants as literals
use Rattle.lalrpop_grammar_symbols.specs.declared.terminal.TerminalString.{TerminalString}
use Rattle.lalrpop_grammar_symbols.specs.declared.terminal.TerminalString.TheVariants as terminals
use Rattle.serde_json.specs.Data.{Data}
use Rattle.lalrpop_json_values.specs.declared.fault.Fault.{Fault}
use Rattle.lalrpop_json_values.specs.declared.fault.FaultKind.TheVariants as fault
use Rattle.lalrpop_json_values.specs.declared.form.Form.{Form}
use Rattle.lalrpop_json_values.specs.declared.form.Form.TheVariants as form
use Rattle.lalrpop_json_values.specs.declared.key.Key.{Key}
use Rattle.lalrpop_json_values.specs.declared.key.Key.TheVariants as key
use Rattle.lalrpop_json_values.specs.Forms.{form_by_key}
use Rattle.lalrpop_json_values.specs.Gives.{◌>>=◌, here}
use Rattle.lalrpop_json_values.specs.Objects.{field_at, keys_at}
use Rattle.lalrpop_json_values.specs.Scalars.{name_at, text_at}

unfoldable pub quoted_at : Data → Result TerminalLiteral Fault
quoted_at d = do
  _ ← keys_at (key.Quoted ∷ []) d
  text ← field_at key.Quoted text_at d
  Ok (literals.Quoted text)

unfoldable pub regex_at : Data → Result TerminalLiteral Fault
regex_at d = do
  _ ← keys_at (key.Regex ∷ []) d
  text ← field_at key.Regex text_at d
  Ok (literals.Regex text)

unfoldable pub bare_at : Data → Result TerminalString Fault
bare_at d = do
  _ ← keys_at (key.Bare ∷ []) d
  name ← field_at key.Bare name_at d
  Ok (terminals.Bare name)

-- ---- literals

abbrev pub literal_rows : List (Key × Form)
literal_rows = (key.Quoted, form.Quoted) ∷ (key.Regex, form.Regex) ∷ []

abbrev pub literal_by : Option Form → Data → Result TerminalLiteral Fault
literal_by (Some form.Quoted) d = quoted_at d
literal_by (Some form.Regex) d = regex_at d
literal_by _ d = Err (here fault.WrongShape)

unfoldable pub literal_at : Data → Result TerminalLiteral Fault
literal_at d = literal_by (form_by_key literal_rows d) d

-- ---- literals and bare names

abbrev pub terminal_rows : List (Key × Form)
terminal_rows = (key.Bare, form.Bare) ∷ (key.Quoted, form.Quoted) ∷ (key.Regex, form.Regex) ∷ []

abbrev pub as_literal : Result TerminalLiteral Fault → Result TerminalString Fault
as_literal read = read >>= λ l. Ok (terminals.Literal l)

abbrev pub terminal_by : Option Form → Data → Result TerminalString Fault
terminal_by (Some form.Bare) d = bare_at d
terminal_by (Some form.Quoted) d = quoted_at d >>= λ l. Ok (terminals.Literal l)
terminal_by (Some form.Regex) d = regex_at d >>= λ l. Ok (terminals.Literal l)
terminal_by _ d = Err (here fault.WrongShape)

unfoldable pub terminal_at : Data → Result TerminalString Fault
terminal_at d = terminal_by (form_by_key terminal_rows d) d
