-- How match blocks are read.
use Rattle.std.specs.Prelude.{ℕ, List, [], ◌∷◌, Result, Ok, Err, Option, Some, None, if◌then◌else◌}
use Rattle.serde_json.specs.Find.{as_str}
use Rattle.lalrpop_grammar_symbols.specs.declared.span.Span.{Span}
use Rattle.lalrpop_grammar_symbols.specs.declared.terminal.TerminalLiteral.{TerminalLiteral}
use Rattle.lalrpop_grammar.specs.declared.match_token.MatchContents.{MatchContents}
use Rattle.lalrpop_grammar.specs.declared.match_token.MatchItem.{MatchItem}
use Rattle.lalrpop_grammar.specs.declared.match_token.MatchItem.TheVariants as entries
use Rattle.lalrpop_grammar.specs.declared.match_token.MatchMapping.{MatchMapping}
use Rattle.lalrpop_grammar.specs.declared.match_token.MatchMapping.TheVariants as maps
use Rattle.lalrpop_grammar.specs.declared.match_token.MatchToken.{MatchToken}
use Rattle.serde_json.specs.Data.{Data}
use Rattle.lalrpop_json_values.specs.declared.fault.Fault.{Fault}
use Rattle.lalrpop_json_values.specs.declared.fault.FaultKind.TheVariants as fault
use Rattle.lalrpop_json_values.specs.declared.form.Form.{Form}
use Rattle.lalrpop_json_values.specs.declared.form.Form.TheVariants as form
use Rattle.lalrpop_json_values.specs.declared.key.Key.{Key}
use Rattle.lalrpop_json_values.specs.declared.key.Key.TheVariants as key
use Rattle.lalrpop_json_values.specs.declared.word.Word.TheVariants as word
use Rattle.lalrpop_json_values.specs.Forms.{form_by_key}
use Rattle.lalrpop_json_values.specs.Gives.{◌>>=◌, here}
use Rattle.lalrpop_json_values.specs.Lists.{list_at}
use Rattle.lalrpop_json_values.specs.Objects.{field_at, keys_at}
use Rattle.lalrpop_json_values.specs.Scalars.{is_word, optional, span_at, word_at}
use Rattle.lalrpop_json_symbols.specs.Literals.{literal_at, terminal_at}

abbrev pub word_mapping : List ℕ → Result MatchMapping Fault
word_mapping t = if is_word word.Skip t then Ok maps.Skip else Err (here fault.WrongShape)

-- a word, or a terminal
abbrev pub mapping_from : Option (List ℕ) → Data → Result MatchMapping Fault
mapping_from (Some t) d = word_mapping t
mapping_from None d = terminal_at d >>= λ t. Ok (maps.Terminal t)

unfoldable pub mapping_at : Data → Result MatchMapping Fault
mapping_at d = mapping_from (as_str d) d

abbrev pub match_entry_of : TerminalLiteral → Option MatchMapping → Span → MatchItem
match_entry_of literal None span = entries.Unmapped literal span
match_entry_of literal (Some mapping) span = entries.Mapped literal mapping span

unfoldable pub listed_entry_at : Data → Result MatchItem Fault
listed_entry_at d = do
  _ ← keys_at (key.Literal ∷ key.Map ∷ key.Span ∷ []) d
  literal ← field_at key.Literal literal_at d
  mapping ← field_at key.Map (optional mapping_at) d
  span ← field_at key.Span span_at d
  Ok (match_entry_of literal mapping span)

unfoldable pub catch_all_at : Data → Result MatchItem Fault
catch_all_at d = do
  _ ← keys_at (key.CatchAll ∷ []) d
  span ← field_at key.CatchAll span_at d
  Ok (entries.CatchAll span)

abbrev pub match_entry_rows : List (Key × Form)
match_entry_rows = (key.CatchAll, form.CatchAll) ∷ (key.Literal, form.Entry) ∷ (key.Map, form.Entry) ∷ (key.Span, form.Entry) ∷ []

abbrev pub match_entry_by : Option Form → Data → Result MatchItem Fault
match_entry_by (Some form.CatchAll) d = catch_all_at d
match_entry_by (Some form.Entry) d = listed_entry_at d
match_entry_by _ d = Err (here fault.WrongShape)

unfoldable pub match_entry_at : Data → Result MatchItem Fault
match_entry_at d = match_entry_by (form_by_key match_entry_rows d) d

-- one group of entries
unfoldable pub contents_at : Data → Result MatchContents Fault
contents_at d = do
  listed ← list_at (λ _. match_entry_at) d
  Ok (record { items = listed })

unfoldable pub match_at : Data → Result MatchToken Fault
match_at d = do
  _ ← keys_at (key.Contents ∷ key.Kind ∷ key.Span ∷ []) d
  contents ← field_at key.Contents (list_at (λ _. contents_at)) d
  _ ← field_at key.Kind (word_at word.Match) d
  span ← field_at key.Span span_at d
  Ok (record { contents = contents; span = span })
