-- How the items of a grammar are read.
use Rattle.std.specs.Prelude.{List, [], ◌∷◌, Result, Ok, Err, Option, Some}
use Rattle.lalrpop_grammar.specs.declared.extern_token.ExternToken.{ExternToken}
use Rattle.lalrpop_grammar.specs.declared.grammar.GrammarItem.{GrammarItem}
use Rattle.lalrpop_grammar.specs.declared.grammar.GrammarItem.TheVariants as items
use Rattle.lalrpop_grammar.specs.declared.match_token.MatchToken.{MatchToken}
use Rattle.lalrpop_grammar.specs.declared.nonterminal.NonterminalData.{NonterminalData}
use Rattle.serde_json.specs.Data.{Data}
use Rattle.lalrpop_json_values.specs.declared.fault.Fault.{Fault}
use Rattle.lalrpop_json_values.specs.declared.fault.FaultKind.TheVariants as fault
use Rattle.lalrpop_json_values.specs.declared.form.Form.{Form}
use Rattle.lalrpop_json_values.specs.declared.form.Form.TheVariants as form
use Rattle.lalrpop_json_values.specs.declared.key.Key.{Key}
use Rattle.lalrpop_json_values.specs.declared.key.Key.TheVariants as key
use Rattle.lalrpop_json_values.specs.declared.word.Word.{Word}
use Rattle.lalrpop_json_values.specs.declared.word.Word.TheVariants as word
use Rattle.lalrpop_json_values.specs.Forms.{form_at}
use Rattle.lalrpop_json_values.specs.Gives.{◌>>=◌, here}
use Rattle.lalrpop_json_values.specs.Objects.{field_at, keys_at}
use Rattle.lalrpop_json_values.specs.Scalars.{text_at, word_at}
use Rattle.lalrpop_json_items.specs.Externs.{extern_at}
use Rattle.lalrpop_json_items.specs.Matches.{match_at}
use Rattle.lalrpop_json_items.specs.Rules.{rule_at}

unfoldable pub import_at : Data → Result GrammarItem Fault
import_at d = do
  _ ← keys_at (key.Kind ∷ key.Text ∷ []) d
  _ ← field_at key.Kind (word_at word.Use) d
  text ← field_at key.Text text_at d
  Ok (items.Use text)

abbrev pub item_words : List (Word × Form)
item_words = (word.Extern, form.Extern) ∷ (word.Match, form.Match) ∷ (word.Rule, form.Rule) ∷ (word.Use, form.Use) ∷ []

-- without a word: a rule, a match block and an extern block have `span`, and the format lists rules first
abbrev pub item_rows : List (Key × Form)
item_rows =
    (key.Alternatives, form.Rule) ∷ (key.Args, form.Rule) ∷ (key.Associated, form.Extern) ∷ (key.Attributes, form.Rule)
    ∷ (key.Contents, form.Match) ∷ (key.Enum, form.Extern) ∷ (key.Name, form.Rule) ∷ (key.Span, form.Rule) ∷ (key.Text, form.Use)
    ∷ (key.DeclaredType, form.Rule) ∷ (key.Visibility, form.Rule) ∷ []

unfoldable pub item_form : Data → Option Form
item_form d = form_at item_words item_rows d

abbrev pub item_by : Option Form → Data → Result GrammarItem Fault
item_by (Some form.Extern) d = extern_at d >>= λ block. Ok (items.ExternToken block)
item_by (Some form.Match) d = match_at d >>= λ block. Ok (items.MatchToken block)
item_by (Some form.Rule) d = rule_at d >>= λ rule. Ok (items.Nonterminal rule)
item_by (Some form.Use) d = import_at d
item_by _ d = Err (here fault.WrongShape)

unfoldable pub item_at : Data → Result GrammarItem Fault
item_at d = item_by (item_form d) d
