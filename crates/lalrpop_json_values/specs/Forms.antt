-- Which form a value has, where there are several.
use Rattle.std.specs.Prelude.{ℕ, List, [], ◌∷◌, Option, Some, None, is_some, if◌then◌else◌, option_and_then}
use Rattle.serde_json.specs.Data.{Data}
use Rattle.serde_json.specs.Find.{get, as_str}
use Rattle.lalrpop_json_values.specs.declared.form.Form.{Form}
use Rattle.lalrpop_json_values.specs.declared.key.Key.{Key}
use Rattle.lalrpop_json_values.specs.declared.key.Key.TheVariants as key
use Rattle.lalrpop_json_values.specs.declared.word.Word.{Word}
use Rattle.lalrpop_json_values.specs.Key.{key_text}
use Rattle.lalrpop_json_values.specs.Scalars.{is_word}

-- by the first key that belongs to a form; the keys are in byte order
abbrev pub form_by_key : List (Key × Form) → Data → Option Form
form_by_key [] d = None
form_by_key (r ∷ rs) d = if is_some (get (key_text r.0) d) then Some r.1 else form_by_key rs d

abbrev pub form_by_word : List (Word × Form) → List ℕ → Option Form
form_by_word [] t = None
form_by_word (r ∷ rs) t = if is_word r.0 t then Some r.1 else form_by_word rs t

abbrev pub form_by_kind : List (Word × Form) → List (Key × Form) → Option Data → Data → Option Form
form_by_kind words rows None d = form_by_key rows d
form_by_kind words rows (Some e) d = option_and_then (form_by_word words) (as_str e)

-- by the word at `kind`, or without one by the first key
unfoldable pub form_at : List (Word × Form) → List (Key × Form) → Data → Option Form
form_at words rows d = form_by_kind words rows (get (key_text key.Kind) d) d
