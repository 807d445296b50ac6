-- Which form a value of a component has.
use Rattle.std.specs.Prelude.{ℕ, List, [], ◌∷◌, map, Option, Some, None, is_some}
use Rattle.std.specs.Prelude.{if◌then◌else◌, option_and_then}
use Rattle.serde_json.specs.Data.{Data}
use Rattle.serde_json.specs.Find.{get, as_str}
use Rattle.lalrpop_json_values.specs.declared.key.Key.{Key}
use Rattle.lalrpop_json_values.specs.declared.key.Key.TheVariants as key
use Rattle.lalrpop_json_values.specs.declared.word.Word.{Word}
use Rattle.lalrpop_json_values.specs.Key.{key_text}
use Rattle.lalrpop_json_values.specs.Objects.{is_listed}
use Rattle.lalrpop_json_values.specs.Scalars.{is_word}
use Rattle.lalrpop_json_grammar.specs.Format.{forms_of}
use Rattle.lalrpop_json_grammar.specs.Wanted.{Forms, Layout, Component}

-- all keys of the format, in byte order
abbrev pub all_keys : List Key
all_keys =
    key.Action ∷ key.Alternatives ∷ key.Arg ∷ key.Args ∷ key.Associated ∷ key.Attributes ∷ key.Bare ∷ key.CatchAll
    ∷ key.Children ∷ key.Condition ∷ key.Contents ∷ key.Conversions ∷ key.Enum ∷ key.Equal ∷ key.Expr
    ∷ key.Fallible ∷ key.From ∷ key.Group ∷ key.Id ∷ key.Items ∷ key.Kind ∷ key.Lhs ∷ key.Lifetime ∷ key.List
    ∷ key.Literal ∷ key.Look ∷ key.Map ∷ key.Mutable ∷ key.Name ∷ key.Op ∷ key.Opt ∷ key.Parameters ∷ key.Paren
    ∷ key.Path ∷ key.Place ∷ key.PubIn ∷ key.Quoted ∷ key.Ref ∷ key.Regex ∷ key.Rhs ∷ key.Rule ∷ key.Span
    ∷ key.Symbol ∷ key.Terminal ∷ key.Text ∷ key.To ∷ key.Tuple ∷ key.DeclaredType ∷ key.TypeParameters ∷ key.User
    ∷ key.Visibility ∷ key.WhereClauses ∷ []

abbrev pub keys_of_layout : Layout → List Key
keys_of_layout form = map (λ field. field.0) form

-- the first form in the table that has the key
abbrev pub first_with : Key → List Layout → Option Layout
first_with k [] = None
first_with k (form ∷ forms) = if is_listed (keys_of_layout form) (key_text k) then Some form else first_with k forms

abbrev pub with_form : Key → Option Layout → List (Key × Layout) → List (Key × Layout)
with_form k None rows = rows
with_form k (Some form) rows = (k, form) ∷ rows

-- the keys that belong to a form, each with the first form that has it
abbrev pub telling : List Key → List Layout → List (Key × Layout)
telling [] forms = []
telling (k ∷ ks) forms = with_form k (first_with k forms) (telling ks forms)

-- the form of the first of these keys that the value has
abbrev pub told_by_key : List (Key × Layout) → Data → Option Layout
told_by_key [] d = None
told_by_key (r ∷ rs) d = if is_some (get (key_text r.0) d) then Some r.1 else told_by_key rs d

-- the form of a word
abbrev pub told_by_word : List (Word × Layout) → List ℕ → Option Layout
told_by_word [] t = None
told_by_word (r ∷ rs) t = if is_word r.0 t then Some r.1 else told_by_word rs t

abbrev pub told_by_kind : List (Word × Layout) → Option Data → Data → Option Layout
told_by_kind rows None d = told_by_key (telling all_keys (map (λ r. r.1) rows)) d
told_by_kind rows (Some e) d = option_and_then (told_by_word rows) (as_str e)

-- the form that a value tells
abbrev pub chosen_form : Forms → Data → Option Layout
chosen_form (Forms.one form) d = Some form
chosen_form (Forms.by_key forms) d = told_by_key (telling all_keys forms) d
chosen_form (Forms.by_kind rows) d = told_by_kind rows (get (key_text key.Kind) d) d

abbrev pub told_form : Component → Data → Option Layout
told_form p d = chosen_form (forms_of p) d
