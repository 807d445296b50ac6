-- Numbers, spans, texts, names and words as values.
use Rattle.std.specs.Prelude.{ℕ, ◌^◌, List, [], ◌∷◌, Result, Ok, Err, Option, Some, None, is_some, nat_lt, if◌then◌else◌}
use Rattle.std.specs.Str.{bytes_eq}
use Rattle.std.specs.Prelude.{Bool, false, ◌==◌, ◌&&◌, ◌||◌, ⊤}
use Rattle.std.specs.Char.{is_ascii_alphabetic, is_ascii_alphanumeric}
use Rattle.std.specs.List.{list_all}
use Rattle.serde_json.specs.Data.{Data, Items, no_items, item}
use Rattle.serde_json.specs.Find.{as_array, as_bool, as_null, as_number, as_str, as_u64}
use Rattle.lalrpop_grammar_symbols.specs.declared.span.Span.{Span}
use Rattle.lalrpop_json_values.specs.declared.fault.Fault.{Fault}
use Rattle.lalrpop_json_values.specs.declared.fault.FaultKind.TheVariants as fault
use Rattle.lalrpop_json_values.specs.declared.fault.Step.TheVariants as step
use Rattle.lalrpop_json_values.specs.declared.word.Word.{Word}
use Rattle.lalrpop_json_values.specs.Gives.{◌>>=◌, here, required_value, within}
use Rattle.lalrpop_json_values.specs.Word.{word_text}

-- ---- numbers and spans

abbrev pub below_limit : Option ℕ → Result ℕ Fault
below_limit None = Err (here fault.BadNumber)
below_limit (Some n) = if nat_lt n (2 ^ 32) then Ok n else Err (here fault.BadNumber)

-- a whole number below 2 ^ 32
unfoldable pub number_at : Data → Result ℕ Fault
number_at d = do
  n ← required_value (as_number d)
  below_limit (as_u64 n)

abbrev pub pair_of : Items → Option (Data × Data)
pair_of (item a (item b no_items)) = Some (a, b)
pair_of _ = None

abbrev pub ordered_span : ℕ → ℕ → Result Span Fault
ordered_span lo hi = if nat_lt hi lo then Err (here fault.BadNumber) else Ok (record { 0 = lo; 1 = hi })

-- two numbers, the first not above the second
unfoldable pub span_at : Data → Result Span Fault
span_at d = do
  ds ← required_value (as_array d)
  ends ← required_value (pair_of ds)
  lo ← within (step.Index 0) (number_at ends.0)
  hi ← within (step.Index 1) (number_at ends.1)
  ordered_span lo hi

-- ---- texts

unfoldable pub text_at : Data → Result (List ℕ) Fault
text_at d = required_value (as_str d)

abbrev pub begins_name : ℕ → Bool
begins_name c = is_ascii_alphabetic c || c == 95

abbrev pub continues_name : ℕ → Bool
continues_name c = is_ascii_alphanumeric c || c == 95

-- an ASCII letter or `_`, then ASCII letters, digits or `_`
abbrev pub is_name : List ℕ → Bool
is_name [] = false
is_name (c ∷ cs) = (is_ascii_alphabetic c || c == 95) && list_all (λ d. is_ascii_alphanumeric d || d == 95) cs

abbrev pub as_name : List ℕ → Result (List ℕ) Fault
as_name t = if is_name t then Ok t else Err (here fault.BadName)

unfoldable pub name_at : Data → Result (List ℕ) Fault
name_at d = do
  t ← required_value (as_str d)
  as_name t

abbrev pub is_word : Word → List ℕ → Bool
is_word w t = bytes_eq t (word_text w)

-- this very word
unfoldable pub word_at : Word → Data → Result ⊤ Fault
word_at w d = do
  t ← required_value (as_str d)
  if is_word w t then Ok tt else Err (here fault.WrongShape)

-- `true` or `false`
unfoldable pub flag_at : Data → Result Bool Fault
flag_at d = required_value (as_bool d)

-- nothing but `null`
unfoldable pub null_at : Data → Result ⊤ Fault
null_at d = required_value (as_null d)

-- ---- values that may be missing

abbrev pub as_some : {A : Type 0} → Result A Fault → Result (Option A) Fault
as_some read = read >>= λ x. Ok (Some x)

-- `null`, or what is read
abbrev pub optional : {A : Type 0} → (Data → Result A Fault) → Data → Result (Option A) Fault
optional read d = if is_some (as_null d) then Ok None else as_some (read d)
