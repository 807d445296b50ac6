-- Lists, read from the front.
use Rattle.std.specs.Prelude.{ℕ, ◌+◌, List, [], ◌∷◌, ◌++◌, Result, Ok}
use Rattle.serde_json.specs.Data.{Data, Items, no_items, item}
use Rattle.serde_json.specs.Find.{as_array}
use Rattle.lalrpop_json_values.specs.declared.fault.Fault.{Fault}
use Rattle.lalrpop_json_values.specs.declared.fault.Step.TheVariants as step
use Rattle.lalrpop_json_values.specs.Gives.{◌>>=◌, required_value, within}

abbrev pub with_first : {A : Type 0} → A → Result (List A) Fault → Result (List A) Fault
with_first x read = read >>= λ xs. Ok (x ∷ xs)

-- a reading of a list, behind what was read before
abbrev pub with_front : {A : Type 0} → List A → Result (List A) Fault → Result (List A) Fault
with_front front read = read >>= λ xs. Ok (front ++ xs)

-- each value in turn, from an index on
abbrev pub list_from : {A : Type 0} → (ℕ → Data → Result A Fault) → ℕ → Items → Result (List A) Fault
list_from read i no_items = Ok []
list_from read i (item d ds) = within (step.Index i) (read i d) >>= λ x. with_first x (list_from read (i + 1) ds)

unfoldable pub list_at : {A : Type 0} → (ℕ → Data → Result A Fault) → Data → Result (List A) Fault
list_at read d = do
  ds ← required_value (as_array d)
  list_from read 0 ds
