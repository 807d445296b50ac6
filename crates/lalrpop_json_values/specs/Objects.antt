-- The members of an object: which there must be, and what stands at each.
use Rattle.std.specs.Prelude.{ℕ, List, [], ◌∷◌, ⊤, Result, Ok, Err, Option, Some, None, is_some, if◌then◌else◌, Bool, true}
use Rattle.std.specs.Str.{bytes_eq}
use Rattle.std.specs.Prelude.{false}
use Rattle.serde_json.specs.Data.{Data, Members, no_members, member}
use Rattle.serde_json.specs.Find.{get, as_object}
use Rattle.lalrpop_json_values.specs.declared.fault.Fault.{Fault}
use Rattle.lalrpop_json_values.specs.declared.fault.FaultKind.{FaultKind}
use Rattle.lalrpop_json_values.specs.declared.fault.FaultKind.TheVariants as fault
use Rattle.lalrpop_json_values.specs.declared.fault.Step.TheVariants as step
use Rattle.lalrpop_json_values.specs.declared.key.Key.{Key}
use Rattle.lalrpop_json_values.specs.Key.{key_text}
use Rattle.lalrpop_json_values.specs.Gives.{◌>>=◌, here, required_value, within}

abbrev pub names : Members → List (List ℕ)
names no_members = []
names (member k d ms) = k ∷ names ms

-- the members are named so, in this order
abbrev pub are_named : List Key → List (List ℕ) → Bool
are_named [] [] = true
are_named [] (l ∷ ls) = false
are_named (k ∷ ks) [] = false
are_named (k ∷ ks) (l ∷ ls) = if bytes_eq (key_text k) l then are_named ks ls else false

abbrev pub first_missing : List Key → Data → Option Key
first_missing [] d = None
first_missing (k ∷ ks) d = if is_some (get (key_text k) d) then first_missing ks d else Some k

abbrev pub is_listed : List Key → List ℕ → Bool
is_listed [] l = false
is_listed (k ∷ ks) l = if bytes_eq (key_text k) l then true else is_listed ks l

abbrev pub first_unknown : List Key → List (List ℕ) → Option (List ℕ)
first_unknown ks [] = None
first_unknown ks (l ∷ ls) = if is_listed ks l then first_unknown ks ls else Some l

-- What is wrong with the keys of an object, where they aren't the wanted ones: the first that is missing, else the
-- first that is unknown. The last case is of members out of order or doubled, which no value that was read has.
abbrev pub unknown_fault : Option (List ℕ) → FaultKind
unknown_fault (Some l) = fault.UnknownKey l
unknown_fault None = fault.WrongShape

abbrev pub keys_fault : Option Key → Option (List ℕ) → FaultKind
keys_fault (Some k) unknown = fault.MissingKey k
keys_fault None unknown = unknown_fault unknown

-- an object with these keys and no others; the keys are in byte order
unfoldable pub keys_at : List Key → Data → Result ⊤ Fault
keys_at ks d = do
  ms ← required_value (as_object d)
  if are_named ks (names ms) then Ok tt else Err (here (keys_fault (first_missing ks d) (first_unknown ks (names ms))))

-- the value at a key
unfoldable pub member_at : Key → Data → Result Data Fault
member_at k d = required_value (get (key_text k) d)

-- the value at a key, read
unfoldable pub field_at : {A : Type 0} → Key → (Data → Result A Fault) → Data → Result A Fault
field_at k read d = do
  e ← required_value (get (key_text k) d)
  within (step.Key k) (read e)
