-- Readers of values that hold values of their own kind.
use Rattle.std.specs.Prelude.{◌≡◌, ◌<◌, ℕ, zero, suc, Result, Err}
use Rattle.serde_json.specs.Data.{Data, depth}
use Rattle.lalrpop_json_values.specs.declared.fault.Fault.{Fault}
use Rattle.lalrpop_json_values.specs.declared.fault.FaultKind.TheVariants as fault
use Rattle.lalrpop_json_values.specs.Gives.{here}

abbrev pub Reader : Type 0 → Type 0
Reader A = Data → Result A Fault

-- A form reads a value, given how what stands inside is read. So many times it is handed to itself:
abbrev pub to_depth : {A : Type 0} → (Reader A → Reader A) → ℕ → Reader A
to_depth form zero d = Err (here fault.WrongShape)
to_depth form (suc n) d = form (to_depth form n) d

-- as deep as the value is
unfoldable pub nested_reader : {A : Type 0} → (Reader A → Reader A) → Reader A
nested_reader form d = to_depth form (suc (depth d)) d

-- two readers agree on all that is less deep
abbrev pub AgreeBelow : {A : Type 0} → Data → Reader A → Reader A → Type 0
AgreeBelow d f g = (e : Data) → depth e < depth d → f e ≡ g e

-- what a form reads rests on what stands inside alone
abbrev pub IsInward : {A : Type 0} → (Reader A → Reader A) → Type 0
IsInward {A = A} form = (f g : Reader A) (d : Data) → AgreeBelow d f g → form f d ≡ form g d
