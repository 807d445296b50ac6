-- What a reader answers, beside what reading gives.
use Rattle.std.specs.Prelude.{◌≡◌, [], ◌∷◌, Result, Ok, Err, Option, Some, None}
use Rattle.lalrpop_json_values.specs.declared.fault.Fault.{Fault}
use Rattle.lalrpop_json_values.specs.declared.fault.FaultKind.{FaultKind}
use Rattle.lalrpop_json_values.specs.declared.fault.FaultKind.TheVariants as fault
use Rattle.lalrpop_json_values.specs.declared.fault.ReadError.{ReadError}
use Rattle.lalrpop_json_values.specs.declared.fault.ReadError.TheVariants as errors
use Rattle.lalrpop_json_values.specs.declared.fault.Step.{Step}

infixl 10 ◌>>=◌
abbrev pub ◌>>=◌ : {A B : Type 0} → Result A Fault → (A → Result B Fault) → Result B Fault
(Ok x) >>= f = f x
(Err e) >>= f = Err e

-- a fault of the value itself
abbrev pub here : FaultKind → Fault
here kind = record { path = []; kind = kind }

-- what has to be there
abbrev pub required_value : {A : Type 0} → Option A → Result A Fault
required_value None = Err (here fault.WrongShape)
required_value (Some x) = Ok x

-- a reading one step further in
abbrev pub within : {A : Type 0} → Step → Result A Fault → Result A Fault
within s (Ok x) = Ok x
within s (Err f) = Err (record { path = s ∷ f.path; kind = f.kind })

abbrev pub Fails : {Y : Type 0} → ReadError → Result Y Fault → Type 0
Fails errors.Memory read = Unit {0}
Fails (errors.Shape path kind) read = read ≡ Err (record { path = path; kind = kind })

-- What a function returned is what reading gives, unless memory ran out.
abbrev pub Gives : {X : Type 0} → Result X ReadError → Result X Fault → Type 0
Gives (Ok x) read = read ≡ Ok x
Gives (Err e) read = Fails e read

-- the same, where the function returns something that is seen as what is read
abbrev pub GivesBy : {X Y : Type 0} → (X → Y) → Result X ReadError → Result Y Fault → Type 0
GivesBy view (Ok x) read = read ≡ Ok (view x)
GivesBy view (Err e) read = Fails e read

-- the error of a reading one step further in
abbrev pub IsWithin : Step → ReadError → ReadError → Type 0
IsWithin s errors.Memory errors.Memory = Unit {0}
IsWithin s errors.Memory (errors.Shape path kind) = ⊥
IsWithin s (errors.Shape path kind) errors.Memory = Unit {0}
IsWithin s (errors.Shape path kind) (errors.Shape outer same) = (outer ≡ s ∷ path) × (same ≡ kind)
