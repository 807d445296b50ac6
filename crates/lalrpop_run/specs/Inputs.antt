-- What bytes are read as: JSON, and what its value gives.
use Rattle.std.specs.Prelude.{◌≡◌, ℕ, List, Option, Some, None, Result, Ok, Err, IsUtf8}
use Rattle.serde_json.specs.Data.{Data}
use Rattle.serde_json.specs.Read.{read}
use Rattle.lalrpop_json_document.specs.DocumentViews.{view}
use Rattle.lalrpop_json_document.specs.declared.value.JsonValue.{JsonValue}
use Rattle.lalrpop_json_values.specs.declared.fault.Fault.{Fault}
use Rattle.lalrpop_run.specs.declared.questions.input.Input.{Input}
use Rattle.lalrpop_run.specs.declared.questions.input.Input.TheVariants as inputs

-- the bytes are a text, and the text is JSON for this value
abbrev pub IsJsonOf : List ℕ → Data → Type 0
IsJsonOf bytes d = IsUtf8 bytes × (read bytes ≡ Some d)

abbrev pub IsNoJson : List ℕ → Type 0
IsNoJson bytes = (d : Data) → IsJsonOf bytes d → ⊥

-- the value, or none where the bytes spell none
abbrev pub SpelledBy : List ℕ → Option JsonValue → Type 0
SpelledBy bytes (Some value) = IsJsonOf bytes (view value)
SpelledBy bytes None = IsNoJson bytes

-- what a reader of values gives, or its first fault
abbrev pub IsInputFor : {T : Type 0} → Result T Fault → Input T → Type 0
IsInputFor given (inputs.Value t) = given ≡ Ok t
IsInputFor given inputs.NotJson = ⊥
IsInputFor given (inputs.Fault f) = given ≡ Err f

-- what the bytes give by a reader of values: a thing, its first fault, or nothing, since they are no JSON
abbrev pub IsInput : {T : Type 0} → (Data → Result T Fault) → List ℕ → Input T → Type 0
IsInput given bytes (inputs.Value t) = (d : Data) × (IsJsonOf bytes d × (given d ≡ Ok t))
IsInput given bytes inputs.NotJson = IsNoJson bytes
IsInput given bytes (inputs.Fault f) = (d : Data) × (IsJsonOf bytes d × (given d ≡ Err f))
