-- The text of a fault.
use Rattle.std.specs.Prelude.{ℕ, List, [], ◌∷◌, ◌++◌, codes, decimal}
use Rattle.lalrpop_json_values.specs.JsonText.{json_text}
use Rattle.lalrpop_json_values.specs.declared.fault.Fault.{Fault}
use Rattle.lalrpop_json_values.specs.declared.fault.FaultKind.{FaultKind}
use Rattle.lalrpop_json_values.specs.declared.fault.FaultKind.TheVariants as fault
use Rattle.lalrpop_json_values.specs.declared.fault.ReadError.{ReadError}
use Rattle.lalrpop_json_values.specs.declared.fault.ReadError.TheVariants as errors
use Rattle.lalrpop_json_values.specs.declared.fault.Step.{Step}
use Rattle.lalrpop_json_values.specs.declared.fault.Step.TheVariants as step
use Rattle.lalrpop_json_values.specs.Key.{key_text}

abbrev pub step_text : Step → List ℕ
step_text (step.Key k) = key_text k
step_text (step.Index i) = decimal i

-- a slash before each step
abbrev pub path_text : List Step → List ℕ
path_text [] = []
path_text (s ∷ ss) = (47 ∷ []) ++ step_text s ++ path_text ss

abbrev pub keyed_text : List ℕ → List ℕ → List ℕ
keyed_text words key = words ++ json_text key

abbrev pub kind_text : FaultKind → List ℕ
kind_text (fault.MissingKey k) = keyed_text (codes "missing key ") (key_text k)
kind_text (fault.UnknownKey name) = keyed_text (codes "unknown key ") name
kind_text fault.WrongShape = codes "wrong shape"
kind_text fault.BadName = codes "bad name"
kind_text fault.BadNumber = codes "bad number"

abbrev pub fault_text : Fault → List ℕ
fault_text f = kind_text f.kind ++ codes " at " ++ json_text (path_text f.path)

abbrev pub read_error_text : ReadError → List ℕ
read_error_text (errors.Shape path kind) = fault_text (record { path = path; kind = kind })
read_error_text errors.Memory = codes "out of memory"
