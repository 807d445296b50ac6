-- From what readers tell to the laws; for all functions of the laws.
use Rattle.std.proofs.Common.{◌≡◌, Result, Ok, Err, subst}
use Rattle.serde_json.specs.Data.{Data}
use Rattle.lalrpop_json_values.specs.declared.fault.Fault.{Fault}
use Rattle.lalrpop_json_grammar.specs.Faults.{IsFaultOfValue}
use Rattle.lalrpop_json_grammar.specs.FaultLaws.{TellsFirstFaults, Told}
use Rattle.lalrpop_json_grammar.specs.Wanted.{Wanted}
use Rattle.lalrpop_json_grammar.proofs.FieldLemmas.{Tells}

-- a reading that tells a fault
pub told_fault : {A : Type 0} (w : Wanted) (d : Data) (r : Result A Fault) (f : Fault) → Tells w d r → r ≡ Err f
    → Told (λ g. IsFaultOfValue w d g) d f
told_fault {A = A} w d r f tells e = let h = subst (λ (x : Result A Fault). Tells w d x) e tells in (h.0, λ order. (h.0, h.1 order))

-- a reading that goes well
pub no_fault : {A : Type 0} (w : Wanted) (d : Data) (r : Result A Fault) (x : A) → Tells w d r → r ≡ Ok x → (f : Fault)
    → IsFaultOfValue w d f → ⊥
no_fault {A = A} w d r x tells e = subst (λ (y : Result A Fault). Tells w d y) e tells

-- both
pub first_faults : {A : Type 0} (w : Wanted) (reading : Data → Result A Fault) → ((d : Data) → Tells w d (reading d))
    → TellsFirstFaults w reading
first_faults w reading tells =
    (λ d f e. told_fault w d (reading d) f (tells d) e, λ d x e. no_fault w d (reading d) x (tells d) e)
