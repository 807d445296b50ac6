-- What a function hands on that reads one part after another, where a part isn't read or memory runs out.
use Rattle.std.proofs.Common.{◌≡◌, Result, Ok, Err, refl}
use Rattle.std.specs.Prelude.{IsErrAnd}
use Rattle.lalrpop_json_values.specs.declared.fault.Fault.{Fault}
use Rattle.lalrpop_json_values.specs.declared.fault.ReadError.{ReadError}
use Rattle.lalrpop_json_values.specs.declared.fault.ReadError.TheVariants.{Memory, Shape}
use Rattle.lalrpop_json_values.specs.Gives.{◌>>=◌, Fails, Gives}

fails_on : {X Y : Type 0} (e : ReadError) (m : Result X Fault) (k : X → Result Y Fault) → Fails e m → Fails e (m >>= k)
fails_on Memory m k fails = tt
fails_on (Shape path kind) m k fails = rw fails refl

-- where a part isn't read, nothing is
pub handed_on : {X Y : Type 0} (r : Result Y ReadError) (e : ReadError) (m : Result X Fault) (k : X → Result Y Fault)
    → IsErrAnd r (λ x. x ≡ e) → Fails e m → Gives r (m >>= k)
handed_on (Ok x) e m k is fails = absurd is
handed_on (Err x) e m k is fails = rw is (fails_on e m k fails)

-- what isn't read is handed on as it is
pub failed : {Y : Type 0} (r : Result Y ReadError) (e : ReadError) (m : Result Y Fault) → IsErrAnd r (λ x. x ≡ e) → Fails e m → Gives r m
failed (Ok x) e m is fails = absurd is
failed (Err x) e m is fails = rw is fails

-- a want of memory says nothing of the value
pub no_memory : {Y : Type 0} (r : Result Y ReadError) (m : Result Y Fault) → IsErrAnd r (λ x. x ≡ Memory) → Gives r m
no_memory (Ok x) m is = absurd is
no_memory (Err x) m is = rw is tt
