-- How the program refuses words.
use Rattle.std.specs.Prelude.{◌≡◌, ◌≢◌, ⊤}
use Rattle.clap.specs.Kinds.{IsAmong, Kinds}
use Rattle.clap.specs.Values.{kind_of}
use Rattle.clap.specs.declared.error.Error.{Error}
use Rattle.clap.specs.declared.error.kind.ErrorKind.TheVariants.{OutOfMemory}
use Rattle.lalrpop_run_options.specs.declared.fault.OptionsError.{OptionsError}
use Rattle.lalrpop_run_options.specs.declared.fault.OptionsError.TheVariants.{Memory, Words}

-- an error of `clap` becomes `Memory` where it is a want of memory, and else stays as it is
abbrev pub IsRefusalOf : Error → OptionsError → Type 0
IsRefusalOf error (Words e) = (e ≡ error) × (kind_of error ≢ OutOfMemory)
IsRefusalOf error Memory = kind_of error ≡ OutOfMemory

-- what is carried on as a fault of the words is no want of memory
abbrev pub IsOwnRefusal : OptionsError → Type 0
IsOwnRefusal (Words e) = kind_of e ≢ OutOfMemory
IsOwnRefusal Memory = ⊤

-- a fault of the words is of one of these kinds
abbrev pub RefusesBy : Kinds → OptionsError → Type 0
RefusesBy kinds (Words e) = IsAmong (kind_of e) kinds
RefusesBy kinds Memory = ⊤
