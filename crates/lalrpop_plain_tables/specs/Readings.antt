-- What is told where no productions are read: for the contract of reading them.
use Rattle.std.specs.Prelude.{ℕ, ◌≡◌, List}
use Rattle.lalrpop_plain_tables.specs.Lines.{IsFaultOfLines}
use Rattle.lalrpop_plain_tables.specs.declared.lines.error.LinesError.TheVariants as lines
use Rattle.lalrpop_plain_tables.specs.declared.answers.fault.AnswerFault.{AnswerFault}
use Rattle.lalrpop_plain_tables.specs.declared.answers.fault.AnswerFault.TheVariants as faults

-- A fault of the lines stands in them, and is never want of memory, which is told by its own name.
abbrev pub IsFaultOfReading : List ℕ → AnswerFault → Type 0
IsFaultOfReading text (faults.Lines error) = (error ≡ lines.Memory → ⊥) × IsFaultOfLines text error
IsFaultOfReading text faults.Terminals = Unit {0}
IsFaultOfReading text faults.NotAlone = ⊥
IsFaultOfReading text faults.Barren = ⊥
IsFaultOfReading text faults.Conflicts = ⊥
IsFaultOfReading text faults.Limit = ⊥
IsFaultOfReading text faults.Memory = Unit {0}
