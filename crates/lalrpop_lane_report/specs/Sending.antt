-- What a writer has of a text, by what the call answers.
use Rattle.std.specs.Prelude.{◌≡◌, ℕ, true, false, List, Option, Result, Ok, Err}
use Rattle.lalrpop_grammar_symbols.specs.Symbols.{Text}
use Rattle.lalrpop_grammar_streams.specs.Streams.{Writes}
use Rattle.lalrpop_lane_report.specs.declared.generating.ReportError.{ReportError}
use Rattle.lalrpop_lane_report.specs.declared.generating.ReportError.TheVariants as errors

-- all of it; a front of it, where the writer failed; nothing new, where memory was refused
abbrev pub HasBeenSent : {U : Type 0} → Option (List ℕ) → Option (List ℕ) → Text → Result U ReportError → Type 0
HasBeenSent old new text (Ok u) = Writes old new text false
HasBeenSent old new text (Err errors.Write) = Writes old new text true
HasBeenSent old new text (Err errors.Memory) = new ≡ old
