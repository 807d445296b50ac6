-- What the building of an automaton for several patterns answers.
use Rattle.std.specs.Prelude.{◌≡◌, ℕ, ◌<◌, List, Some, None, length, slice_index_or}
use Rattle.lalrpop_lexer_pattern.specs.Matches.{Pattern}
use Rattle.lalrpop_lexer_pattern.specs.Refused.{refusal}
use Rattle.lalrpop_lexer_pattern.specs.Wins.{IsFirstTie}
use Rattle.lalrpop_lexer_pattern.specs.declared.refusal.Refusal.{Refusal}
use Rattle.lalrpop_lexer_nfa.specs.Refusals.{error_of}
use Rattle.lalrpop_lexer.specs.declared.error.DfaConstructionError.{DfaConstructionError}
use Rattle.lalrpop_lexer.specs.declared.error.DfaConstructionError.TheVariants as error

-- an automaton can be made for each of the patterns below n
abbrev pub AreSupportedBelow : List Pattern → ℕ → Type 0
AreSupportedBelow ps n = (k : ℕ) → k < n → refusal (slice_index_or ps k Pattern.empty) ≡ None

abbrev pub AreSupported : List Pattern → Type 0
AreSupported ps = AreSupportedBelow ps (length ps)

-- the pattern at the index is the first one that is refused, and this is why
pub record IsFirstUnsupported (ps : List Pattern) (index : ℕ) (why : Refusal) : Type 0 where
  pub inside : index < length ps
  pub refused : refusal (slice_index_or ps index Pattern.empty) ≡ Some why
  pub before : AreSupportedBelow ps index

-- memory ran out; or this is the first refused pattern; or none is refused, and these two tie on the first word with a tie
abbrev pub IsDfaFault : List Pattern → List ℕ → DfaConstructionError → Type 0
IsDfaFault ps precedences (error.NfaConstructionError index why) = (r : Refusal) × (why ≡ error_of r) × IsFirstUnsupported ps index.0 r
IsDfaFault ps precedences (error.Ambiguity match0 match1) =
    AreSupported ps × ((w : List ℕ) × IsFirstTie ps precedences w match0.0 match1.0)
IsDfaFault ps precedences error.Memory = Unit {0}
