-- Why a written grammar gives no tokens by a start, and where it does.
use Rattle.std.specs.Prelude.{ℕ, ◌≡◌, Bool, true, false, List, Option}
use Rattle.lalrpop_grammar_symbols.specs.Symbols.{Text}
use Rattle.lalrpop_grammar_symbols.specs.Views.{span_view}
use Rattle.lalrpop_grammar.specs.WrittenGrammar.{Grammar}
use Rattle.lalrpop_grammar_language.specs.Enabled.{enabled_grammar}
use Rattle.lalrpop_grammar_language.specs.Starts.{has_start}
use Rattle.lalrpop_grammar_repr.specs.declared.norm_error.NormError.{NormError}
use Rattle.lalrpop_grammar_repr.specs.declared.session.NormFault.TheVariants as faults
use Rattle.lalrpop_norm.specs.Normalizing.{HasNoWrittenFault, IsWrittenFault, TellsOfWritten}
use Rattle.lalrpop_run_prepare.specs.declared.refusals.refusing.GenerateError.{GenerateError}
use Rattle.lalrpop_run_prepare.specs.declared.refusals.refusing.GenerateError.TheVariants as errors
use Rattle.lalrpop_run_prepare.specs.Carried.{HasExtern, HasRecovery, IsCarried}
use Rattle.lalrpop_norm_theory.specs.Premises.{HasNoExtern}

-- Nothing is there that isn't carried, no fault stands, and a public rule is the start.
pub record IsGenerable (finds : Text → Text → Option Bool) (deep : Text → Bool) (features : List Text) (limit : ℕ) (start : Text)
    (w : Grammar) : Type 0 where
  pub carried : IsCarried finds features w
  pub faultless : HasNoWrittenFault finds deep features limit w
  pub starts : has_start start true (enabled_grammar finds features w) ≡ true

-- an extern block; else error recovery
pub data IsUncarried (finds : Text → Text → Option Bool) (features : List Text) (w : Grammar) (error : GenerateError) :
    Type 0 where
  extern_block : HasExtern w → error ≡ errors.Extern → IsUncarried finds features w error
  recovery : HasNoExtern w → HasRecovery (enabled_grammar finds features w) → error ≡ errors.Recovery
      → IsUncarried finds features w error

-- whether some rule can be the start, and whether a public one can
pub data IsStartRefusal (known public : Bool) (start : Text) (error : GenerateError) : Type 0 where
  unknown : known ≡ false → error ≡ errors.UnknownStart start → IsStartRefusal known public start error
  private : known ≡ true → public ≡ false → error ≡ errors.PrivateStart start → IsStartRefusal known public start error

-- The refusals in their order: what isn't carried; a fault of the grammar, with its place, or a search that was given up for a
-- pattern's size; the start. Memory may run out at any time.
pub data IsGrammarRefusal (finds : Text → Text → Option Bool) (deep : Text → Bool) (features : List Text) (limit : ℕ) (start : Text)
    (w : Grammar) (error : GenerateError) : Type 0 where
  uncarried : IsUncarried finds features w error → IsGrammarRefusal finds deep features limit start w error
  fault : (told : NormError) → IsCarried finds features w
      → IsWrittenFault finds deep features limit w told.kind (span_view told.span) → error ≡ errors.Norm told
      → IsGrammarRefusal finds deep features limit start w error
  condition_limit : IsCarried finds features w → TellsOfWritten finds deep features limit w faults.ConditionLimit
      → error ≡ errors.ConditionLimit → IsGrammarRefusal finds deep features limit start w error
  start : IsCarried finds features w → HasNoWrittenFault finds deep features limit w
      → IsStartRefusal (has_start start false (enabled_grammar finds features w))
      (has_start start true (enabled_grammar finds features w)) start error
      → IsGrammarRefusal finds deep features limit start w error
  memory : error ≡ errors.Memory → IsGrammarRefusal finds deep features limit start w error
