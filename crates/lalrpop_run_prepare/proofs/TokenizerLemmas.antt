-- What each step of the making of a scanner tells, as a refusal of the grammar; for the scanner of a grammar.
use Rattle.std.proofs.Common.{◌≡◌, ◌⊎◌, ℕ, Bool, true, false, List, inl, inr, subst}
use Rattle.std.specs.Prelude.{Option}
use Rattle.lalrpop_grammar_symbols.specs.Symbols.{Text}
use Rattle.lalrpop_grammar.specs.WrittenGrammar.{Grammar}
use Rattle.lalrpop_grammar_language.specs.Enabled.{enabled_grammar}
use Rattle.lalrpop_grammar_language.specs.Starts.{has_start}
use Rattle.lalrpop_grammar_repr.specs.declared.session.NormFault.{NormFault}
use Rattle.lalrpop_grammar_repr.specs.declared.session.NormFault.TheVariants as faults
use Rattle.lalrpop_norm.specs.Normalizing.{HasNoWrittenFault, IsNormalizable, TellsOfWritten}
use Rattle.lalrpop_norm_theory.specs.Premises.{IsReadGrammar}
use Rattle.lalrpop_run_prepare.specs.Refusals.{refusal_for}
use Rattle.lalrpop_run_prepare.specs.declared.refusals.refusing.GenerateError.{GenerateError}
use Rattle.lalrpop_run_prepare.specs.declared.refusals.refusing.GenerateError.TheVariants as errors
use Rattle.lalrpop_run_prepare.specs.Carried.{IsCarried}
use Rattle.lalrpop_run_prepare.specs.Refused.{IsGrammarRefusal, IsStartRefusal, IsUncarried}

module _ (finds : Text → Text → Option Bool) (deep : Text → Bool) (features : List Text) (limit : ℕ) (start : Text)
    (w : Grammar) (error : GenerateError) where
  pub uncarried_told : (error ≡ errors.Memory) ⊎ ((f : Text → Text → Option Bool) → IsUncarried f features w error)
      → IsGrammarRefusal finds deep features limit start w error
  uncarried_told (inl e) = IsGrammarRefusal.memory e
  uncarried_told (inr h) = IsGrammarRefusal.uncarried (h finds)

  pub fault_told : (fault : NormFault) → IsCarried finds features w → TellsOfWritten finds deep features limit w fault
      → error ≡ refusal_for fault → IsGrammarRefusal finds deep features limit start w error
  fault_told (faults.Norm told) carried h same = IsGrammarRefusal.fault told carried h same
  fault_told faults.ConditionLimit carried h same = IsGrammarRefusal.condition_limit carried h same
  fault_told faults.Memory carried h same = IsGrammarRefusal.memory same

  pub start_told : (known public : Bool) → IsCarried finds features w → HasNoWrittenFault finds deep features limit w
      → known ≡ has_start start false (enabled_grammar finds features w)
      → public ≡ has_start start true (enabled_grammar finds features w)
      → (error ≡ errors.Memory) ⊎ IsStartRefusal known public start error → IsGrammarRefusal finds deep features limit start w error
  start_told known public carried none e f (inl h) = IsGrammarRefusal.memory h
  start_told known public carried none e f (inr h) =
      IsGrammarRefusal.start carried none
      (subst (λ p. IsStartRefusal (has_start start false (enabled_grammar finds features w)) p start error) f
      (subst (λ k. IsStartRefusal k public start error) e h))

-- a grammar that was read and is carried is one that the normalizer's promises speak of
pub normalizable : (finds : Text → Text → Option Bool) (features : List Text) (w : Grammar) → IsReadGrammar w
    → IsCarried finds features w → IsNormalizable finds features w
normalizable finds features w read carried = record { read = read; recovery = carried.no_recovery }
