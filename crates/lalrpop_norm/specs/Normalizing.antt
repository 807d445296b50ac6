-- What is asked of a written grammar that is normalized, and what may be told of one.
use Rattle.std.specs.Prelude.{ℕ, ◌≡◌, ◌<◌, ◌^◌, Bool, List, Option, length}
use Rattle.lalrpop_grammar_symbols.specs.Symbols.{Text, TextSpan}
use Rattle.lalrpop_grammar_symbols.specs.Views.{span_view}
use Rattle.lalrpop_grammar.specs.WrittenGrammar.{Grammar}
use Rattle.lalrpop_grammar_rules.specs.Finding.{IsSearch}
use Rattle.lalrpop_grammar_language.specs.Among.{Among}
use Rattle.lalrpop_grammar_language.specs.Enabled.{EnabledGrammar, enabled_grammar}
use Rattle.lalrpop_grammar_language.specs.Expansion.{InExpansion, IsWrittenProduction, Produces, RightSide, WrittenLabel}
use Rattle.lalrpop_grammar_repr.specs.declared.norm_error.NormErrorKind.{NormErrorKind}
use Rattle.lalrpop_grammar_repr.specs.declared.norm_error.NormErrorKind.TheVariants as kinds
use Rattle.lalrpop_grammar_repr.specs.declared.session.NormFault.{NormFault}
use Rattle.lalrpop_grammar_repr.specs.declared.session.NormFault.TheVariants as faults
use Rattle.lalrpop_norm_theory.specs.Between.{grammar_between, without_disabled}
use Rattle.lalrpop_norm_theory.specs.Premises.{IsReadGrammar, HasNoRecovery}
use Rattle.lalrpop_norm_keys.specs.Tables.{HasEachOnce}
use Rattle.lalrpop_norm_chain.specs.MadeConditions.{HasConditionWhere}
use Rattle.lalrpop_norm_chain.specs.StandingFaults.{IsRightToLevels, IsRightToTokens, IsStandingFault}
use Rattle.lalrpop_norm_chain.specs.WrittenTypeFaults.{HasNoTypeAt, IsDisagreeing}

-- The grammar looks as one that was read, and no enabled alternative has the symbol of error recovery.
pub record IsNormalizable (finds : Text → Text → Option Bool) (features : List Text) (w : Grammar) : Type 0 where
  pub read : IsReadGrammar w
  pub recovery : HasNoRecovery (enabled_grammar finds features w)

-- nothing up to tokens is wrong, nor are types
pub record IsRightToTypes (finds : Text → Text → Option Bool) (deep : Text → Bool) (features : List Text) (limit : ℕ)
    (w : Grammar) : Type 0 where
  pub before : IsRightToTokens finds deep features limit w
  pub agree : (p : TextSpan) → IsDisagreeing (enabled_grammar finds features w) (without_disabled features w) p → ⊥
  pub typed : (p : TextSpan) → HasNoTypeAt (enabled_grammar finds features w) (without_disabled features w) p → ⊥

-- the label is one of the expansion
abbrev pub IsLabelOf : EnabledGrammar → WrittenLabel → Type 0
IsLabelOf g label = InExpansion g label.head × (side : RightSide) × IsWrittenProduction g label side

-- The expansion has more labels than there are numbers for actions.
pub record HasTooManyLabels (g : EnabledGrammar) : Type 0 where
  pub labels : List WrittenLabel
  pub each : (label : WrittenLabel) → Among labels label → InExpansion g label.head
      × (side : RightSide) × Produces g label.head label.choice side
  pub once : HasEachOnce labels
  pub many : 2 ^ 32 < length labels

-- The fault stands in the written grammar with this span; the last one where none of types does.
pub data IsWrittenFault (finds : Text → Text → Option Bool) (deep : Text → Bool) (features : List Text) (limit : ℕ)
    (w : Grammar) : NormErrorKind → TextSpan → Type 0 where
  standing : (kind : NormErrorKind) (p : TextSpan) → IsStandingFault finds deep features limit w kind p
      → IsWrittenFault finds deep features limit w kind p
  actions : (p : TextSpan) → IsRightToTypes finds deep features limit w → HasTooManyLabels (enabled_grammar finds features w)
      → w.span ≡ p → IsWrittenFault finds deep features limit w kinds.TooManyActions p

-- None stands, and no call is without type.
pub record HasNoWrittenFault (finds : Text → Text → Option Bool) (deep : Text → Bool) (features : List Text) (limit : ℕ)
    (w : Grammar) : Type 0 where
  pub none : (kind : NormErrorKind) (p : TextSpan) → IsWrittenFault finds deep features limit w kind p → ⊥
  pub typed : (p : TextSpan) → HasNoTypeAt (enabled_grammar finds features w) (without_disabled features w) p → ⊥

-- A fault that stands is told with its place; or a search was given up for a pattern's size, where levels are right and an
-- alternative of a call that is made is under a search; or memory ran out.
abbrev pub TellsOfWritten : (Text → Text → Option Bool) → (Text → Bool) → List Text → ℕ → Grammar → NormFault → Type 0
TellsOfWritten finds deep features limit w (faults.Norm error) =
    IsWrittenFault finds deep features limit w error.kind (span_view error.span)
TellsOfWritten finds deep features limit w faults.ConditionLimit =
    IsRightToLevels features w × HasConditionWhere (grammar_between finds (without_disabled features w)) (λ t v. IsSearch t.test)
TellsOfWritten finds deep features limit w faults.Memory = Unit {0}
