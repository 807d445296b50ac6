-- Which faults stand in a written grammar under features, and where: each only where none of an earlier pass does.
use Rattle.std.specs.Prelude.{ℕ, ◌≡◌, Bool, List, [], Option, map}
use Rattle.lalrpop_grammar_symbols.specs.Symbols.{Text, TextSpan, Closed}
use Rattle.lalrpop_grammar_symbols.specs.declared.names.NonterminalString.{NonterminalString}
use Rattle.lalrpop_grammar.specs.WrittenGrammar.{Grammar, rules_of}
use Rattle.lalrpop_grammar_language.specs.Among.{Among}
use Rattle.lalrpop_grammar_language.specs.Enabled.{enabled_grammar}
use Rattle.lalrpop_grammar_repr.specs.declared.norm_error.NormErrorKind.{NormErrorKind}
use Rattle.lalrpop_grammar_repr.specs.declared.norm_error.NormErrorKind.TheVariants as kinds
use Rattle.lalrpop_norm_theory.specs.Between.{grammar_between, without_disabled}
use Rattle.lalrpop_norm_theory.specs.Depth.{IsTooDeep}
use Rattle.lalrpop_norm_theory.specs.NameFaults.{IsDuplicate, NameFault, name_faults, HasRightNames}
use Rattle.lalrpop_norm_theory.specs.LevelFaults.{level_faults}
use Rattle.lalrpop_norm_precedence.specs.LevelErrors.{told_fault}
use Rattle.lalrpop_norm_prevalidate.specs.Faults.{CheckStands, HasNoCheckFault}
use Rattle.lalrpop_norm_keys.specs.Arity.{arity_faults}
use Rattle.lalrpop_norm_keys.specs.MacroFaults.{ConditionError, condition_error}
use Rattle.lalrpop_norm_theory.specs.WrittenPlaces.{IsWrittenPlace}
use Rattle.lalrpop_norm_chain.specs.MadeConditions.{HasWrongCondition}
use Rattle.lalrpop_norm_chain.specs.TokenFaults.{enabled_places, TokenFaultInWritten}
use Rattle.lalrpop_norm_chain.specs.WrittenTypeFaults.{IsDisagreeing, IsUntyped}

-- the first pass finds nothing, and nothing is wrong with names
pub record IsRightToNames (features : List Text) (w : Grammar) : Type 0 where
  pub checks : HasNoCheckFault w
  pub names : HasRightNames (without_disabled features w)

-- nor with levels
pub record IsRightToLevels (features : List Text) (w : Grammar) : Type 0 where
  pub before : IsRightToNames features w
  pub levels : level_faults (without_disabled features w) ≡ []

-- nor with numbers of arguments, depths of calls and conditions
pub record IsRightToMacros (finds : Text → Text → Option Bool) (deep : Text → Bool) (features : List Text) (limit : ℕ)
    (w : Grammar) : Type 0 where
  pub before : IsRightToLevels features w
  pub arity : arity_faults (grammar_between finds (without_disabled features w)) (rules_of (without_disabled features w).items) ≡ []
  pub depth : (x : Closed) → IsTooDeep (enabled_grammar finds features w) limit x → ⊥
  pub conditions : (e : ConditionError) → HasWrongCondition (grammar_between finds (without_disabled features w)) deep e → ⊥

-- nor with literals
pub record IsRightToTokens (finds : Text → Text → Option Bool) (deep : Text → Bool) (features : List Text) (limit : ℕ)
    (w : Grammar) : Type 0 where
  pub before : IsRightToMacros finds deep features limit w
  pub tokens : (kind : NormErrorKind) (p : TextSpan) →
      TokenFaultInWritten (enabled_places features w) (enabled_grammar finds features w) w kind p → ⊥

-- The fault stands in the written grammar, with this span.
pub data IsStandingFault (finds : Text → Text → Option Bool) (deep : Text → Bool) (features : List Text) (limit : ℕ)
    (w : Grammar) : NormErrorKind → TextSpan → Type 0 where
  check : (kind : NormErrorKind) (p : TextSpan) → CheckStands kind p w → IsStandingFault finds deep features limit w kind p
  duplicate : (n : Text) (p : TextSpan) → HasNoCheckFault w → IsDuplicate (without_disabled features w) n p
      → IsStandingFault finds deep features limit w (kinds.DuplicateDefinition n) p
  no_definition : (n : Text) (p : TextSpan) → HasNoCheckFault w
      → Among (name_faults (without_disabled features w)) (NameFault.unknown n p)
      → IsStandingFault finds deep features limit w (kinds.NoDefinition n) p
  macro_as_rule : (p : TextSpan) → HasNoCheckFault w → Among (name_faults (without_disabled features w)) (NameFault.misused p)
      → IsStandingFault finds deep features limit w kinds.MacroAsRule p
  level : (kind : NormErrorKind) (p : TextSpan) → IsRightToNames features w
      → Among (map told_fault (level_faults (without_disabled features w))) (kind, p)
      → IsStandingFault finds deep features limit w kind p
  arity : (p : TextSpan) → IsRightToLevels features w
      → Among (arity_faults (grammar_between finds (without_disabled features w)) (rules_of (without_disabled features w).items)) p
      → IsStandingFault finds deep features limit w kinds.WrongNumberOfArguments p
  depth : (x : Closed) (p : TextSpan) → IsRightToLevels features w → IsTooDeep (enabled_grammar finds features w) limit x
      → IsWrittenPlace finds features w limit x p → IsStandingFault finds deep features limit w (kinds.MacroDepth limit) p
  condition : (kind : NormErrorKind) (p : TextSpan) → IsRightToLevels features w
      → HasWrongCondition (grammar_between finds (without_disabled features w)) deep (condition_error kind p)
      → IsStandingFault finds deep features limit w kind p
  token : (kind : NormErrorKind) (p : TextSpan) → IsRightToMacros finds deep features limit w
      → TokenFaultInWritten (enabled_places features w) (enabled_grammar finds features w) w kind p
      → IsStandingFault finds deep features limit w kind p
  types_disagree : (p : TextSpan) → IsRightToTokens finds deep features limit w
      → IsDisagreeing (enabled_grammar finds features w) (without_disabled features w) p
      → IsStandingFault finds deep features limit w kinds.TypesDisagree p
  no_type : (n : NonterminalString) (p : TextSpan) → IsRightToTokens finds deep features limit w
      → IsUntyped (enabled_grammar finds features w) w.prefix (without_disabled features w) n.0 p
      → IsStandingFault finds deep features limit w (kinds.NoType n) p
