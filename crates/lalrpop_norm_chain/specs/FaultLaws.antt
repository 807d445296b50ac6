-- What the laws say of faults: what a pass tells of the grammar that it got stands in the written one, and where none is told,
-- none stands there.
use Rattle.std.specs.Prelude.{ℕ, ◌≡◌, Bool, List, [], Option}
use Rattle.lalrpop_grammar_symbols.specs.Symbols.{Text, TextSpan, Terminal, Closed}
use Rattle.lalrpop_grammar_symbols.specs.Views.{span_view}
use Rattle.lalrpop_grammar_symbols.specs.declared.names.NonterminalString.{NonterminalString}
use Rattle.lalrpop_grammar.specs.WrittenGrammar.{Grammar, rules_of}
use Rattle.lalrpop_grammar_language.specs.Enabled.{enabled_grammar}
use Rattle.lalrpop_grammar_rules.specs.Finding.{IsSearch}
use Rattle.lalrpop_grammar_repr.specs.declared.norm_error.NormError.{NormError}
use Rattle.lalrpop_grammar_repr.specs.declared.norm_error.NormErrorKind.{NormErrorKind}
use Rattle.lalrpop_grammar_repr.specs.declared.norm_error.NormErrorKind.TheVariants as kinds
use Rattle.lalrpop_grammar_repr.specs.declared.session.NormFault.TheVariants as faults
use Rattle.lalrpop_grammar.specs.declared.types.type_repr.TypeRepr.{TypeRepr}
use Rattle.lalrpop_norm_theory.specs.Between.{grammar_between, without_disabled}
use Rattle.lalrpop_norm_theory.specs.Depth.{IsTooDeep}
use Rattle.lalrpop_norm_theory.specs.Premises.{IsReadGrammar}
use Rattle.lalrpop_norm_theory.specs.NameFaults.{HasRightNames}
use Rattle.lalrpop_norm_theory.specs.LevelFaults.{HasRightLevels}
use Rattle.lalrpop_norm_precedence.specs.LevelExpansions.{IsLevelExpansion, IsLevelFault}
use Rattle.lalrpop_norm_prevalidate.specs.Faults.{HasNoCheckFault}
use Rattle.lalrpop_norm_keys.specs.Arity.{arity_faults, TellsArity}
use Rattle.lalrpop_norm_keys.specs.FoundCalls.{TellsOfMadeCall}
use Rattle.lalrpop_norm_keys.specs.MacroFaults.{ConditionError}
use Rattle.lalrpop_norm_theory.specs.CallPlaces.{IsPlaceBelow}
use Rattle.lalrpop_norm_token_check.specs.Checked.{IsTokenChecked}
use Rattle.lalrpop_norm_token_check.specs.Faults.{IsTokenFault}
use Rattle.lalrpop_norm_token_check.specs.Places.{FirstPlaces}
use Rattle.lalrpop_norm_tyinfer.specs.TypeFaults.{HasRuleTypes, IsTypeFault}
use Rattle.lalrpop_norm_chain.specs.PremiseLaws.{resolved_part}
use Rattle.lalrpop_norm_chain.specs.Chains.{IsMacroChain}
use Rattle.lalrpop_norm_chain.specs.MadeConditions.{HasConditionWhere, HasWrongCondition}
use Rattle.lalrpop_norm_chain.specs.TokenFaults.{enabled_places}
use Rattle.lalrpop_norm_chain.specs.StandingFaults.{IsRightToNames, IsRightToLevels, IsRightToMacros}
use Rattle.lalrpop_norm_chain.specs.StandingFaults.{IsRightToTokens, IsStandingFault}
use Rattle.lalrpop_norm_chain.specs.WrittenTypeFaults.{HasNoTypeAt}

-- the passes over what is disabled, names and levels, on a grammar that was read
pub record IsLevelChain (finds : Text → Text → Option Bool) (features : List Text) (w leveled : Grammar) : Type 0 where
  pub read : IsReadGrammar w
  pub right_names : HasRightNames (without_disabled features w)
  pub right_levels : HasRightLevels (resolved_part features w)
  pub levels : IsLevelExpansion finds (resolved_part features w) leveled

-- a fault of levels
abbrev pub LevelFaultsStand : Type 0
LevelFaultsStand =
    (finds : Text → Text → Option Bool) (deep : Text → Bool) (features : List Text) (limit : ℕ) (w : Grammar) (error : NormError)
    → IsRightToNames features w → IsLevelFault (resolved_part features w) (faults.Norm error)
    → IsStandingFault finds deep features limit w error.kind (span_view error.span)

-- where none of levels is told, none stands
abbrev pub RightLevelsAreRight : Type 0
RightLevelsAreRight =
    (features : List Text) (w : Grammar) → HasNoCheckFault w → HasRightNames (without_disabled features w)
    → HasRightLevels (resolved_part features w) → IsRightToLevels features w

-- a wrong number of arguments
abbrev pub ArityFaultsStand : Type 0
ArityFaultsStand =
    (finds : Text → Text → Option Bool) (deep : Text → Bool) (features : List Text) (limit : ℕ) (w leveled : Grammar)
    (error : NormError) → IsRightToLevels features w → IsLevelChain finds features w leveled
    → TellsArity (arity_faults (grammar_between finds leveled) (rules_of leveled.items)) (faults.Norm error)
    → IsStandingFault finds deep features limit w error.kind (span_view error.span)

-- a call that is too deep, with its place
abbrev pub DepthFaultsStand : Type 0
DepthFaultsStand =
    (finds : Text → Text → Option Bool) (deep : Text → Bool) (features : List Text) (limit : ℕ) (w leveled : Grammar) (y : Closed)
    (p : TextSpan) → IsRightToLevels features w → IsLevelChain finds features w leveled
    → IsTooDeep (grammar_between finds leveled) limit y → IsPlaceBelow (grammar_between finds leveled) limit y p
    → IsStandingFault finds deep features limit w (kinds.MacroDepth limit) p

-- a condition
abbrev pub ConditionFaultsStand : Type 0
ConditionFaultsStand =
    (finds : Text → Text → Option Bool) (deep : Text → Bool) (features : List Text) (limit : ℕ) (w leveled : Grammar)
    (error : NormError) → IsRightToLevels features w → IsLevelChain finds features w leveled
    → TellsOfMadeCall (grammar_between finds leveled) deep (faults.Norm error)
    → IsStandingFault finds deep features limit w error.kind (span_view error.span)

-- the condition limit comes only where a call that is made has an alternative under a search
abbrev pub ConditionLimitsStand : Type 0
ConditionLimitsStand =
    (finds : Text → Text → Option Bool) (deep : Text → Bool) (features : List Text) (w leveled : Grammar)
    → IsLevelChain finds features w leveled → TellsOfMadeCall (grammar_between finds leveled) deep faults.ConditionLimit
    → HasConditionWhere (grammar_between finds (without_disabled features w)) (λ t v. IsSearch t.test)

-- where none of macros is told, none stands
abbrev pub RightMacrosAreRight : Type 0
RightMacrosAreRight =
    (finds : Text → Text → Option Bool) (deep : Text → Bool) (features : List Text) (limit : ℕ) (w leveled : Grammar)
    → IsRightToLevels features w → IsLevelChain finds features w leveled
    → arity_faults (grammar_between finds leveled) (rules_of leveled.items) ≡ []
    → ((y : Closed) → IsTooDeep (grammar_between finds leveled) limit y → ⊥)
    → ((e : ConditionError) → HasWrongCondition (grammar_between finds leveled) deep e → ⊥)
    → IsRightToMacros finds deep features limit w

-- a fault of tokens, where literals are told at their first places
abbrev pub TokenFaultsStand : Type 0
TokenFaultsStand =
    (finds : Text → Text → Option Bool) (deep : Text → Bool) (features : List Text) (limit : ℕ) (w leveled expanded : Grammar)
    (first : FirstPlaces) (error : NormError) → IsRightToMacros finds deep features limit w
    → IsMacroChain finds features w leveled expanded → ((l : Terminal) → first l ≡ enabled_places features w l)
    → IsTokenFault first expanded (faults.Norm error) → IsStandingFault finds deep features limit w error.kind (span_view error.span)

-- where none is told, none stands
abbrev pub RightTokensAreRight : Type 0
RightTokensAreRight =
    (finds : Text → Text → Option Bool) (deep : Text → Bool) (features : List Text) (limit : ℕ)
    (w leveled expanded checked : Grammar) (first : FirstPlaces) → IsRightToMacros finds deep features limit w
    → IsMacroChain finds features w leveled expanded → ((l : Terminal) → first l ≡ enabled_places features w l)
    → IsTokenChecked first expanded checked → IsRightToTokens finds deep features limit w

-- a fault of types
abbrev pub TypeFaultsStand : Type 0
TypeFaultsStand =
    (finds : Text → Text → Option Bool) (deep : Text → Bool) (features : List Text) (limit : ℕ)
    (w leveled expanded checked : Grammar) (first : FirstPlaces) (error : NormError) → IsRightToTokens finds deep features limit w
    → IsMacroChain finds features w leveled expanded → IsTokenChecked first expanded checked
    → IsTypeFault checked (faults.Norm error)
    → IsStandingFault finds deep features limit w error.kind (span_view error.span)

-- where each rule has its one type, no fault stands, and no call is without type
abbrev pub NoFaultStands : Type 0
NoFaultStands =
    (finds : Text → Text → Option Bool) (deep : Text → Bool) (features : List Text) (limit : ℕ)
    (w leveled expanded checked : Grammar) (first : FirstPlaces) (table : List (NonterminalString × TypeRepr))
    → IsRightToTokens finds deep features limit w → IsMacroChain finds features w leveled expanded
    → IsTokenChecked first expanded checked → HasRuleTypes (grammar_between finds checked) (rules_of checked.items) table
    → ((kind : NormErrorKind) (p : TextSpan) → IsStandingFault finds deep features limit w kind p → ⊥)
    × ((p : TextSpan) → HasNoTypeAt (enabled_grammar finds features w) (without_disabled features w) p → ⊥)
