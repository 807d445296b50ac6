-- What may be wrong with the conditions of a macro that is called: what the pass tells of them, and where.
use Rattle.std.specs.Prelude.{◌≡◌, Bool, Option, Some, None}
use Rattle.lalrpop_grammar_symbols.specs.Symbols.{Text, TextSpan, Terminal, Closed}
use Rattle.lalrpop_grammar_symbols.specs.Views.{span_view}
use Rattle.lalrpop_grammar.specs.WrittenGrammar.{Condition}
use Rattle.lalrpop_grammar_language.specs.Closing.{Binding, parameter_value}
use Rattle.lalrpop_grammar_rules.specs.Finding.{IsReadWhereAsked, IsSearch, IsUnread}
use Rattle.lalrpop_grammar_rules.specs.declared.closed.condition.ConditionFault.{ConditionFault}
use Rattle.lalrpop_grammar_rules.specs.declared.closed.condition.ConditionFault.TheVariants as unknown
use Rattle.lalrpop_grammar_symbols.specs.declared.span.Span.{Span}
use Rattle.lalrpop_grammar_repr.specs.declared.norm_error.NormErrorKind.{NormErrorKind}
use Rattle.lalrpop_grammar_repr.specs.declared.norm_error.NormErrorKind.TheVariants as kinds
use Rattle.lalrpop_grammar_repr.specs.declared.session.NormFault.{NormFault}
use Rattle.lalrpop_grammar_repr.specs.declared.session.NormFault.TheVariants as faults

-- a condition on something else than a quoted literal, or one whose pattern isn't read
pub data ConditionError : Type 0 where
  no_literal : TextSpan → ConditionError
  no_pattern : TextSpan → ConditionError
  other : ConditionError

abbrev pub condition_error : NormErrorKind → TextSpan → ConditionError
condition_error kinds.ConditionOnOther p = ConditionError.no_literal p
condition_error kinds.ConditionPattern p = ConditionError.no_pattern p
condition_error _ p = ConditionError.other

-- the parameter is bound to a quoted literal
abbrev pub IsQuotedLiteral : Option Closed → Type 0
IsQuotedLiteral (Some (Closed.terminal (Terminal.quoted t))) = Unit {0}
IsQuotedLiteral _ = ⊥

-- the pattern isn't read that is searched for in the literal
abbrev pub IsUnreadOf : (Text → Text → Option Bool) → (Text → Bool) → Text → Option Closed → Type 0
IsUnreadOf finds deep pattern (Some (Closed.terminal (Terminal.quoted t))) = IsUnread (finds pattern t) (deep pattern)
IsUnreadOf finds deep pattern _ = ⊥

-- what is wrong with a condition on what its parameter is bound to, at the condition's place
abbrev pub IsConditionError : (Text → Text → Option Bool) → (Text → Bool) → Condition → Option Closed → ConditionError
    → Type 0
IsConditionError finds deep c value (ConditionError.no_literal p) = (c.place ≡ p) × (IsQuotedLiteral value → ⊥)
IsConditionError finds deep c value (ConditionError.no_pattern p) =
    (c.place ≡ p) × IsSearch c.test × IsUnreadOf finds deep c.against value
IsConditionError finds deep c value ConditionError.other = ⊥

-- the same as it is told; a search may be refused, and memory may run out
abbrev pub TellsOfCondition : (Text → Text → Option Bool) → (Text → Bool) → Condition → Option Closed → NormFault → Type 0
TellsOfCondition finds deep c value (faults.Norm error) =
    IsConditionError finds deep c value (condition_error error.kind (span_view error.span))
TellsOfCondition finds deep c value faults.ConditionLimit = IsSearch c.test
TellsOfCondition finds deep c value faults.Memory = Unit {0}

-- the same of the condition of an alternative, where it has one
abbrev pub TellsOfAlternative : (Text → Text → Option Bool) → (Text → Bool) → Binding → Option Condition → NormFault
    → Type 0
TellsOfAlternative finds deep b None fault = fault ≡ faults.Memory
TellsOfAlternative finds deep b (Some c) fault = TellsOfCondition finds deep c (parameter_value b c.parameter) fault

-- what was asked of a quoted literal can be asked
abbrev pub IsAskedOfLiteral : Binding → Option Condition → Type 0
IsAskedOfLiteral b None = Unit {0}
IsAskedOfLiteral b (Some c) = IsQuotedLiteral (parameter_value b c.parameter)

-- the condition can be asked: of a quoted literal, and the pattern of a search is read
abbrev pub IsAskable : (Text → Text → Option Bool) → (Text → Bool) → Binding → Option Condition → Type 0
IsAskable finds deep b o = IsAskedOfLiteral b o × IsReadWhereAsked finds deep b o

-- what is told of a condition for which it isn't known whether it holds
abbrev pub told_fault_of : ConditionFault → Span → NormFault
told_fault_of unknown.NotRead span = faults.Norm (record { kind = kinds.ConditionPattern; span = span })
told_fault_of unknown.Refused span = faults.ConditionLimit
told_fault_of unknown.Memory span = faults.Memory
