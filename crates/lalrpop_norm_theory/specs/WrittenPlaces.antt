-- Where a call stands in the written grammar: in an alternative, or at the rule of which one level passes down to another.
use Rattle.std.specs.Prelude.{ℕ, ◌≡◌, ◌≢◌, ◌⊎◌, Bool, List, [], Option, Some, length}
use Rattle.lalrpop_grammar_symbols.specs.Symbols.{Text, TextSpan, Closed, Closeds, closed_list}
use Rattle.lalrpop_grammar.specs.WrittenGrammar.{Rule, Grammar, rules_of}
use Rattle.lalrpop_grammar_language.specs.Among.{Among}
use Rattle.lalrpop_grammar_language.specs.Enabled.{EnabledGrammar, EnabledRule, IsRule, enabled_grammar}
use Rattle.lalrpop_grammar_language.specs.Levels.{tighter}
use Rattle.lalrpop_norm_theory.specs.Between.{without_disabled}
use Rattle.lalrpop_norm_theory.specs.CallPlaces.{IsMadeAt, IsPlaceOfCall}

-- The call y of a macro passes down to x, the same call at the next tighter level, and the macro is written there.
pub record IsPassDownAt (g : EnabledGrammar) (d : Grammar) (y x : Closed) (p : TextSpan) : Type 0 where
  pub name : Text
  pub args : Closeds
  pub from : ℕ
  pub to : ℕ
  pub from_is : y ≡ Closed.call name args (Some from)
  pub to_is : x ≡ Closed.call name args (Some to)
  pub rule : EnabledRule
  pub is_rule : IsRule g name rule
  pub arguments : length (closed_list args) ≡ length rule.parameters
  pub is_macro : rule.parameters ≢ []
  pub passes : tighter rule from ≡ Some to
  pub written : Rule
  pub among : Among (rules_of d.items) written
  pub name_is : written.name ≡ name
  pub span_is : written.span ≡ p

-- where the call x stands in the call y, or in the rule y
abbrev pub IsWrittenIn : EnabledGrammar → Grammar → Closed → Closed → TextSpan → Type 0
IsWrittenIn g d y x p = IsPlaceOfCall g y x p ⊎ IsPassDownAt g d y x p

-- the call stands there in one of that depth
abbrev pub IsWrittenBelow : EnabledGrammar → Grammar → ℕ → Closed → TextSpan → Type 0
IsWrittenBelow g d depth x p = (y : Closed) × IsMadeAt g depth y × (IsPlaceOfCall g y x p ⊎ IsPassDownAt g d y x p)

-- the same of a written grammar under features
abbrev pub IsWrittenPlace : (Text → Text → Option Bool) → List Text → Grammar → ℕ → Closed → TextSpan → Type 0
IsWrittenPlace finds features w depth x p =
    IsWrittenBelow (enabled_grammar finds features w) (without_disabled features w) depth x p
