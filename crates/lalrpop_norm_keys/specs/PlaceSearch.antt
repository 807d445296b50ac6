-- What the search for the place of a call answers, of a symbol, of several, of an alternative, of a rule and of calls.
use Rattle.std.specs.Prelude.{ℕ, ◌+◌, ◌≡◌, ◌⊎◌, Bool, true, List, [], ◌∷◌, Option, Some, None}
use Rattle.lalrpop_grammar_symbols.specs.Symbols.{Closed, TextSpan, WrittenSymbol}
use Rattle.lalrpop_grammar_symbols.specs.Views.{span_view}
use Rattle.lalrpop_grammar_symbols.specs.declared.span.Span.{Span}
use Rattle.lalrpop_grammar_language.specs.Among.{Among}
use Rattle.lalrpop_grammar_language.specs.Enabled.{EnabledGrammar, EnabledRule, Choice}
use Rattle.lalrpop_grammar_language.specs.Levels.{Rank}
use Rattle.lalrpop_grammar_language.specs.Closing.{Binding, Scope, close, occurrences, right_side}
use Rattle.lalrpop_grammar_language.specs.Conditions.{Holds}
use Rattle.lalrpop_norm_theory.specs.Depth.{calls_in, calls_in_all}
use Rattle.lalrpop_norm_theory.specs.Premises.{HasNoLevels}
use Rattle.lalrpop_grammar_rules.specs.Views.{closeds}
use Rattle.lalrpop_norm_theory.specs.CallPlaces.{CountedSymbol, IsInnermost, IsPlaceInSide, IsPlaceOfCall, calls_at, counted_symbols}
use Rattle.lalrpop_norm_keys.specs.StandingCalls.{CallStandsIn}

-- the place of the call in a symbol, or none where it isn't one of its calls
abbrev pub IsFoundAt : Scope → CountedSymbol → Closed → Option Span → Type 0
IsFoundAt s z x None = Among (calls_at s z) x → ⊥
IsFoundAt s z x (Some span) = IsInnermost s z x (span_view span)

-- the same wherever the written symbol closes to that one
abbrev pub IsFoundIn : WrittenSymbol → Closed → Closed → Option Span → Type 0
IsFoundIn w c x span = (s : Scope) (k : ℕ) → close s k w ≡ c → IsFoundAt s (k, w) x span

-- the written symbols close to these, one by one, but that some are faulty; what isn't passes the test
abbrev pub IsClosedAs : Scope → (Closed → Bool) → ℕ → WrittenSymbol → Closed → Type 0
IsClosedAs s f k w c = (f (close s k w) ≡ true) × (close s k w ≡ c) ⊎ (c ≡ Closed.faulty)

abbrev pub AreClosedAs : Scope → (Closed → Bool) → ℕ → List WrittenSymbol → List Closed → Type 0
AreClosedAs s f k [] [] = Unit {0}
AreClosedAs s f k [] (c ∷ cs) = ⊥
AreClosedAs s f k (w ∷ ws) [] = ⊥
AreClosedAs s f k (w ∷ ws) (c ∷ cs) = IsClosedAs s f k w c × AreClosedAs s f (k + occurrences s.binding s.owner w) ws cs

-- the place of the call in one of several symbols
abbrev pub IsFoundInRow : Scope → (Closed → Bool) → ℕ → List WrittenSymbol → List Closed → Closed → Option Span → Type 0
IsFoundInRow s f k ws cs x None = Among (calls_in_all (closeds cs)) x → ⊥
IsFoundInRow s f k ws cs x (Some span) =
    (z : CountedSymbol) × Among (counted_symbols s.binding s.owner k ws) z × (f (close s z.0 z.1) ≡ true)
    × IsInnermost s z x (span_view span)

-- the same wherever they close to those
abbrev pub IsFoundAmong : List WrittenSymbol → List Closed → Closed → Option Span → Type 0
IsFoundAmong ws cs x span = (s : Scope) (f : Closed → Bool) (k : ℕ) → AreClosedAs s f k ws cs → IsFoundInRow s f k ws cs x span

-- the place of the call in one of these alternatives whose condition holds
abbrev pub IsFoundInSides : EnabledGrammar → EnabledRule → Binding → List (Choice × Option Rank) → Closed → Option Span
    → Type 0
IsFoundInSides g r b ps x None =
    (p : Choice × Option Rank) → Among ps p → Holds g b p.0.condition → Among (calls_in_all (closeds (right_side g r b p))) x → ⊥
IsFoundInSides g r b ps x (Some span) =
    (p : Choice × Option Rank) × Among ps p × Holds g b p.0.condition × IsPlaceInSide g r b p x (span_view span)

-- the place of the call in one of these calls
abbrev pub IsFoundInCalls : EnabledGrammar → List Closed → Closed → Option Span → Type 0
IsFoundInCalls g ys x None = (y : Closed) → Among ys y → CallStandsIn g y x → ⊥
IsFoundInCalls g ys x (Some span) = (y : Closed) × Among ys y × (HasNoLevels g → IsPlaceOfCall g y x (span_view span))

-- the symbol's own place, where it closes to one that has the call
abbrev pub HasOwnPlace : TextSpan → Closed → Closed → Option Span → Type 0
HasOwnPlace p c x None = Among (calls_in c) x → ⊥
HasOwnPlace p c x (Some span) = Among (calls_in c) x × (p ≡ span_view span)
