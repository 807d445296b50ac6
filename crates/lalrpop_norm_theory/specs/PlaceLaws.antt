-- What the laws say of the places of calls: each pass takes a place back to the grammar that it got.
use Rattle.std.specs.Prelude.{ℕ, suc, ◌≡◌, Bool, List, Option}
use Rattle.lalrpop_grammar_symbols.specs.Symbols.{Text, TextSpan, Closed}
use Rattle.lalrpop_grammar.specs.WrittenGrammar.{Grammar}
use Rattle.lalrpop_grammar_language.specs.Enabled.{EnabledGrammar, enabled_grammar}
use Rattle.lalrpop_norm_theory.specs.Between.{grammar_between, without_disabled}
use Rattle.lalrpop_norm_theory.specs.Depth.{HasCallChain, IsTooDeep}
use Rattle.lalrpop_norm_theory.specs.Premises.{IsReadGrammar}
use Rattle.lalrpop_norm_theory.specs.LevelRules.{by_level_names}
use Rattle.lalrpop_norm_theory.specs.Resolving.{resolved_grammar}
use Rattle.lalrpop_norm_theory.specs.LeveledGrammar.{leveled_grammar}
use Rattle.lalrpop_norm_theory.specs.LevelLaws.{IsLevelable}
use Rattle.lalrpop_norm_theory.specs.CallPlaces.{IsPlaceBelow}
use Rattle.lalrpop_norm_theory.specs.WrittenPlaces.{IsWrittenBelow, IsWrittenPlace}

-- what has a place below a depth is a call, to which a chain one longer leads
abbrev pub PlacedCallsAreMade : Type 0
PlacedCallsAreMade =
    (g : EnabledGrammar) (d : Grammar) (depth : ℕ) (x : Closed) (p : TextSpan) → IsWrittenBelow g d depth x p
    → HasCallChain g (suc depth) x

-- A place in the grammar in which each level has a rule of its own is the place of a call before, under the names of the levels;
-- that of a rule's pass to a tighter level is the rule's.
abbrev pub LevelsKeepPlaces : Type 0
LevelsKeepPlaces =
    (finds : Text → Text → Option Bool) (g : Grammar) (f : Text → ℕ → Text) → IsLevelable finds g f → (depth : ℕ)
    (y : Closed) (p : TextSpan) → IsPlaceBelow (grammar_between finds (leveled_grammar f g)) depth y p
    → (x : Closed) × (y ≡ by_level_names f x) × IsWrittenBelow (grammar_between finds g) g depth x p

-- a place in the grammar whose names are resolved is one before
abbrev pub ResolvingKeepsPlaces : Type 0
ResolvingKeepsPlaces =
    (finds : Text → Text → Option Bool) (g : Grammar) (depth : ℕ) (x : Closed) (p : TextSpan)
    → IsWrittenBelow (grammar_between finds (resolved_grammar g)) (resolved_grammar g) depth x p
    → IsWrittenBelow (grammar_between finds g) g depth x p

-- a place in what is left under the features is one in the written grammar
abbrev pub DroppingKeepsPlaces : Type 0
DroppingKeepsPlaces =
    (finds : Text → Text → Option Bool) (features : List Text) (w : Grammar) → IsReadGrammar w → (depth : ℕ) (x : Closed)
    (p : TextSpan) → IsWrittenBelow (grammar_between finds (without_disabled features w)) (without_disabled features w) depth x p
    → IsWrittenPlace finds features w depth x p

-- The three passes one after the other: where a call too deep is told with its place after them, some call is too deep in the
-- written grammar, and stands there.
abbrev pub DeepCallsAreWritten : Type 0
DeepCallsAreWritten =
    (finds : Text → Text → Option Bool) (features : List Text) (w : Grammar) (f : Text → ℕ → Text) (limit : ℕ) (y : Closed)
    (p : TextSpan) → IsReadGrammar w → IsLevelable finds (resolved_grammar (without_disabled features w)) f
    → IsTooDeep (grammar_between finds (leveled_grammar f (resolved_grammar (without_disabled features w)))) limit y
    → IsPlaceBelow (grammar_between finds (leveled_grammar f (resolved_grammar (without_disabled features w)))) limit y p
    → (x : Closed) × IsTooDeep (enabled_grammar finds features w) limit x × IsWrittenPlace finds features w limit x p
