-- What the laws say of the places of keys: the keys of an expansion have places, and each pass takes one back.
use Rattle.std.specs.Prelude.{ℕ, ◌≡◌, Bool, List, Option}
use Rattle.lalrpop_grammar_symbols.specs.Symbols.{Text, TextSpan, Closed}
use Rattle.lalrpop_grammar.specs.WrittenGrammar.{Grammar}
use Rattle.lalrpop_grammar_language.specs.Enabled.{EnabledGrammar}
use Rattle.lalrpop_grammar_language.specs.Expansion.{Nonterminal, InExpansion}
use Rattle.lalrpop_norm_theory.specs.Between.{grammar_between, without_disabled}
use Rattle.lalrpop_norm_theory.specs.Premises.{IsReadGrammar}
use Rattle.lalrpop_norm_theory.specs.LevelRules.{by_level_names}
use Rattle.lalrpop_norm_theory.specs.Resolving.{resolved_grammar}
use Rattle.lalrpop_norm_theory.specs.LeveledGrammar.{leveled_grammar}
use Rattle.lalrpop_norm_theory.specs.LevelLaws.{IsLevelable}
use Rattle.lalrpop_norm_keys.specs.KeyPlaces.{IsKeyPlace, IsShapeKey, IsWrittenKeyPlace}

-- what has a place is a nonterminal of the expansion
abbrev pub PlacedKeysAreMade : Type 0
PlacedKeysAreMade =
    (g : EnabledGrammar) (x : Closed) (p : TextSpan) → IsKeyPlace g x p → InExpansion g (Nonterminal.closed x)

-- each repeat, group and lookaround of the expansion has a place
abbrev pub MadeKeysArePlaced : Type 0
MadeKeysArePlaced =
    (g : EnabledGrammar) (x : Closed) → IsShapeKey x → InExpansion g (Nonterminal.closed x) → (p : TextSpan) × IsKeyPlace g x p

-- A place in the grammar in which each level has a rule of its own is the place of a key before, under the names of the levels.
abbrev pub LevelsKeepKeyPlaces : Type 0
LevelsKeepKeyPlaces =
    (finds : Text → Text → Option Bool) (g : Grammar) (f : Text → ℕ → Text) → IsLevelable finds g f → (y : Closed)
    (p : TextSpan) → IsShapeKey y → IsKeyPlace (grammar_between finds (leveled_grammar f g)) y p
    → (x : Closed) × (y ≡ by_level_names f x) × IsKeyPlace (grammar_between finds g) x p

-- a place in the grammar whose names are resolved is one before
abbrev pub ResolvingKeepsKeyPlaces : Type 0
ResolvingKeepsKeyPlaces =
    (finds : Text → Text → Option Bool) (g : Grammar) (x : Closed) (p : TextSpan)
    → IsKeyPlace (grammar_between finds (resolved_grammar g)) x p → IsKeyPlace (grammar_between finds g) x p

-- a place in what is left under the features is one in the written grammar
abbrev pub DroppingKeepsKeyPlaces : Type 0
DroppingKeepsKeyPlaces =
    (finds : Text → Text → Option Bool) (features : List Text) (w : Grammar) → IsReadGrammar w → (x : Closed) (p : TextSpan)
    → IsKeyPlace (grammar_between finds (without_disabled features w)) x p → IsWrittenKeyPlace finds features w x p

-- The three passes one after the other: where a key stands after them, there it is met in the written grammar.
abbrev pub KeyPlacesAreWritten : Type 0
KeyPlacesAreWritten =
    (finds : Text → Text → Option Bool) (features : List Text) (w : Grammar) (f : Text → ℕ → Text) → IsReadGrammar w
    → IsLevelable finds (resolved_grammar (without_disabled features w)) f → (y : Closed) (p : TextSpan) → IsShapeKey y
    → IsKeyPlace (grammar_between finds (leveled_grammar f (resolved_grammar (without_disabled features w)))) y p
    → (x : Closed) × (y ≡ by_level_names f x) × IsWrittenKeyPlace finds features w x p
