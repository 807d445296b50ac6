-- What the spans of keys are: places where the keys are met, in a grammar whose table of keys is finished.
use Rattle.std.specs.Prelude.{◌≡◌, Bool, List, [], ◌∷◌, Option}
use Rattle.lalrpop_grammar_symbols.specs.Symbols.{Text, Closed, TextSpan}
use Rattle.lalrpop_grammar.specs.WrittenGrammar.{Grammar, rules_of}
use Rattle.lalrpop_grammar_language.specs.Enabled.{EnabledGrammar, enabled_grammar}
use Rattle.lalrpop_norm_theory.specs.Between.{grammar_between}
use Rattle.lalrpop_norm_theory.specs.KeyTables.{IsKeyTable}
use Rattle.lalrpop_norm_keys.specs.KeyPlaces.{IsKeyPlace, IsShapeKey}
use Rattle.lalrpop_norm_keys.specs.SearchPremises.{AreAllCalls, CanSearch}
use Rattle.lalrpop_norm_keys.specs.TableLaws.{HasAllActive}
use Rattle.lalrpop_norm_keys.specs.GrammarPlaces.{HasKeySpans}

-- each repeat, group and lookaround of these is met where its span says
abbrev pub AreKeyPlaces : EnabledGrammar → List Closed → List TextSpan → Type 0
AreKeyPlaces g [] ps = ps ≡ []
AreKeyPlaces g (x ∷ xs) ps =
    (p : TextSpan) × (rest : List TextSpan) × (ps ≡ p ∷ rest) × (IsShapeKey x → IsKeyPlace g x p) × AreKeyPlaces g xs rest

-- Where the table has all keys of the grammar, the other span is given to none of its repeats, groups and lookarounds.
abbrev pub KeySpansArePlaces : Type 0
KeySpansArePlaces =
    (finds : Text → Text → Option Bool) (features : List Text) (w : Grammar) → CanSearch (enabled_grammar finds features w) features w
    → (calls keys : List Closed) → AreAllCalls (enabled_grammar finds features w) calls
    → IsKeyTable (enabled_grammar finds features w) calls keys → (other : TextSpan) (ps : List TextSpan)
    → HasKeySpans (enabled_grammar finds features w) (rules_of w.items) other keys ps
    → AreKeyPlaces (enabled_grammar finds features w) keys ps

-- a place under features that disable nothing is one in the grammar between two passes
abbrev pub KeyPlacesStayBetween : Type 0
KeyPlacesStayBetween =
    (finds : Text → Text → Option Bool) (features : List Text) (w : Grammar) → HasAllActive features (rules_of w.items)
    → (x : Closed) (p : TextSpan) → IsKeyPlace (enabled_grammar finds features w) x p → IsKeyPlace (grammar_between finds w) x p
