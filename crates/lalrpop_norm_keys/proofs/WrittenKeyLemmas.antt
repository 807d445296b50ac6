-- Where a key is met after the passes over features, names and levels, there it is met in the written grammar; for the law of it.
use Rattle.std.proofs.Common.{◌≡◌, ℕ, List, Bool}
use Rattle.std.specs.Prelude.{Option}
use Rattle.lalrpop_grammar_symbols.specs.Symbols.{Text, TextSpan, Closed}
use Rattle.lalrpop_grammar.specs.WrittenGrammar.{Grammar}
use Rattle.lalrpop_norm_theory.specs.Between.{grammar_between, without_disabled}
use Rattle.lalrpop_norm_theory.specs.Premises.{IsReadGrammar}
use Rattle.lalrpop_norm_theory.specs.LevelRules.{by_level_names}
use Rattle.lalrpop_norm_theory.specs.Resolving.{resolved_grammar}
use Rattle.lalrpop_norm_theory.specs.LeveledGrammar.{leveled_grammar}
use Rattle.lalrpop_norm_theory.specs.LevelLaws.{IsLevelable}
use Rattle.lalrpop_norm_keys.specs.KeyPlaces.{IsKeyPlace, IsShapeKey, IsWrittenKeyPlace}
use Rattle.lalrpop_norm_keys.proofs.LeveledKeyLemmas.{leveled_key_place}
use Rattle.lalrpop_norm_keys.proofs.NamedKeyLemmas.{dropped_key_place, resolved_key_place}

-- a repeat, a group or a lookaround after levels is a written key under the names of levels, at the same place
pub key_place_written : (finds : Text → Text → Option Bool) (features : List Text) (w : Grammar) (f : Text → ℕ → Text) →
    IsReadGrammar w → IsLevelable finds (resolved_grammar (without_disabled features w)) f → (y : Closed) (p : TextSpan) →
    IsShapeKey y → IsKeyPlace (grammar_between finds (leveled_grammar f (resolved_grammar (without_disabled features w)))) y p →
    (x : Closed) × (y ≡ by_level_names f x) × IsWrittenKeyPlace finds features w x p
key_place_written finds features w f read levelable y p shape h =
    let u = leveled_key_place finds (resolved_grammar (without_disabled features w)) f levelable y p shape h in
    (u.0, u.1, dropped_key_place finds features w read u.0 p (resolved_key_place finds (without_disabled features w) u.0 p u.2))
