-- How often texts are taken, as a map holds it; for the struct that keeps it.
use Rattle.std.specs.Prelude.{ℕ, ◌<◌, ◌^◌}
use Rattle.std.specs.Option.{unwrap_or}
use Rattle.std.specs.Ordering.{nat_cmp}
use Rattle.std.specs.Cmp.Lexicographic.{slice_cmp}
use Rattle.std.specs.BTreeMap.{BTreeMap, get}
use Rattle.lalrpop_grammar_symbols.specs.Symbols.{Text}

-- a text that the map doesn't have is not taken
abbrev pub times_in : BTreeMap Text ℕ → Text → ℕ
times_in m text = unwrap_or (get (slice_cmp nat_cmp) m text) 0

-- each number of times has room
abbrev pub AreSmallTimes : (Text → ℕ) → Type 0
AreSmallTimes times = (text : Text) → times text < 2 ^ 64
