-- Where the first characters lead from a state.
use Rattle.std.specs.Prelude.{◌≡◌, ℕ, ◌<◌, List, Option, None, length, slice_index_or}
use Rattle.lalrpop_lexer.specs.Numbering.{EdgeView}
use Rattle.lalrpop_lexer.specs.Simulation.{target_of}

-- the row tells for each number below its length where the edges lead
abbrev pub IsRow : List EdgeView → List (Option ℕ) → Type 0
IsRow edges row = (c : ℕ) → c < length row → slice_index_or row c None ≡ target_of edges c
