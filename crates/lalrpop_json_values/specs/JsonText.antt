-- A text as a JSON string.
use Rattle.std.specs.Prelude.{ℕ, Bool, List, not, nat_lt, ◌==◌, ◌||◌}
use Rattle.serde_json.specs.Data.{string}
use Rattle.serde_json.specs.Written.{compact_text}

abbrev pub json_text : List ℕ → List ℕ
json_text t = compact_text (string t)

-- the byte stands in a JSON string as it is: no control byte, no quote and no backslash
abbrev pub stands : ℕ → Bool
stands c = not (nat_lt c 32 || c == 34 || c == 92)
