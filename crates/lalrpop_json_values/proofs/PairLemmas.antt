-- How many values a list has, for the reading of spans.
use Rattle.std.proofs.Common.{◌≡◌, List, [], ◌∷◌, ◌<◌, ◌≤◌, length, None, arith, refl}
use Rattle.lalrpop_json_document.specs.declared.value.JsonValue.{JsonValue}
use Rattle.lalrpop_json_document.specs.DocumentViews.{items_view}
use Rattle.lalrpop_json_values.specs.Scalars.{pair_of}

-- only a list of two is a pair
pub pair_short : (vs : List JsonValue) → length vs < 2 → pair_of (items_view vs) ≡ None
pair_short [] h = refl
pair_short (a ∷ []) h = refl
pair_short (a ∷ b ∷ vs) h = absurd (omega arith)

pub pair_long : (vs : List JsonValue) → 3 ≤ length vs → pair_of (items_view vs) ≡ None
pair_long [] h = absurd (omega arith)
pair_long (a ∷ []) h = absurd (omega arith)
pair_long (a ∷ b ∷ []) h = absurd (omega arith)
pair_long (a ∷ b ∷ c ∷ vs) h = refl

pub ruleset pairs = (pair_short, pair_long)
