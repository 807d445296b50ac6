-- Classes of keys: a key that comes, and two classes that are joined, of which one had two keys.
use Rattle.std.proofs.Common.{◌≡◌, ℕ, List, [], ◌∷◌, map, refl}
use Rattle.lalrpop_lane_tables.specs.UnifiedClasses.{class_entries, joined_entry}

-- columns that hold the first token, the second one, and both
abbrev first : List (List ℕ)
first = (0 ∷ []) ∷ [] ∷ []

abbrev second : List (List ℕ)
second = [] ∷ (1 ∷ []) ∷ []

abbrev both : List (List ℕ)
both = (0 ∷ []) ∷ (1 ∷ []) ∷ []

three_keys : class_entries (0 ∷ 1 ∷ 1 ∷ []) (first ∷ second ∷ []) ≡ (0, first) ∷ (1, second) ∷ (1, second) ∷ []
three_keys = refl

all_join : map (joined_entry 0 1 both) ((0, first) ∷ (1, second) ∷ (1, second) ∷ (2, first) ∷ [])
    ≡ (0, both) ∷ (0, both) ∷ (0, both) ∷ (2, first) ∷ []
all_join = refl

none_else : map (joined_entry 2 3 both) ((0, first) ∷ (1, second) ∷ []) ≡ (0, first) ∷ (1, second) ∷ []
none_else = refl
