-- An object's members while they are read, in a list or a map.
use Rattle.std.specs.Prelude.{ℕ, List, [], ◌∷◌, Bool, true}
use Rattle.std.specs.Cmp.Lexicographic.{slice_cmp}
use Rattle.std.specs.Ordering.{is_lt, nat_cmp}
use Rattle.serde_json.specs.Data.{Members, no_members, member, put}

-- whether a key is greater than the last of these keys
abbrev pub is_above_last : List ℕ → List (List ℕ) → Bool
is_above_last key [] = true
is_above_last key (last ∷ []) = is_lt (slice_cmp nat_cmp last key)
is_above_last key (first ∷ (next ∷ rest)) = is_above_last key (next ∷ rest)

-- members put one after the other among those that were found before
abbrev pub put_all : Members → Members → Members
put_all no_members found = found
put_all (member key d ms) found = put_all ms (put key d found)
