-- Ranges that ascend with one number more or less, from the place on where it belongs; for ranges.
use Rattle.std.specs.Prelude.{ℕ, ◌+◌, ◌-◌, ◌≤◌, nat_eq, nat_le, nat_lt, Bool, true, false, cond, List, [], ◌∷◌}
use Rattle.lalrpop_sets.specs.Ranges.{left_behind, range_of}
use Rattle.lalrpop_sets.specs.declared.token_range.TokenRange.{TokenRange}

-- whether there is a first range, and it begins at most at the number
abbrev pub begins_by : ℕ → List TokenRange → Bool
begins_by k [] = false
begins_by k (r ∷ rs) = nat_le r.first k

-- whether there is a first range, and it begins right behind the number
abbrev pub begins_behind : ℕ → List TokenRange → Bool
begins_behind k [] = false
begins_behind k (r ∷ rs) = nat_eq r.first (k + 1)

-- whether no first range begins at the number's neighbour or before it
abbrev pub begins_apart : ℕ → List TokenRange → Bool
begins_apart k [] = true
begins_apart k (r ∷ rs) = nat_lt (k + 1) r.first

-- a range up to a number, joined with the next one where that begins right behind it
abbrev pub joined_up_to : ℕ → ℕ → List TokenRange → List TokenRange
joined_up_to first k [] = range_of first k ∷ []
joined_up_to first k (r ∷ rs) = cond (nat_eq r.first (k + 1)) (range_of first r.last ∷ rs) (range_of first k ∷ r ∷ rs)

-- the first of them up to a number, joined with the next one where that begins right behind it
abbrev pub widened_to : ℕ → List TokenRange → List TokenRange
widened_to k [] = []
widened_to k (r ∷ rs) = joined_up_to r.first k rs

-- with a number that they lack, where only the first of them may end right before it
abbrev pub with_new_number : ℕ → List TokenRange → List TokenRange
with_new_number k [] = range_of k k ∷ []
with_new_number k (r ∷ rs) =
    cond (nat_lt (k + 1) r.first) (range_of k k ∷ r ∷ rs)
    (cond (nat_lt k r.first) (range_of k r.last ∷ rs) (joined_up_to r.first k rs))

-- without a number that the first of them has
abbrev pub without_number : ℕ → List TokenRange → List TokenRange
without_number k [] = []
without_number k (r ∷ rs) = cond (nat_lt r.first k) (range_of r.first (k - 1) ∷ left_behind k r rs) (left_behind k r rs)

-- whether the first of them has a number
abbrev pub IsInFirst : ℕ → List TokenRange → Type 0
IsInFirst k [] = ⊥
IsInFirst k (r ∷ rs) = (r.first ≤ k) × (k ≤ r.last)
