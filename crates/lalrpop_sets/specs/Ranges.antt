-- Sets of numbers as ranges that ascend, beside the number of the end, which no range has; for sets of tokens.
use Rattle.std.specs.Prelude.{◌≡◌, ℕ, ◌+◌, ◌-◌, ◌/◌, ◌≤◌, nat_le, nat_lt, Bool, true, false, cond, ◌&&◌, ◌||◌, List, [], ◌∷◌, ◌++◌, Option, Some, None}
use Rattle.std.specs.List.{range_with_len}
use Rattle.lalrpop_sets.specs.declared.token_range.TokenRange.{TokenRange}

-- the numbers from one to another, both included
abbrev pub range_of : ℕ → ℕ → TokenRange
range_of first last = record { first = first; last = last }

-- whether the range has the number
abbrev pub covers : TokenRange → ℕ → Bool
covers r k = nat_le r.first k && nat_le k r.last

-- whether some range has the number
abbrev pub is_covered : List TokenRange → ℕ → Bool
is_covered [] k = false
is_covered (r ∷ rs) k = covers r k || is_covered rs k

-- the ranges, with the end as a range of its own in its place
abbrev pub with_one : ℕ → List TokenRange → List TokenRange
with_one e [] = range_of e e ∷ []
with_one e (r ∷ rs) = cond (nat_lt e r.first) (range_of e e ∷ r ∷ rs) (r ∷ with_one e rs)

abbrev pub with_end : Option ℕ → List TokenRange → List TokenRange
with_end None rs = rs
with_end (Some e) rs = with_one e rs

-- whether there is an end, and it comes before all of the ranges
abbrev pub comes_first : Option ℕ → List TokenRange → Bool
comes_first None rs = false
comes_first (Some e) [] = true
comes_first (Some e) (r ∷ rs) = nat_lt e r.first

-- the numbers of ranges, one range after the other
abbrev pub range_numbers : TokenRange → List ℕ
range_numbers r = range_with_len r.first (r.last - r.first + 1)

abbrev pub numbers_in_ranges : List TokenRange → List ℕ
numbers_in_ranges [] = []
numbers_in_ranges (r ∷ rs) = range_numbers r ++ numbers_in_ranges rs

-- the numbers of a set, the end's in its place
unfoldable pub token_numbers : List TokenRange → Option ℕ → List ℕ
token_numbers rs end = numbers_in_ranges (with_end end rs)

-- ranges from a on, each with as many numbers as that between its last and the next first, less one: 1 where they may touch,
-- 2 where they don't
abbrev pub RangesFrom : ℕ → ℕ → List TokenRange → Type 0
RangesFrom gap a [] = Unit {0}
RangesFrom gap a (r ∷ rs) = (a ≤ r.first) × (r.first ≤ r.last) × RangesFrom gap (r.last + gap) rs

-- what is left of a range and others behind a number of that range
abbrev pub left_behind : ℕ → TokenRange → List TokenRange → List TokenRange
left_behind last r rs = cond (nat_lt last r.last) (range_of (last + 1) r.last ∷ rs) rs

-- as many ranges as there can be, once numbers were taken out of these
abbrev pub most_ranges : List TokenRange → ℕ
most_ranges [] = 0
most_ranges (r ∷ rs) = (r.last - r.first) / 2 + 1 + most_ranges rs

-- whether the end is there, and some range has its number
abbrev pub covers_end : List TokenRange → Option ℕ → Bool
covers_end rs None = false
covers_end rs (Some e) = is_covered rs e

-- what is so of each set's ranges
pub record AreRanges (rs : List TokenRange) (end : Option ℕ) (capacity : ℕ) : Type 0 where
  -- each first is at most its last, and between two ranges a number is missing
  pub apart : RangesFrom 2 0 rs
  -- no range has the number of the end, so none was joined over it
  pub free : covers_end rs end ≡ false
  -- taking numbers out never needs memory
  pub room : most_ranges rs ≤ capacity
