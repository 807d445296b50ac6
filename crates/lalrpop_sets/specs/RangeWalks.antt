-- What a walk over the ranges of a set has still to pass, and what is next in walks over two sets; for walks and what goes by them.
use Rattle.std.specs.Prelude.{◌≡◌, ℕ, ◌+◌, ◌<◌, ◌≤◌, ◌||◌, ◌&&◌, ◌⊎◌, min, max, nat_le, Bool, true, false, List, [], ◌∷◌, length, Option, Some, None}
use Rattle.std.specs.declared.cmp.Ordering.{Ordering}
use Rattle.std.specs.declared.cmp.Ordering.TheVariants.{Less, Equal, Greater}
use Rattle.lalrpop_sets.specs.Ranges.{RangesFrom, covers, is_covered, left_behind, numbers_in_ranges, with_end}
use Rattle.lalrpop_sets.specs.declared.token_range.TokenRange.{TokenRange}
use Rattle.lalrpop_sets.specs.declared.range_walk.RangeWalk.{RangeWalk}

-- nothing, or the range and the others
abbrev pub from_head : Option TokenRange → List TokenRange → List TokenRange
from_head None rs = []
from_head (Some r) rs = r ∷ rs

-- the ranges behind the one that the walk is at
abbrev pub ranges_behind : RangeWalk → List TokenRange
ranges_behind w = with_end w.end w.ranges.now

-- the ranges that are still to be passed
abbrev pub ranges_to_come : RangeWalk → List TokenRange
ranges_to_come w = from_head w.head (ranges_behind w)

-- their numbers
abbrev pub numbers_to_come : RangeWalk → List ℕ
numbers_to_come w = numbers_in_ranges (ranges_to_come w)

-- both, where both are there
abbrev pub both_of : Option TokenRange → Option TokenRange → Option (TokenRange × TokenRange)
both_of None s = None
both_of (Some r) None = None
both_of (Some r) (Some s) = Some (r, s)

-- whether there is a range, and it doesn't begin behind the other
abbrev pub goes_first : Option TokenRange → Option TokenRange → Bool
goes_first None other = false
goes_first (Some r) None = true
goes_first (Some r) (Some s) = nat_le r.first s.first

-- whether there is a range, and it begins at most there
abbrev pub begins_within : Option TokenRange → ℕ → Bool
begins_within None most = false
begins_within (Some r) most = nat_le r.first most

-- that no range begins before a number
abbrev pub BeginFrom : ℕ → List TokenRange → Type 0
BeginFrom n [] = Unit {0}
BeginFrom n (r ∷ rs) = n ≤ r.first

-- the range was the first of one of two lists, the other is as it was
abbrev pub IsOneTaken : List TokenRange → List TokenRange → TokenRange → List TokenRange → List TokenRange → Type 0
IsOneTaken ps qs r ps-left qs-left = ((ps ≡ r ∷ ps-left) × (qs-left ≡ qs)) ⊎ ((ps-left ≡ ps) × (qs ≡ r ∷ qs-left))

-- the range has the first numbers that are in one of two lists, up to one that both lack
pub record IsJoinedFirst (ps qs : List TokenRange) (r : TokenRange) (ps-left qs-left : List TokenRange) : Type 0 where
  pub ordered : r.first ≤ r.last
  pub one : RangesFrom 1 (r.last + 2) ps-left
  pub other : RangesFrom 1 (r.last + 2) qs-left
  pub same : (k : ℕ) → (is_covered ps k || is_covered qs k) ≡ (covers r k || (is_covered ps-left k || is_covered qs-left k))
  pub fewer : length ps-left + length qs-left < length ps + length qs

-- one of two ranges ends before the other begins, and is passed
abbrev pub IsOnePassed : TokenRange → TokenRange → List TokenRange → List TokenRange → List TokenRange → List TokenRange → List TokenRange
    → List TokenRange → Type 0
IsOnePassed r s ps ps-behind qs qs-behind ps-left qs-left =
    ((r.last < s.first) × (ps-left ≡ ps-behind) × (qs-left ≡ qs)) ⊎ ((s.last < r.first) × (ps-left ≡ ps) × (qs-left ≡ qs-behind))

-- a range has what two ranges have in common, and both are passed up to its last number
pub record IsBothPassed (r s both : TokenRange) (ps-behind qs-behind ps-left qs-left : List TokenRange) : Type 0 where
  pub first : both.first ≡ max r.first s.first
  pub last : both.last ≡ min r.last s.last
  pub meets : s.first ≤ r.last
  pub met : r.first ≤ s.last
  pub one : ps-left ≡ left_behind both.last r ps-behind
  pub other : qs-left ≡ left_behind both.last s qs-behind

-- how walks compare, at least one of which has passed all
abbrev pub ended_order : Option TokenRange → Option TokenRange → Ordering
ended_order None None = Equal
ended_order None (Some s) = Less
ended_order (Some r) other = Greater

-- the range has the first numbers that are in both lists
pub record IsCommonFirst (ps qs : List TokenRange) (r : TokenRange) (ps-left qs-left : List TokenRange) : Type 0 where
  pub ordered : r.first ≤ r.last
  pub one : RangesFrom 1 (r.last + 1) ps-left
  pub other : RangesFrom 1 (r.last + 1) qs-left
  pub same : (k : ℕ) → (is_covered ps k && is_covered qs k) ≡ (covers r k || (is_covered ps-left k && is_covered qs-left k))
  pub fewer : length ps-left + length qs-left < length ps + length qs
