-- Sets of characters as lists of ranges: their members, the one list for the members of a test, and the operations.
use Rattle.std.specs.Prelude.{◌≡◌, ℕ, zero, suc, ◌+◌, ◌≤◌, Bool, true, false, not, ◌&&◌, ◌||◌, ◌==◌, nat_le}
use Rattle.std.specs.Prelude.{nat_lt, List, [], ◌∷◌, if◌then◌else◌}
use Rattle.unicode.specs.CaseFolding.{simple_fold}
use Rattle.lalrpop_lexer_pattern.specs.declared.class.Range.{Range}

-- the range holds the number
unfoldable pub in_range : Range → ℕ → Bool
in_range r c = nat_le r.start c && nat_le c r.end

-- one of the ranges holds the number
unfoldable pub in_ranges : List Range → ℕ → Bool
in_ranges [] c = false
in_ranges (r ∷ rs) c = in_range r c || in_ranges rs c

-- the range starts at the number or later, has a member, and ends within Unicode
abbrev pub fits_from : ℕ → Range → Bool
fits_from n r = nat_le n r.start && (nat_le r.start r.end && nat_le r.end 0x10_FFFF)

-- each range fits, the first from the number on, and each other from two above the end of the one before
unfoldable pub rises_from : ℕ → List Range → Bool
rises_from n [] = true
rises_from n (r ∷ rs) = fits_from n r && rises_from (r.end + 2) rs

-- the ranges rise with a gap between each and the next, within Unicode
abbrev pub IsRising : List Range → Type 0
IsRising rs = rises_from 0 rs ≡ true

-- the number in front of ranges that start above it
abbrev pub add_front : ℕ → List Range → List Range
add_front c [] = record { start = c; end = c } ∷ []
add_front c (r ∷ rs) = if r.start == c + 1 then record { start = c; end = r.end } ∷ rs else record { start = c; end = c } ∷ r ∷ rs

-- the rising ranges of what passes the test, of k numbers from c on
unfoldable pub ranges_from : ℕ → ℕ → (ℕ → Bool) → List Range
ranges_from zero c p = []
ranges_from (suc k) c p = if p c then add_front c (ranges_from k (c + 1) p) else ranges_from k (c + 1) p

-- the rising ranges of the code points that pass the test
unfoldable pub ranges_of : (ℕ → Bool) → List Range
ranges_of p = ranges_from 0x11_0000 0 p

-- some number below n passes the test
unfoldable pub some_below : ℕ → (ℕ → Bool) → Bool
some_below zero p = false
some_below (suc n) p = p n || some_below n p

-- some code point in the ranges has the same simple case folding
abbrev pub shares_folding : List Range → ℕ → Bool
shares_folding rs c = some_below 0x11_0000 (λ m. in_ranges rs m && (simple_fold m == simple_fold c))

-- a Unicode scalar value: a code point that is no surrogate
abbrev pub is_scalar : ℕ → Bool
is_scalar c = nat_lt c 0xD800 || (nat_le 0xE000 c && nat_le c 0x10_FFFF)

abbrev pub union_of : List Range → List Range → List Range
union_of rs ss = ranges_of (λ c. in_ranges rs c || in_ranges ss c)

-- the scalar values that are no members
abbrev pub complement_of : List Range → List Range
complement_of rs = ranges_of (λ c. is_scalar c && not (in_ranges rs c))

-- the characters that share a simple case folding with a member
abbrev pub folded_of : List Range → List Range
folded_of rs = ranges_of (shares_folding rs)

-- the start of the last range, or the number where there is none
unfoldable pub last_start_or : ℕ → List Range → ℕ
last_start_or n [] = n
last_start_or n (r ∷ rs) = last_start_or r.start rs

-- the last range starts no later than the number
abbrev pub StartsAtMost : List Range → ℕ → Type 0
StartsAtMost rs n = last_start_or 0 rs ≤ n
