-- Sets as ranges, computed on small ones, beside ranges that are no set's.
use Rattle.std.proofs.Common.{◌≡◌, ◌≤◌, true, false, [], ◌∷◌, Some, None, refl, arith}
use Rattle.lalrpop_sets.specs.Ranges.{AreRanges, RangesFrom, most_ranges, range_of, token_numbers}
use Rattle.lalrpop_sets.specs.RangeEdits.{with_new_number, without_number}

-- the numbers of a set: none, one, two ranges
lists_none : token_numbers [] None ≡ []
unfolding token_numbers
lists_none = refl

lists_one : token_numbers (range_of 7 7 ∷ []) None ≡ 7 ∷ []
unfolding token_numbers
lists_one = refl

lists_two : token_numbers (range_of 0 2 ∷ range_of 5 6 ∷ []) None ≡ 0 ∷ 1 ∷ 2 ∷ 5 ∷ 6 ∷ []
unfolding token_numbers
lists_two = refl

-- the end alone, behind all terminals, between terminals and the token of errors, between two ranges and before all
lists_end : token_numbers [] (Some 3) ≡ 3 ∷ []
unfolding token_numbers
lists_end = refl

lists_end_last : token_numbers (range_of 0 1 ∷ []) (Some 2) ≡ 0 ∷ 1 ∷ 2 ∷ []
unfolding token_numbers
lists_end_last = refl

lists_end_before_error : token_numbers (range_of 1 1 ∷ range_of 3 3 ∷ []) (Some 2) ≡ 1 ∷ 2 ∷ 3 ∷ []
unfolding token_numbers
lists_end_before_error = refl

lists_end_between : token_numbers (range_of 0 1 ∷ range_of 7 8 ∷ []) (Some 4) ≡ 0 ∷ 1 ∷ 4 ∷ 7 ∷ 8 ∷ []
unfolding token_numbers
lists_end_between = refl

lists_end_first : token_numbers (range_of 5 6 ∷ []) (Some 1) ≡ 1 ∷ 5 ∷ 6 ∷ []
unfolding token_numbers
lists_end_first = refl

-- ranges of a set, with the end between two of them
are_ranges : AreRanges (range_of 0 2 ∷ range_of 4 4 ∷ []) (Some 3) 3
are_ranges = record { apart = (omega arith, omega arith, (omega arith, omega arith, tt)); free = refl; room = omega arith }

-- no set has ranges that touch, a range over its end, or one that ends before it begins
touching_refused : RangesFrom 2 0 (range_of 0 2 ∷ range_of 3 4 ∷ []) → ⊥
touching_refused h = let l : 4 ≤ 3 = h.2.0 in absurd (omega arith)

over_the_end_refused : AreRanges (range_of 0 4 ∷ []) (Some 3) 9 → ⊥
over_the_end_refused h = let e : true ≡ false = h.free in cc

backwards_refused : RangesFrom 2 0 (range_of 4 3 ∷ []) → ⊥
backwards_refused h = let l : 4 ≤ 3 = h.1 in absurd (omega arith)

-- room for one range more isn't enough: of five numbers two can be taken out, and three ranges are left
rooms : most_ranges (range_of 0 4 ∷ []) ≡ 3
rooms = refl

little_room_refused : AreRanges (range_of 0 4 ∷ []) None 2 → ⊥
little_room_refused h = let l : 3 ≤ 2 = h.room in absurd (omega arith)

takes_one_out : without_number 1 (range_of 0 4 ∷ []) ≡ range_of 0 0 ∷ range_of 2 4 ∷ []
takes_one_out = refl

takes_another_out : without_number 3 (range_of 2 4 ∷ []) ≡ range_of 2 2 ∷ range_of 4 4 ∷ []
takes_another_out = refl

takes_the_first_out : without_number 2 (range_of 2 4 ∷ []) ≡ range_of 3 4 ∷ []
takes_the_first_out = refl

takes_the_last_out : without_number 4 (range_of 2 4 ∷ []) ≡ range_of 2 3 ∷ []
takes_the_last_out = refl

takes_all_out : without_number 2 (range_of 2 2 ∷ range_of 9 9 ∷ []) ≡ range_of 9 9 ∷ []
takes_all_out = refl

-- a number alone, in front of a range, behind it, and one that closes the gap between two
puts_alone : with_new_number 5 (range_of 8 9 ∷ []) ≡ range_of 5 5 ∷ range_of 8 9 ∷ []
puts_alone = refl

puts_in_front : with_new_number 7 (range_of 8 9 ∷ []) ≡ range_of 7 9 ∷ []
puts_in_front = refl

puts_behind : with_new_number 3 (range_of 1 2 ∷ range_of 8 9 ∷ []) ≡ range_of 1 3 ∷ range_of 8 9 ∷ []
puts_behind = refl

joins_two : with_new_number 3 (range_of 1 2 ∷ range_of 4 9 ∷ []) ≡ range_of 1 9 ∷ []
joins_two = refl
