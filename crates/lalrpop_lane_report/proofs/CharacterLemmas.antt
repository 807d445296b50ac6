-- How many characters a text has, byte by byte.
use Rattle.std.proofs.Common.{◌≡◌, ◌+◌, ◌<◌, ◌≤◌, ℕ, List, add-one, ap, drop, drop-cons, get_or, length}
use Rattle.std.proofs.Math.ListN.{drop_of_length-le}
use Rattle.std.specs.Prelude.{cond}
use Rattle.std.specs.Fmt.{char_count, is_char_start}

pub next_byte : (l : List ℕ) (i : ℕ) → i < length l
    → char_count (drop i l) ≡ cond (is_char_start (get_or l i 0)) 1 0 + char_count (drop (i + 1) l)
unfolding char_count
next_byte l i s = rw add-one (ap char_count (drop-cons l i 0 s))

pub no_byte : (l : List ℕ) (i : ℕ) → length l ≤ i → char_count (drop i l) ≡ 0
unfolding char_count
no_byte l i s = ap char_count (drop_of_length-le l s)
