-- Patterns of the empty word, and repetitions that have one copy of their piece.
use Rattle.std.specs.Prelude.{◌≡◌, ℕ, ◌*◌, max, ◌≤◌, ◌⊎◌, ◌↔◌, List, [], Option, Some, None}
use Rattle.lalrpop_lexer_pattern.specs.Matches.{Matches, Pattern}

-- the pattern matches the empty word, and no other
abbrev pub HasEmptyWordAlone : Pattern → Type 0
HasEmptyWordAlone p = (w : List ℕ) → Matches p w ↔ (w ≡ [])

-- a repetition between these counts has one copy of its piece, which may be left out, or come again, or both
abbrev pub HasOneCopy : ℕ → Option ℕ → Type 0
HasOneCopy min max = (min ≤ 1) × ((max ≡ None) ⊎ (max ≡ Some 1))

-- how many copies of its piece a repetition between these counts has
abbrev pub copy_count : ℕ → Option ℕ → ℕ
copy_count least None = max least 1
copy_count least (Some most) = most

-- how many copies of the innermost piece repeats of repeats have
abbrev pub copies_in : Pattern → ℕ
copies_in Pattern.empty = 1
copies_in (Pattern.literal cs) = 1
copies_in (Pattern.class ranges) = 1
copies_in (Pattern.look l) = 1
copies_in (Pattern.capture name p) = copies_in p
copies_in (Pattern.repetition least most greedy p) = copy_count least most * copies_in p
copies_in (Pattern.concat p q) = 1
copies_in (Pattern.alternation p q) = 1
