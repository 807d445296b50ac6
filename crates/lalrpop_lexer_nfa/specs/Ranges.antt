-- Ranges, and the ranges that a list of ranges falls into.
use Rattle.std.specs.Prelude.{◌≡◌, ℕ, ◌+◌, ◌<◌, ◌≤◌, ◌⊎◌, List, All, Contains, AllPairs, length}
use Rattle.std.specs.Prelude.{slice_index, slice_index_or}
use Rattle.lalrpop_lexer_nfa.specs.declared.test.Test.{Test}

-- the range holds the number
abbrev pub TestHolds : Test → ℕ → Type 0
TestHolds t n = (t.start ≤ n) × (n ≤ t.end)

-- some range holds the number
abbrev pub IsCovered : List Test → ℕ → Type 0
IsCovered ranges n = (t : Test) × Contains ranges t × TestHolds t n

-- a range that has a number begins there, or ends just before it
abbrev pub IsBoundary : List Test → ℕ → Type 0
IsBoundary ranges n = (t : Test) × Contains ranges t × (t.start ≤ t.end) × ((n ≡ t.start) ⊎ (n ≡ t.end + 1))

-- the numbers from `start` to `end` lie all inside or all outside each range
abbrev pub IsUndivided : List Test → ℕ → ℕ → Type 0
IsUndivided ranges start end =
    (t : Test) → Contains ranges t → (m n : ℕ) → start ≤ m → m ≤ end → start ≤ n → n ≤ end → TestHolds t m
    → TestHolds t n

-- one of the greatest ranges that lie inside or outside each given range, and inside some
pub record IsAlphabetClass (ranges : List Test) (p : Test) : Type 0 where
  pub nonempty : p.start ≤ p.end
  pub covered : IsCovered ranges p.start
  pub undivided : IsUndivided ranges p.start p.end
  pub greatest : (start end : ℕ) → start ≤ p.start → p.end ≤ end → IsUndivided ranges start end → (start ≡ p.start)
      × (end ≡ p.end)

-- the alphabet classes of the ranges, ascending
pub record AreAlphabetClasses (ranges pieces : List Test) : Type 0 where
  pub each : All (IsAlphabetClass ranges) pieces
  pub ascending : AllPairs (λ p q. p.end < q.start) pieces
  pub all : (n : ℕ) → IsCovered ranges n → IsCovered pieces n
  pub only : (n : ℕ) → IsCovered pieces n → IsCovered ranges n

-- the range at a place
abbrev pub nth_test : List Test → ℕ → Test
nth_test tests i = slice_index_or tests i (record { start = 0; end = 0 })

-- for each range the greatest end among those up to it
pub record AreFurthestEnds (tests : List Test) (ends : List ℕ) : Type 0 where
  pub size : length ends ≡ length tests
  pub above : (j k : ℕ) → j ≤ k → k < length tests → (nth_test tests j).end ≤ slice_index ends k
  pub among : (k : ℕ) → k < length tests → (j : ℕ) × (j ≤ k) × ((nth_test tests j).end ≡ slice_index ends k)
