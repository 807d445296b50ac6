-- Groups of alphabet classes under way, by the pairs of states between which edges read their pieces.
use Rattle.std.specs.Prelude.{◌≡◌, ℕ, ◌<◌, ◌≤◌, ◌⊎◌, ◌↔◌, List, Option, Some, None, length, All, Contains}
use Rattle.std.specs.Prelude.{slice_index, slice_index_or}
use Rattle.lalrpop_lexer_nfa.specs.declared.edge.Edge.{Edge}
use Rattle.lalrpop_lexer_nfa.specs.declared.test.Test.{Test}
use Rattle.lalrpop_lexer_nfa.specs.Ranges.{TestHolds}
use Rattle.lalrpop_lexer.specs.declared.partition.Split.{Split}
use Rattle.lalrpop_lexer.specs.Targets.{start_at}

-- new has the pairs of old, and this one
abbrev pub HasOnePairMore : ℕ × ℕ → List (ℕ × ℕ) → List (ℕ × ℕ) → Type 0
HasOnePairMore pair old new = (p : ℕ × ℕ) → Contains new p ↔ (Contains old p ⊎ (p ≡ pair))

-- the split's group has the pairs of the group that it was split off from, and the split's own
abbrev pub IsSplit : (ℕ → List (ℕ × ℕ)) → ℕ → List (ℕ × ℕ) → Option Split → Type 0
IsSplit pairs count read None = Unit {0}
IsSplit pairs count read (Some s) = (s.group < count) × HasOnePairMore (s.from, s.to) read (pairs s.group)

abbrev pub split_at : List (Option Split) → ℕ → Option Split
split_at splits g = slice_index_or splits g None

-- the groups have these pairs, so far as splits tell of them
pub record HavePairs (pairs : ℕ → List (ℕ × ℕ)) (splits : List (Option Split)) : Type 0 where
  pub each : (g : ℕ) → g < length splits → IsSplit pairs (length splits) (pairs g) (split_at splits g)

-- the pieces' groups have these pairs
pub record ArePairs (pairs : ℕ → List (ℕ × ℕ)) (numbers : List ℕ) (splits : List (Option Split)) : Type 0 where
  pub inside : All (λ g. g < length splits) numbers
  pub told : HavePairs pairs splits

-- the group that is found has the pairs of the given one, and the pair from and to
pub record SplitsOff (group from to : ℕ) (old new : List (Option Split)) (found : ℕ) : Type 0 where
  pub longer : length old ≤ length new
  pub inside : found < length new
  pub keeps : (pairs : ℕ → List (ℕ × ℕ)) → HavePairs pairs old → (more : ℕ → List (ℕ × ℕ)) × HavePairs more new
      × ((g : ℕ) → g < length old → more g ≡ pairs g) × HasOnePairMore (from, to) (pairs group) (more found)

-- the groups of the first pieces get the edge's pair of states where the edge reads the piece's start
pub record SplitsBy (e : Edge Test) (pieces : List Test) (n : ℕ) (old : List ℕ) (before : List (Option Split))
    (new : List ℕ) (after : List (Option Split)) : Type 0 where
  pub size : length new ≡ length old
  pub keeps : (pairs : ℕ → List (ℕ × ℕ)) → ArePairs pairs old before
      → (more : ℕ → List (ℕ × ℕ)) × ArePairs more new after
      × ((i : ℕ) (p : ℕ × ℕ) → i < length old → Contains (more (slice_index new i)) p
      ↔ (Contains (pairs (slice_index old i)) p ⊎ (i < n) × TestHolds e.label (start_at pieces i) × (p ≡ (e.from.0, e.to.0))))

-- the groups of the pieces under other numbers: they have the pairs that they had
pub record KeepsPairs (old : List ℕ) (before : List (Option Split)) (new : List ℕ) (after : List (Option Split)) : Type 0 where
  pub size : length new ≡ length old
  pub keeps : (pairs : ℕ → List (ℕ × ℕ)) → ArePairs pairs old before
      → (more : ℕ → List (ℕ × ℕ)) × ArePairs more new after
      × ((i : ℕ) → i < length old → more (slice_index new i) ≡ pairs (slice_index old i))
