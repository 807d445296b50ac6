-- How a set of numbers knows its members: for each number stands where to look for it.
use Rattle.std.specs.Prelude.{◌≡◌, ℕ, ◌<◌, List, length, slice_index}

-- each member is looked for where it stands, so no two members are the same
abbrev pub ArePlaced : List ℕ → List ℕ → Type 0
ArePlaced members places = (i : ℕ) → i < length members → slice_index places (slice_index members i) ≡ i
