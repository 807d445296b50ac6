-- What holds at each place of a list, and lists with the same elements: for tests that go along lists.
use Rattle.std.specs.Prelude.{ℕ, ◌<◌, List, ◌≡◌, ◌↔◌, ◌⊎◌, Some, Contains, slice_get, flat_map}
use Rattle.std.specs.List.{enumerate_from}

-- it holds at each place, and at each of the first places
abbrev pub HoldsAtEach : {X : Type 0} → (ℕ → X → Type 0) → List X → Type 0
HoldsAtEach {X} P xs = (k : ℕ) (x : X) → slice_get xs k ≡ Some x → P k x

abbrev pub HoldsAtFirst : {X : Type 0} → (ℕ → X → Type 0) → List X → ℕ → Type 0
HoldsAtFirst {X} P xs n = (k : ℕ) (x : X) → k < n → slice_get xs k ≡ Some x → P k x

-- what comes of each of a list with its place, in order
abbrev pub of_each_place : {X Y : Type 0} → (ℕ → X → List Y) → List X → List Y
of_each_place f xs = flat_map (λ x. f x.0 x.1) (enumerate_from 0 xs)

-- the new list has the elements of the old one and these
abbrev pub GainsElements : {X : Type 0} → List X → List X → List X → Type 0
GainsElements {X} old new xs = (x : X) → Contains new x ↔ (Contains old x ⊎ Contains xs x)

-- the lists have the same elements
abbrev pub HaveSameElements : {X : Type 0} → List X → List X → Type 0
HaveSameElements {X} xs ys = (x : X) → Contains xs x ↔ Contains ys x
