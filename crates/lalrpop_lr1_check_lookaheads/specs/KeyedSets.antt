-- Keys with a set of tokens for each, and what they gain: for what is propagated to slots and carried to ends.
use Rattle.std.specs.Prelude.{ℕ, ◌≡◌, ◌↔◌, ◌⊎◌, List, Contains, Option, None, Some, length, slice_get, true}
use Rattle.lalrpop_sets.specs.AscendingLists.{has}
use Rattle.lalrpop_lr1_first.specs.Numbers.{set_of_number}

-- keys, and sets of which each is that of the key at its place
pub record KeyedSets (K : Type 0) : Type 0 where
  pub keys : List K
  pub sets : List (List ℕ)

-- each key has a set
abbrev pub HaveSets : {K : Type 0} → KeyedSets K → Type 0
HaveSets keyed = length keyed.sets ≡ length keyed.keys

-- a mark says that the key is there, or is the number of a token in its set
abbrev pub IsMarkIn : List ℕ → Option ℕ → Type 0
IsMarkIn set None = Unit {0}
IsMarkIn set (Some k) = has set k ≡ true

-- the key stands at a place, and its set there has the mark
abbrev pub HasMarkAt : {K : Type 0} → KeyedSets K → K → Option ℕ → Type 0
HasMarkAt keyed key mark = (j : ℕ) × (slice_get keyed.keys j ≡ Some key) × IsMarkIn (set_of_number keyed.sets j) mark

-- keys keep their places, each new one has a set, and the marks are those that were there and these
pub record GainsKeyedMarks {K : Type 0} (old new : KeyedSets K) (Came : K → Option ℕ → Type 0) : Type 0 where
  pub are : HaveSets new
  pub kept : (j : ℕ) (key : K) → slice_get old.keys j ≡ Some key → slice_get new.keys j ≡ Some key
  pub marks : (key : K) (mark : Option ℕ) → HasMarkAt new key mark ↔ (HasMarkAt old key mark ⊎ Came key mark)

-- some of the list brings the mark, and some with its place
abbrev pub OfSome : {X K : Type 0} → (X → K → Option ℕ → Type 0) → List X → K → Option ℕ → Type 0
OfSome {X} Brings xs key mark = (x : X) × Contains xs x × Brings x key mark

abbrev pub OfSomePlace : {X K : Type 0} → (ℕ → X → K → Option ℕ → Type 0) → List X → K → Option ℕ → Type 0
OfSomePlace {X} Brings xs key mark = (n : ℕ) × (x : X) × (slice_get xs n ≡ Some x) × Brings n x key mark
