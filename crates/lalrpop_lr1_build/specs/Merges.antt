-- What two lists of items in order make together, and the steps to it: for the closure of a kernel.
use Rattle.std.specs.Prelude.{◌≡◌, ◌↔◌, ◌⊎◌, ◌<◌, ◌≤◌, ◌||◌, ℕ, List, [], ◌∷◌, ◌++◌}
use Rattle.lalrpop_sets.specs.AscendingLists.{Ascends, has}
use Rattle.lalrpop_lr1_first.specs.ItemTables.{HasMark, HasPlace}
use Rattle.lalrpop_lr1_build.specs.Kernels.{HaveOrderedLookaheads, places_of}

-- together they have the places and the marks of both, in order, each place once
pub record Merges {L : Type 0} (marks : L → List ℕ) (in_order : L → Type 0) (kernel brought items : List (ℕ × L)) :
    Type 0 where
  pub ascending : Ascends (places_of items)
  pub ordered : HaveOrderedLookaheads in_order items
  pub places : (i : ℕ) → HasPlace items i ↔ (HasPlace kernel i ⊎ HasPlace brought i)
  pub marks_are : (i k : ℕ) → HasMark marks items i k ↔ (HasMark marks kernel i k ⊎ HasMark marks brought i k)

-- the items stand before the place
abbrev pub AreBefore : {L : Type 0} → ℕ → List (ℕ × L) → Type 0
AreBefore place [] = Unit {0}
AreBefore place (item ∷ items) = (item.0 < place) × AreBefore place items

-- no item stands before the place, where the items ascend
abbrev pub NoneBefore : {L : Type 0} → ℕ → List (ℕ × L) → Type 0
NoneBefore place [] = Unit {0}
NoneBefore place (item ∷ items) = place ≤ item.0

-- those of the kernel that stand before the place are added, and others are left
pub record TakesBefore {L : Type 0} (place : ℕ) (kernel old new rest : List (ℕ × L)) : Type 0 where
  pub before : List (ℕ × L)
  pub parts : kernel ≡ before ++ rest
  pub added : new ≡ old ++ before
  pub are_before : AreBefore place before
  pub none_before : NoneBefore place rest

-- the item is added, joined with the first of the kernel, which stands at the same place
pub record JoinsFirst {L : Type 0} (marks : L → List ℕ) (in_order : L → Type 0) (kernel : List (ℕ × L)) (place : ℕ)
    (lookahead : L) (old new rest : List (ℕ × L)) : Type 0 where
  pub other : L
  pub joined : L
  pub parts : kernel ≡ (place, other) ∷ rest
  pub added : new ≡ old ++ (place, joined) ∷ []
  pub ordered : in_order joined
  pub marks_are : (k : ℕ) → has (marks joined) k ≡ (has (marks lookahead) k || has (marks other) k)

-- the item is added, and the first of the kernel, if there is one, stands at another place
pub record AddsAlone {L : Type 0} (in_order : L → Type 0) (kernel : List (ℕ × L)) (place : ℕ)
    (lookahead : L) (old new rest : List (ℕ × L)) : Type 0 where
  pub left : rest ≡ kernel
  pub added : new ≡ old ++ (place, lookahead) ∷ []
  pub ordered : in_order lookahead
  pub apart : (item : ℕ × L) (others : List (ℕ × L)) → kernel ≡ item ∷ others → item.0 ≡ place → ⊥

abbrev pub AddsJoined : {L : Type 0} → (L → List ℕ) → (L → Type 0) → List (ℕ × L) → ℕ → L → List (ℕ × L) →
    List (ℕ × L) → List (ℕ × L) → Type 0
AddsJoined marks in_order kernel place lookahead old new rest =
    JoinsFirst marks in_order kernel place lookahead old new rest ⊎ AddsAlone in_order kernel place lookahead old new rest
