-- What marks gain: for marking names, productions and states.
use Rattle.std.specs.Prelude.{ℕ, ◌≡◌, ◌↔◌, ◌⊎◌, Bool, true, List, [], ◌∷◌, Contains, length, set}
use Rattle.lalrpop_lr1_barren.specs.Clauses.{IsMarked}

-- with each of these numbers marked, one after another; those past the end add nothing
abbrev pub marks_with : List Bool → List ℕ → List Bool
marks_with marks [] = marks
marks_with marks (n ∷ ns) = marks_with (set marks n true) ns

-- the new marks are the old ones and these
pub record GainsMarks (old new : List Bool) (Mark : ℕ → Type 0) : Type 0 where
  pub count : length new ≡ length old
  pub marks : (n : ℕ) → IsMarked new n ↔ (IsMarked old n ⊎ Mark n)

-- no marks are new, and none of these numbers is marked any more
pub record LosesMarks (numbers : List ℕ) (old new : List Bool) : Type 0 where
  pub count : length new ≡ length old
  pub kept : (n : ℕ) → IsMarked new n → IsMarked old n
  pub lost : (n : ℕ) → Contains numbers n → IsMarked new n → ⊥

-- one of the list marks the number
abbrev pub IsMarkOfSome : {X : Type 0} → (X → ℕ → Type 0) → List X → ℕ → Type 0
IsMarkOfSome {X} Mark xs n = (x : X) × Contains xs x × Mark x n
