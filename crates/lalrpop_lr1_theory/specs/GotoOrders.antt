-- The order in which state 0 comes first, then the other states with gotos, then the rest: for the answers of the builders of states.
use Rattle.std.specs.Prelude.{ℕ, ◌<◌, ◌⊎◌, List, [], Some, ◌≡◌, slice_get}
use Rattle.lalrpop_lr1_theory.specs.States.{State}

-- the state with this number is the first, or has gotos
abbrev pub IsInFront : List State → ℕ → Type 0
IsInFront states n = (n ≡ 0) ⊎ ((state : State) × (slice_get states n ≡ Some state) × (state.gotos ≡ [] → ⊥))

-- the numbers of the states in front are below those of the rest, and both rise as the old ones do
pub record AreInGotoOrder (states : List State) (numbers : List ℕ) : Type 0 where
  pub front_first : (n k a b : ℕ) → slice_get numbers n ≡ Some a → slice_get numbers k ≡ Some b → IsInFront states n →
      (IsInFront states k → ⊥) → a < b
  pub front_rises : (n k a b : ℕ) → slice_get numbers n ≡ Some a → slice_get numbers k ≡ Some b → IsInFront states n →
      IsInFront states k → n < k → a < b
  pub rest_rises : (n k a b : ℕ) → slice_get numbers n ≡ Some a → slice_get numbers k ≡ Some b →
      (IsInFront states n → ⊥) → (IsInFront states k → ⊥) → n < k → a < b
