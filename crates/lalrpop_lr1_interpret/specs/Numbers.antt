-- Names at their numbers, and more behind them: for numbering, and for tables.
use Rattle.std.specs.Prelude.{◌≡◌, ◌++◌, ℕ, List, Some, slice_get}

-- each of the list has one number
abbrev pub HaveOneNumber : {X : Type 0} → List X → Type 0
HaveOneNumber {X} xs = (j k : ℕ) (x : X) → slice_get xs j ≡ Some x → slice_get xs k ≡ Some x → j ≡ k

-- The names go on: each number that stood for a name stands for it still, and each has one number, if each had one.
pub record GoOn {X : Type 0} (old new : List X) : Type 0 where
  pub more : List X
  pub parts : new ≡ old ++ more
  pub apart : HaveOneNumber old → HaveOneNumber new
