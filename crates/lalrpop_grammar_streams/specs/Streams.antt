-- What a call of a watched reader takes.
use Rattle.std.specs.Prelude.{◌≡◌, ℕ, ◌<◌, Bool, true, false, List, ◌++◌, length, take, Option, Some, None, Result, Ok, Err}
use Rattle.std.specs.Prelude.{⊤}
use Rattle.std.specs.Io.KnownBytes.{Appends, Consumes, IsAtEnd, Keeps}

-- At `Ok(n)` the n bytes that it gave, none only at the end or with no room; nothing where it was interrupted; after a
-- failure nothing is said.
abbrev pub TakesFrom : {E : Type 0} → (E → Type 0) → Option (List ℕ) → Option (List ℕ) → Result ℕ E → List ℕ → Type 0
TakesFrom IsInterrupted old new (Ok n) buf = Consumes old new (take n buf) × (n ≡ 0 → 0 < length buf → IsAtEnd new)
TakesFrom IsInterrupted old new (Err e) buf = IsInterrupted e → Keeps old new

-- what is read to the end
abbrev pub ReadsAll : Option (List ℕ) → List ℕ → Type 0
ReadsAll None bytes = ⊤
ReadsAll (Some xs) bytes = bytes ≡ xs

-- All of the text is written, or a front of it where the writer failed.
abbrev pub Writes : Option (List ℕ) → Option (List ℕ) → List ℕ → Bool → Type 0
Writes old new text false = Appends old new text
Writes old new text true = (front rest : List ℕ) × (text ≡ front ++ rest) × Appends old new front
