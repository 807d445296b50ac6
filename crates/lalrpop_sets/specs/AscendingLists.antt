-- Ascending lists of numbers, for all sets of tokens.
use Rattle.std.specs.Prelude.{ℕ, suc, ◌≤◌, Bool, true, false, ◌||◌, List, [], ◌∷◌, nat_eq}

-- whether the list has the number
abbrev pub has : List ℕ → ℕ → Bool
has [] k = false
has (x ∷ xs) k = nat_eq x k || has xs k

-- ascending, from a on
abbrev pub AscendsFrom : ℕ → List ℕ → Type 0
AscendsFrom a [] = Unit {0}
AscendsFrom a (x ∷ xs) = (a ≤ x) × AscendsFrom (suc x) xs

-- ascending, each number once
abbrev pub Ascends : List ℕ → Type 0
Ascends s = AscendsFrom 0 s

-- whether the list has something
abbrev pub is_nonempty : List ℕ → Bool
is_nonempty [] = false
is_nonempty (x ∷ xs) = true
