-- Lists that stand one behind another in one list, by the places where they end.
use Rattle.std.specs.Prelude.{◌≡◌, ℕ, zero, suc, ◌-◌, ◌≤◌, List, [], ◌∷◌, take, drop, slice_index_or}

-- the lists that end at these places, where the first begins at the start
abbrev pub lists_from : {T : Type 0} → List T → ℕ → List ℕ → List (List T)
lists_from items start [] = []
lists_from items start (end ∷ ends) = take (end - start) (drop start items) ∷ lists_from items end ends

-- each list ends behind the one before it, and the last one at the end of all
abbrev pub EndsAscend : ℕ → List ℕ → ℕ → Type 0
EndsAscend start [] total = start ≡ total
EndsAscend start (end ∷ ends) total = (start ≤ end) × EndsAscend end ends total

-- where the list at a place begins, of which the first begins at the start
abbrev pub slice_start : ℕ → List ℕ → ℕ → ℕ
slice_start start ends zero = start
slice_start start ends (suc k) = slice_index_or ends k 0
