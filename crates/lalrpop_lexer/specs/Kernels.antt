-- Kernels with their numbers: those of one state in a table by that state, and all others in a map.
use Rattle.std.specs.Prelude.{◌≡◌, ℕ, ◌+◌, ◌<◌, ◌⊎◌, ◌↔◌, List, [], ◌∷◌, Option, Some, None, map, Contains, Vec}
use Rattle.std.specs.declared.alloc.Global.{Global}

-- the kernels of one state that a table numbers, whose first place is that of this state
abbrev pub single_kernels : ℕ → List (Option ℕ) → List (List ℕ × ℕ)
single_kernels q [] = []
single_kernels q (None ∷ table) = single_kernels (q + 1) table
single_kernels q (Some n ∷ table) = (q ∷ [], n) ∷ single_kernels (q + 1) table

-- the kernels that a map numbers
abbrev pub mapped_kernels : List (Vec ℕ Global × ℕ) → List (List ℕ × ℕ)
mapped_kernels entries = map (λ (e : Vec ℕ Global × ℕ). (e.0.items, e.1)) entries

-- the kernel is one state, which is below the count
abbrev pub IsSingle : ℕ → List ℕ → Type 0
IsSingle count kernel = (q : ℕ) × (kernel ≡ q ∷ []) × (q < count)

-- new has the kernels of old, and this one with its number
abbrev pub HasOneKernelMore : List ℕ × ℕ → List (List ℕ × ℕ) → List (List ℕ × ℕ) → Type 0
HasOneKernelMore one old new = (k : List ℕ × ℕ) → Contains new k ↔ (Contains old k ⊎ (k ≡ one))
