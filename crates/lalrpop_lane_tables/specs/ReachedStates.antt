-- States that are put into a set, and the states to which noted edges lead: for the states in which a merge begins.
use Rattle.std.specs.Prelude.{List, [], ◌∷◌, ◌≡◌, ◌⊎◌, ◌↔◌, Contains, flat_map}
use Rattle.std.specs.BTreeSet.{BTreeSet, insert_key}
use Rattle.std.specs.Ordering.{nat_cmp}
use Rattle.std.specs.declared.cmp.Ordering.{Ordering}
use Rattle.lalrpop_lr1_core.specs.declared.state_index.StateIndex.{StateIndex}

-- states in order of their numbers
abbrev pub index_cmp : StateIndex → StateIndex → Ordering
index_cmp x y = nat_cmp x.0 y.0

-- the set of states, with those of the list put in
abbrev pub states_with : List StateIndex → List StateIndex → List StateIndex
states_with states [] = states
states_with states (x ∷ xs) = states_with (insert_key index_cmp states x) xs

-- the states to which edges were noted, row by row
abbrev pub led_to : List (StateIndex × BTreeSet StateIndex) → List StateIndex
led_to rows = flat_map (λ (e : StateIndex × BTreeSet StateIndex). e.1.keys) rows

-- the state is reached, or comes
abbrev pub ComesUnless : List StateIndex → StateIndex → List StateIndex → List StateIndex → Type 0
ComesUnless reached k old new =
    (Contains reached k × (new ≡ old)) ⊎ ((Contains reached k → ⊥) × ((n : StateIndex) → Contains new n ↔ (Contains old n ⊎ (k ≡ n))))
