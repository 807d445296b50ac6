-- Each place has its step in a walk, from the first place on or from the last: for sweeps.
use Rattle.std.proofs.Common.{◌≡◌, ℕ, suc, ◌-◌, ◌<◌, Bool, true, false, refl, arith}
use Rattle.lalrpop_lr1_first.specs.Walks.{place_in_walk}

-- the step at which a walk is at a place
pub walk_step : (forward : Bool) (count place : ℕ) → place < count →
    (step : ℕ) × (step < count) × (place_in_walk forward count step ≡ place)
walk_step true count place within = (place, within, refl)
walk_step false count place within = (count - suc place, omega (arith, within), omega (arith, within))

-- a walk stays among its places
pub walk_within : (forward : Bool) (count step : ℕ) → step < count → place_in_walk forward count step < count
walk_within true count step within = within
walk_within false count step within = omega (arith, within)
