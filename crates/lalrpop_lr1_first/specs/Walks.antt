-- Walks over places, from the first on or from the last: for sweeps, which go both ways in turn.
use Rattle.std.specs.Prelude.{ℕ, suc, ◌-◌, Bool, if◌then◌else◌}

-- the place at a step of a walk over so many
abbrev pub place_in_walk : Bool → ℕ → ℕ → ℕ
place_in_walk forward count step = if forward then step else count - suc step
