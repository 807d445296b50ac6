-- Why the search ends: an entry falls, or a rule is done with.
use Rattle.std.proofs.Common.{◌≡◌, ℕ, zero, suc, ◌+◌, ◌*◌, ◌<◌, ◌≤◌, List, [], ◌∷◌, length, arith}
use Rattle.std.specs.Prelude.{slice_index_or}
use Rattle.std.proofs.Math.Nat.{mul-le-mul_left}

-- how long lists are together
abbrev pub total : List (List ℕ) → ℕ
total [] = 0
total (l ∷ ls) = length l + total ls

one_of_total : (ls : List (List ℕ)) (s : ℕ) → length (slice_index_or ls s []) ≤ total ls
one_of_total [] s = omega arith
one_of_total (l ∷ ls) zero = omega arith
one_of_total (l ∷ ls) (suc s) = let r = one_of_total ls s in omega arith

-- the measure falls where a count falls, one rule is taken, and no more wait again than stand in one list
pub falls : (ls : List (List ℕ)) (s old new waited taken pushed : ℕ) → new < old → suc taken ≡ waited →
    pushed ≤ taken + length (slice_index_or ls s []) → suc (total ls) * new + pushed < suc (total ls) * old + waited
falls ls s old new waited taken pushed less one more =
    let step : suc (total ls) * suc new ≤ suc (total ls) * old = mul-le-mul_left (suc (total ls)) less in
    let part = one_of_total ls s in
    omega (arith, step, part, less, one, more)
