-- Kernels in order of first sight, and how many of them were given out, for sets of kernels.
use Rattle.std.specs.Prelude.{ℕ, Bool, List, ◌∷◌, ◌++◌, [], if◌then◌else◌}
use Rattle.std.specs.List.{list_any, position_or_len}

-- all kernels that were seen, in order of first sight; the first `given` of them were given out
pub record Queue (K : Type 0) : Type 0 where
  pub kernels : List K
  pub given : ℕ

abbrev pub queue_of : {K : Type 0} → List K → ℕ → Queue K
queue_of ks n = record { kernels = ks; given = n }

module _ {K : Type 0} (eq : K → K → Bool) where
  -- the place of the first kernel that is equal, or else the place behind all kernels
  abbrev pub number_in : List K → K → ℕ
  number_in ks k = position_or_len (eq k) ks

  -- the same where an equal kernel was seen, or else with the kernel behind all others
  abbrev pub with_kernel : Queue K → K → Queue K
  with_kernel q k = queue_of (if list_any (eq k) q.kernels then q.kernels else q.kernels ++ k ∷ []) q.given
