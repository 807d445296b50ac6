-- A numeral with a minus and one without: for the reader of numbers.
use Rattle.std.proofs.Common.{◌≡◌, ℕ, List, [], ◌∷◌, take, drop, slice_index_or, refl, sym, ◌∙◌}
use Rattle.std.proofs.Common.{Bool, true, false, ◌&&◌, ◌==◌, nat_eq}
use Rattle.std.specs.Cmp.Lexicographic.{pointwise}
use Rattle.fast_float.specs.Text.{scan}
use Rattle.serde_json.specs.Read.{number_of, number_from}

and_true : (b : Bool) → (b && true) ≡ b
and_true true = refl
and_true false = refl

-- both say whether the first byte is a minus
minus_first : (s : List ℕ) → pointwise nat_eq (take 1 s) (45 ∷ []) ≡ (slice_index_or s 0 0 == 45)
minus_first [] = refl
minus_first (c ∷ s) = and_true (c == 45)

pub behind_minus : (s : List ℕ) → pointwise nat_eq (take 1 s) (45 ∷ []) ≡ true → number_of s ≡ number_from true (scan (drop 1 s))
unfolding number_of
behind_minus s minus = rw (sym (minus_first s) ∙ minus)

pub without_minus : (s : List ℕ) → pointwise nat_eq (take 1 s) (45 ∷ []) ≡ false → number_of s ≡ number_from false (scan s)
unfolding number_of
without_minus s other = rw (sym (minus_first s) ∙ other)
