-- What stands at the end of a list, and what alone stands in one: for lists that get one element more at a time.
use Rattle.std.proofs.Common.{◌≡◌, List, [], ◌∷◌, ◌++◌, length, Some, refl, ⊎_elim, arith, Contains}
use Rattle.std.specs.Prelude.{slice_get}
use Rattle.lalrpop_lr1_theory.proofs.ListLemmas.{contains_split}

-- the element at the end
pub at_end : {X : Type 0} (xs : List X) (x : X) → slice_get (xs ++ x ∷ []) (length xs) ≡ Some x
at_end [] x = refl
at_end (y ∷ xs) x = at_end xs x

-- what alone stands in a list
pub alone : {X : Type 0} (x y : X) → Contains (x ∷ []) y → x ≡ y
alone x y c = ⊎_elim (λ e. e) (λ d. absurd (omega (arith, d.1))) (contains_split x y [] c)
