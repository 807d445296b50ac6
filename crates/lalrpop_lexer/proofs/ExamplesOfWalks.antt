-- The definitions of dead ends computed on a small automaton, beside answers that they refuse.
use Rattle.std.proofs.Common.{◌≡◌, List, [], ◌∷◌, Some, None, is_some, true, false, refl, ap, arith}
use Rattle.std.specs.Str.{chars}
use Rattle.lalrpop_lexer.specs.Simulation.{StateView}
use Rattle.lalrpop_lexer.specs.Walks.{IsDeadEnd, IsDeadEndAt}

-- the entries `a` and `a*b`: state 1 is behind one `a`, state 3 behind more, state 2 behind `b`
nodes : List StateView
nodes =
    (None, (97, 97, 1) ∷ (98, 98, 2) ∷ []) ∷ (Some 0, (97, 97, 3) ∷ (98, 98, 2) ∷ []) ∷ (Some 1, []) ∷
    (None, (97, 97, 3) ∷ (98, 98, 2) ∷ []) ∷ []

-- at the text's end, and before `aa`, nothing comes of state 3
at_the_end : IsDeadEnd nodes 3 []
unfolding nodes chars
at_the_end = λ n best. refl

before_more : IsDeadEnd nodes 3 (97 ∷ 97 ∷ [])
unfolding nodes chars
before_more = λ n best. refl

-- before `b` the second entry comes of it
before_the_last_refused : IsDeadEnd nodes 3 (98 ∷ []) → ⊥
unfolding nodes chars
before_the_last_refused h = let off : true ≡ false = ap is_some (h 0 None) in absurd cc

-- before `a` the first state finds the first entry
from_the_first_refused : IsDeadEnd nodes 0 (97 ∷ []) → ⊥
unfolding nodes chars
from_the_first_refused h = let off : true ≡ false = ap is_some (h 0 None) in absurd cc

-- one byte before the end of `ba`, but not of `ab`
one_left : IsDeadEndAt nodes (98 ∷ 97 ∷ []) (3, 1)
unfolding nodes chars
one_left = λ within n best. refl

one_left_refused : IsDeadEndAt nodes (97 ∷ 98 ∷ []) (3, 1) → ⊥
unfolding nodes chars
one_left_refused h = let off : true ≡ false = ap is_some (h (omega arith) 0 None) in absurd cc

-- of a text with fewer bytes nothing is said
more_than_there_are : IsDeadEndAt nodes (98 ∷ []) (3, 2)
more_than_there_are = λ within. absurd (omega (arith, within))
