-- The paths of a graph with a loop between two nonterminals and with two edges into each of them, computed: in order, and two wrong answers.
use Rattle.std.proofs.Common.{◌≡◌, ℕ, zero, suc, Bool, true, false, List, [], ◌∷◌, length, refl, ap, arith}
use Rattle.lalrpop_lane_report.specs.Paths.{PathGraph, left_at, left_beside, paths}

-- an edge, by the node from which it leads and a number; nodes 0, 3 and 4 are items, 1 and 2 nonterminals
abbrev Edge : Type 0
Edge = ℕ × ℕ

abbrev one_zero : Edge
one_zero = (1, 0)

abbrev three_one : Edge
three_one = (3, 1)

abbrev two_one : Edge
two_one = (2, 2)

abbrev one_two : Edge
one_two = (1, 3)

abbrev four_two : Edge
four_two = (4, 4)

abbrev three_two : Edge
three_two = (3, 5)

abbrev into : ℕ → List Edge
into zero = one_zero ∷ []
into (suc zero) = two_one ∷ three_one ∷ []
into (suc (suc zero)) = three_two ∷ four_two ∷ one_two ∷ []
into (suc (suc (suc n))) = []

abbrev item_at : ℕ → Bool
item_at zero = true
item_at (suc zero) = false
item_at (suc (suc zero)) = false
item_at (suc (suc (suc n))) = true

abbrev looped : PathGraph Edge
looped = record { from = λ e. e.0; incoming = into; is_item = item_at }

-- through the newer edge first; the loop leads nowhere
all_three : paths looped 6 [] 0
    ≡ (one_zero ∷ two_one ∷ three_two ∷ []) ∷ (one_zero ∷ two_one ∷ four_two ∷ []) ∷ (one_zero ∷ three_one ∷ []) ∷ []
all_three = refl

from_three : paths looped 6 [] 3 ≡ []
from_three = refl

-- within two edges only one is found
within_two : paths looped 2 [] 0 ≡ (one_zero ∷ three_one ∷ []) ∷ []
within_two = refl

abbrev first_length : List (List Edge) → ℕ
first_length [] = 0
first_length (p ∷ ps) = length p

-- the older edge doesn't come first, and the loop isn't walked
older_first : paths looped 6 [] 0
    ≡ (one_zero ∷ three_one ∷ []) ∷ (one_zero ∷ two_one ∷ three_two ∷ []) ∷ (one_zero ∷ two_one ∷ four_two ∷ []) ∷ [] → ⊥
older_first e = let z : 3 ≡ 2 = ap first_length e in omega (arith, z)

loop_walked : paths looped 6 [] 0 ≡ (one_zero ∷ two_one ∷ three_two ∷ []) ∷ (one_zero ∷ two_one ∷ four_two ∷ [])
    ∷ (one_zero ∷ two_one ∷ one_two ∷ three_one ∷ []) ∷ (one_zero ∷ three_one ∷ []) ∷ [] → ⊥
loop_walked e = let z : 3 ≡ 4 = ap length e in omega (arith, z)

-- what is left in the midst of a walk: behind the newest edge of node 1, one edge of node 2 was looked at
midway : left_at looped 5 ((two_one, three_one ∷ []) ∷ (one_zero, []) ∷ []) (four_two ∷ one_two ∷ [])
    ≡ (one_zero ∷ two_one ∷ four_two ∷ []) ∷ (one_zero ∷ three_one ∷ []) ∷ []
midway = refl

at_a_path : left_beside looped 5 ((three_two, four_two ∷ one_two ∷ []) ∷ (two_one, three_one ∷ []) ∷ (one_zero, []) ∷ []) ≡ paths looped 6 [] 0
at_a_path = refl
