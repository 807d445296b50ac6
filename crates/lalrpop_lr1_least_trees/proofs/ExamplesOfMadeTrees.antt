-- Computed: the trees of two shifts, with leaves numbered from 3 on.
use Rattle.std.proofs.Common.{◌≡◌, ℕ, List, [], ◌∷◌, refl, ap, arith}
use Rattle.lalrpop_grammar_symbols.specs.Symbols.{TextSpan}
use Rattle.lalrpop_lr1_theory.specs.Spans.{SpannedForest, leaf_at, none_at}
use Rattle.lalrpop_lr1_theory.specs.Trees.{Move, leaf, none, shift}
use Rattle.lalrpop_lr1_theory.proofs.ExampleLemmas.{quoted, quoted_same}
use Rattle.lalrpop_lr1_least_trees.specs.SpanNumbers.{AreMade, numbered_spans}

abbrev two_shifts : List Move
two_shifts = shift (quoted 7) ∷ shift (quoted 8) ∷ []

abbrev two_leaves : TextSpan → TextSpan → SpannedForest
two_leaves one other = leaf_at (quoted 7) one (leaf_at (quoted 8) other none_at)

its_spans : numbered_spans 3 2 ≡ (3, 4) ∷ (4, 5) ∷ []
its_spans = refl

-- the right trees
made_right : AreMade two_shifts 3 (two_leaves (3, 4) (4, 5))
made_right = record { trees_are = λ g lead. lead; spans = refl }

-- numbered from elsewhere, one number twice, and leaves in another order
from_elsewhere : AreMade two_shifts 3 (two_leaves (0, 1) (1, 2)) → ⊥
from_elsewhere h = omega (arith, ap from h.spans)
  where
    from : List TextSpan → ℕ
    from [] = 0
    from (s ∷ ss) = s.0

one_twice : AreMade two_shifts 3 (two_leaves (3, 4) (3, 4)) → ⊥
one_twice h = omega (arith, ap second h.spans)
  where
    second : List TextSpan → ℕ
    second [] = 0
    second (s ∷ []) = 0
    second (s ∷ u ∷ us) = u.0

other_order : AreMade two_shifts 3 (leaf_at (quoted 8) (3, 4) (leaf_at (quoted 7) (4, 5) none_at)) → ⊥
other_order h = omega (arith, quoted_same 8 7 (first_leaf (h.trees_are (leaf (quoted 7) (leaf (quoted 8) none)) refl)))
  where
    first_leaf : leaf (quoted 8) (leaf (quoted 7) none) ≡ leaf (quoted 7) (leaf (quoted 8) none) → quoted 8 ≡ quoted 7
    first_leaf e = cc
