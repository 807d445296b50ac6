-- Measures of a search in a written tree: a part has less to search than the whole; so that the search ends.
use Rattle.std.proofs.Common.{◌≡◌, ◌+◌, ◌*◌, ◌<◌, ◌≤◌, ◌⊎◌, ℕ, zero, suc, List, [], ◌∷◌}
use Rattle.std.proofs.Common.{true, false, cond, ap, arith}
use Rattle.std.proofs.Common.{inl, inr}
use Rattle.std.specs.Prelude.{drop, max}
use Rattle.lalrpop_run_trees.specs.PartViews.{AllWithin, IsInside, shown_part}
use Rattle.lalrpop_run_trees.specs.TreeSizes.{tree_size}
use Rattle.lalrpop_run_trees.specs.declared.tree_parts.tree_part.TreePart.{TreePart}

-- how many trees stand in a part, each counted more than what passing an inner part down counts
abbrev pub size_measure : TreePart → ℕ
size_measure q = tree_size (shown_part q) * 68719476736

-- what is left to search in a part, which is passed down so often at most where it is the whole
abbrev pub part_measure : TreePart → ℕ → ℕ
part_measure q passes = size_measure q + cond q.is_inside 34359738392 (8 * passes)

-- the most that is left of some parts
abbrev pub parts_measure : List TreePart → ℕ → ℕ
parts_measure [] passes = 0
parts_measure (q ∷ qs) passes = max (part_measure q passes) (parts_measure qs passes)

-- no part of a list measures more than the most that is left of its parts
pub part_below : (qs rest : List TreePart) (i : ℕ) (q : TreePart) (passes : ℕ) → drop i qs ≡ q ∷ rest →
    part_measure q passes ≤ parts_measure qs passes
part_below [] rest zero q passes e = absurd (cc)
part_below [] rest (suc i) q passes e = absurd (cc)
part_below (p ∷ qs) rest zero q passes e =
    let same : p ≡ q = cc in
    let equal : part_measure p passes ≡ part_measure q passes = ap (λ x. part_measure x passes) same in omega (arith, equal)
part_below (p ∷ qs) rest (suc i) q passes e = omega (arith, part_below qs rest i q passes e)

outside_measure : (q : TreePart) (passes : ℕ) → q.is_inside ≡ false → part_measure q passes ≡ size_measure q + 8 * passes
outside_measure q passes e = ap (λ b. size_measure q + cond b 34359738392 (8 * passes)) e

inside_measure : (q : TreePart) (passes : ℕ) → q.is_inside ≡ true → part_measure q passes ≡ size_measure q + 34359738392
inside_measure q passes e = ap (λ b. size_measure q + cond b 34359738392 (8 * passes)) e

within_part : (whole q : TreePart) (passes : ℕ) → whole.is_inside ≡ false →
    (q ≡ whole) ⊎ IsInside (tree_size (shown_part whole)) q → part_measure q passes ≤ size_measure whole + 8 * passes
within_part whole q passes outside (inl same) =
    let equal : part_measure q passes ≡ part_measure whole passes = ap (λ x. part_measure x passes) same in
    omega (arith, equal, outside_measure whole passes outside)
within_part whole q passes outside (inr inside) = omega (arith, inside.smaller, inside_measure q passes inside.marked)

-- parts that lie within the whole measure no more than the whole does
pub within_measure : (whole : TreePart) (qs : List TreePart) (passes : ℕ) → whole.is_inside ≡ false → AllWithin whole qs →
    parts_measure qs passes ≤ size_measure whole + 8 * passes
within_measure whole [] passes outside h = omega arith
within_measure whole (q ∷ qs) passes outside h =
    omega (arith, within_part whole q passes outside h.0, within_measure whole qs passes outside h.1)

-- the search of a part inside, and of the whole
pub inside_less : (q : TreePart) (passes : ℕ) → q.is_inside ≡ true → size_measure q + 8 * 4294967298 + 5 < part_measure q passes
inside_less q passes e = omega (arith, inside_measure q passes e)

pub outside_less : (q : TreePart) (passes less : ℕ) → q.is_inside ≡ false → less < passes →
    size_measure q + 8 * less + 5 < part_measure q passes
outside_less q passes less e h = omega (arith, outside_measure q passes e, h)
