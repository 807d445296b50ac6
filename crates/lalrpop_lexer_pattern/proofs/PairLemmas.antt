-- Pairs of a first and a last number as ranges, for the sets that Unicode's tables give.
use Rattle.std.proofs.Common.{◌≡◌, ℕ, ◌&&◌, ◌||◌, nat_le, List, [], ◌∷◌, map, refl, ap}
use Rattle.unicode.specs.Rows.{in_ranges as in_pairs}
use Rattle.lalrpop_lexer_pattern.specs.Sets.{in_range, in_ranges}
use Rattle.lalrpop_lexer_pattern.proofs.SetLemmas.{range_from}

-- pairs hold the same numbers when they are taken as ranges
pub in_ranges-pairs : (ps : List (ℕ × ℕ)) (c : ℕ)
    → in_ranges (map (λ (p : ℕ × ℕ). range_from p.0 p.1) ps) c ≡ in_pairs ps c
unfolding in_ranges in_range in_pairs
in_ranges-pairs [] c = refl
in_ranges-pairs (p ∷ ps) c = ap (λ b. (nat_le p.0 c && nat_le c p.1) || b) (in_ranges-pairs ps c)
