-- The case partners that pairs of characters give to a range.
use Rattle.std.specs.Prelude.{ℕ, not, ◌&&◌, List, map}
use Rattle.std.specs.List.{filter}
use Rattle.lalrpop_lexer_pattern.specs.Sets.{in_range}
use Rattle.lalrpop_lexer_pattern.specs.declared.class.Range.{Range}

-- each second character of a pair whose first the range holds, where it doesn't hold the second too
abbrev pub partners_of : Range → List (ℕ × ℕ) → List Range
partners_of r pairs =
    map (λ (p : ℕ × ℕ). record { start = p.1; end = p.1 }) (filter (λ p. in_range r p.0 && not (in_range r p.1)) pairs)
