-- Of which patterns the law speaks. How deep groups and classes stand in one another is counted in the printed text.
use Rattle.std.specs.Prelude.{◌≡◌, ℕ, ◌+◌, ◌-◌, ◌≤◌, max, ◌==◌, true, false, ◌||◌, List, [], ◌∷◌}
use Rattle.std.specs.Prelude.{IfSome, if◌then◌else◌}
use Rattle.lalrpop_lexer_pattern.specs.Matches.{Pattern}
use Rattle.lalrpop_lexer_pattern.specs.Sets.{is_scalar}
use Rattle.lalrpop_lexer_pattern.specs.declared.class.Range.{Range}
use Rattle.lalrpop_lexer_regex.specs.Printing.{Place, is_group_name, bounds_fall, print}

-- the most brackets that stand open at once in the text, where so many stand open in front of it
abbrev pub open_brackets : ℕ → List ℕ → ℕ
open_brackets depth [] = depth
open_brackets depth (c ∷ t) =
    if (c == 40) || (c == 91) then open_brackets (depth + 1) t
    else (if (c == 41) || (c == 93) then max depth (open_brackets (depth - 1) t) else open_brackets depth t)

abbrev pub AreScalars : List ℕ → Type 0
AreScalars [] = Unit {0}
AreScalars (c ∷ cs) = (is_scalar c ≡ true) × AreScalars cs

abbrev pub HaveScalarEnds : List Range → Type 0
HaveScalarEnds [] = Unit {0}
HaveScalarEnds (r ∷ rs) = (is_scalar r.start ≡ true) × (is_scalar r.end ≡ true) × HaveScalarEnds rs

-- the literals and the ends of ranges are scalar values
abbrev pub HasScalars : Pattern → Type 0
HasScalars Pattern.empty = Unit {0}
HasScalars (Pattern.literal cs) = AreScalars cs
HasScalars (Pattern.class ranges) = HaveScalarEnds ranges
HasScalars (Pattern.look l) = Unit {0}
HasScalars (Pattern.capture name p) = HasScalars p
HasScalars (Pattern.repetition min max greedy p) = HasScalars p
HasScalars (Pattern.concat p q) = HasScalars p × HasScalars q
HasScalars (Pattern.alternation p q) = HasScalars p × HasScalars q

-- the counts are at most 1,000
abbrev pub HasSmallCounts : Pattern → Type 0
HasSmallCounts Pattern.empty = Unit {0}
HasSmallCounts (Pattern.literal cs) = Unit {0}
HasSmallCounts (Pattern.class ranges) = Unit {0}
HasSmallCounts (Pattern.look l) = Unit {0}
HasSmallCounts (Pattern.capture name p) = HasSmallCounts p
HasSmallCounts (Pattern.repetition min max greedy p) = (min ≤ 1000) × IfSome max (λ m. m ≤ 1000) × HasSmallCounts p
HasSmallCounts (Pattern.concat p q) = HasSmallCounts p × HasSmallCounts q
HasSmallCounts (Pattern.alternation p q) = HasSmallCounts p × HasSmallCounts q

-- the pattern is printed as a text that the syntax has room for
pub record IsPrintable (p : Pattern) : Type 0 where
  pub scalars : HasScalars p
  pub counts : HasSmallCounts p
  pub nesting : open_brackets 0 (print p Place.alone) ≤ 250

-- no name is left out and no bounds fall where the pattern is printed
abbrev pub IsPrintedInFull : Pattern → Type 0
IsPrintedInFull Pattern.empty = Unit {0}
IsPrintedInFull (Pattern.literal cs) = Unit {0}
IsPrintedInFull (Pattern.class ranges) = Unit {0}
IsPrintedInFull (Pattern.look l) = Unit {0}
IsPrintedInFull (Pattern.capture name p) = IfSome name (λ n. is_group_name n ≡ true) × IsPrintedInFull p
IsPrintedInFull (Pattern.repetition min max greedy p) = (bounds_fall min max ≡ false) × IsPrintedInFull p
IsPrintedInFull (Pattern.concat p q) = IsPrintedInFull p × IsPrintedInFull q
IsPrintedInFull (Pattern.alternation p q) = IsPrintedInFull p × IsPrintedInFull q
