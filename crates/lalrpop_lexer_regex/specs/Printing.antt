-- The text that a pattern prints as. For the law that such a text is read back.
use Rattle.std.specs.Prelude.{ℕ, ◌==◌, nat_lt, nat_le, Bool, true, false, not, ◌&&◌, List, [], ◌∷◌, ◌++◌}
use Rattle.std.specs.Prelude.{length, Option, Some, None, codes, if◌then◌else◌}
use Rattle.std.specs.List.{filter}
use Rattle.std.specs.Fmt.{decimal, digits}
use Rattle.lalrpop_lexer_pattern.specs.Matches.{Pattern}
use Rattle.lalrpop_lexer_pattern.specs.declared.class.Range.{Range}
use Rattle.lalrpop_lexer_pattern.specs.declared.tree.Look.{Look}
use Rattle.lalrpop_lexer_pattern.specs.declared.tree.Look.TheVariants.{Start, End, WordBoundary, NotWordBoundary}
use Rattle.lalrpop_lexer_regex.specs.GroupNames.{is_name_start, is_name_more}

-- Where a pattern is printed: alone, so that bars may stand in it; among patterns one after another; in front of a repetition.
pub data Place : Type 0 where
  alone : Place
  in_sequence : Place
  in_repetition : Place

abbrev pub is_repetition_place : Place → Bool
is_repetition_place Place.alone = false
is_repetition_place Place.in_sequence = false
is_repetition_place Place.in_repetition = true

abbrev pub has_no_bars : Place → Bool
has_no_bars Place.alone = false
has_no_bars Place.in_sequence = true
has_no_bars Place.in_repetition = true

-- in a group without a number, or as it is
abbrev pub group_if : Bool → List ℕ → List ℕ
group_if true text = codes "(?:" ++ text ++ codes ")"
group_if false text = text

-- a character by its number, as `\x{6A}`
abbrev pub character_text : ℕ → List ℕ
character_text c = 92 ∷ codes "x{" ++ digits 16 true c ++ codes "}"

abbrev pub literal_text : List ℕ → List ℕ
literal_text [] = []
literal_text (c ∷ cs) = character_text c ++ literal_text cs

abbrev pub ranges_text : List Range → List ℕ
ranges_text [] = []
ranges_text (r ∷ rs) = character_text r.start ++ codes "-" ++ character_text r.end ++ ranges_text rs

-- the ranges that hold a character
abbrev pub nonempty_ranges : List Range → List Range
nonempty_ranges rs = filter (λ (r : Range). nat_le r.start r.end) rs

-- the class that holds no character: all that are none of Unicode's
abbrev pub nothing_text : List ℕ
nothing_text = codes "[^" ++ ranges_text (record { start = 0; end = 0x10_FFFF } ∷ []) ++ codes "]"

abbrev pub bracket_text : List Range → List ℕ
bracket_text [] = nothing_text
bracket_text (r ∷ rs) = codes "[" ++ ranges_text (r ∷ rs) ++ codes "]"

abbrev pub class_text : List Range → List ℕ
class_text rs = bracket_text (nonempty_ranges rs)

-- `\A`, `\z`, `\b` and `\B`
abbrev pub look_text : Look → List ℕ
look_text Start = 92 ∷ codes "A"
look_text End = 92 ∷ codes "z"
look_text WordBoundary = 92 ∷ codes "b"
look_text NotWordBoundary = 92 ∷ codes "B"

abbrev pub is_all_more : List ℕ → Bool
is_all_more [] = true
is_all_more (c ∷ cs) = is_name_more c && is_all_more cs

-- a group may be named so in a text
abbrev pub is_group_name : List ℕ → Bool
is_group_name [] = false
is_group_name (c ∷ cs) = is_name_start c && is_all_more cs

-- what stands behind the bracket of a group: its name, where it has one that can be written
abbrev pub name_mark : Option (List ℕ) → List ℕ
name_mark None = []
name_mark (Some name) = if is_group_name name then codes "?P<" ++ name ++ codes ">" else []

-- the greatest count is less than the least
abbrev pub bounds_fall : ℕ → Option ℕ → Bool
bounds_fall min None = false
bounds_fall min (Some max) = nat_lt max min

abbrev pub greatest_text : Option ℕ → List ℕ
greatest_text None = []
greatest_text (Some max) = decimal max

abbrev pub lazy_mark : Bool → List ℕ
lazy_mark true = []
lazy_mark false = codes "?"

-- `{2,}`, `{2,3}`, and a question mark behind it where the repetition is lazy
abbrev pub bounds_text : ℕ → Option ℕ → Bool → List ℕ
bounds_text min max greedy = codes "{" ++ decimal min ++ codes "," ++ greatest_text max ++ codes "}" ++ lazy_mark greedy

-- the class without ranges, with which each list of alternatives ends
abbrev pub is_nothing : Pattern → Bool
is_nothing (Pattern.class []) = true
is_nothing _ = false

-- The pattern as a text, at its place. In front of a repetition a group stands around what isn't one piece, and among patterns
-- one after another around bars. A repetition whose bounds fall matches nothing and prints as the class that does. An
-- alternative that is that class is left out where it comes last.
abbrev pub print : Pattern → Place → List ℕ
print Pattern.empty place = group_if (is_repetition_place place) []
print (Pattern.literal cs) place = group_if (is_repetition_place place && not (length cs == 1)) (literal_text cs)
print (Pattern.class ranges) place = class_text ranges
print (Pattern.look l) place = look_text l
print (Pattern.capture name p) place = codes "(" ++ name_mark name ++ print p Place.alone ++ codes ")"
print (Pattern.repetition min max greedy p) place =
    if bounds_fall min max then nothing_text else print p Place.in_repetition ++ bounds_text min max greedy
print (Pattern.concat p q) place = group_if (is_repetition_place place) (print p Place.in_sequence ++ print q Place.in_sequence)
print (Pattern.alternation p q) place =
    if is_nothing q then print p place else group_if (has_no_bars place) (print p Place.alone ++ codes "|" ++ print q Place.alone)
