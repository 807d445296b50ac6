-- Classes as they are printed: what is read of them holds the same characters. For the pieces of a pattern.
use Rattle.std.proofs.Common.{◌≡◌, ◌↔◌, ℕ, suc, ◌+◌, ◌≤◌, Bool, true, false, ◌&&◌, ◌||◌, not}
use Rattle.std.proofs.Common.{nat_le, List, [], ◌∷◌, ◌++◌, length, Ok, refl, sym, ap, ◌∙◌, inl, inr, arith}
use Rattle.std.proofs.Common.{true≢false, append_assoc, lit≤}
use Rattle.std.proofs.lemmas.Bool.{cases_Bool, or_cases, cases_lt, both_ways, and_parts, not-true}
use Rattle.std.proofs.lemmas.Bool.Decides.{nat_tests}
use Rattle.lalrpop_lexer_pattern.specs.Ranges.{InRanges}
use Rattle.lalrpop_lexer_pattern.specs.Matches.{Pattern}
use Rattle.lalrpop_lexer_pattern.specs.Sets.{is_scalar, in_range, in_ranges, union_of, complement_of, IsRising}
use Rattle.lalrpop_lexer_pattern.specs.declared.class.Range.{Range}
use Rattle.lalrpop_lexer_pattern.proofs.SetLemmas.{in_range_tells, in_ranges-nil, in_ranges-cons}
use Rattle.lalrpop_lexer_pattern.proofs.SetLemmas.{in_ranges-above_max, in_ranges-ranges_of, ranges_of-rises, rises_from-nil}
use Rattle.lalrpop_lexer_pattern.proofs.SetLemmas.{or_assoc, or-false}
use Rattle.lalrpop_lexer_pattern.proofs.MemberLemmas.{members_of_a_test, InRanges-from, in_ranges-from}
use Rattle.lalrpop_lexer_regex.specs.ClassItems.{range_set}
use Rattle.lalrpop_lexer_regex.specs.SetEscapes.{finished_set}
use Rattle.lalrpop_lexer_regex.specs.Classes.{class_at, class_item_at, class_items_from}
use Rattle.lalrpop_lexer_regex.proofs.ClassLemmas.{IsUnderWay, items_start, items_more, items_end, class_is}
use Rattle.lalrpop_lexer_regex.specs.Atoms.{plain_atom_at}
use Rattle.lalrpop_lexer_regex.specs.Printing.{ranges_text, nonempty_ranges, bracket_text, class_text}
use Rattle.lalrpop_lexer_regex.specs.Printable.{HaveScalarEnds}
use Rattle.lalrpop_lexer_regex.specs.Complements.{ArePrinted, caret_text}
use Rattle.lalrpop_lexer_regex.proofs.CharacterLemmas.{behind_backslash, range_behind, range_front, range_item, atom_read}
use Rattle.lalrpop_lexer_regex.proofs.CharacterLemmas.{length-behind}

-- what is read of printed ranges, beside a set
abbrev pub joined_set : List Range → List Range → List Range
joined_set set [] = set
joined_set set (r ∷ rs) = joined_set (union_of set (range_set r.start r.end)) rs

in_range_set : (r : Range) (c : ℕ) → c ≤ 0x10_FFFF → in_ranges (range_set r.start r.end) c ≡ in_range r c
unfolding range_set
in_range_set r c h =
    in_ranges-ranges_of (in_ranges (r ∷ [])) c h ∙ in_ranges-cons r [] c
    ∙ ap (λ b. in_range r c || b) (in_ranges-nil c) ∙ or-false (in_range r c)

-- a code point is in what is read beside a set just where it is in the set or in one of the ranges
pub in_joined : (rs set : List Range) (c : ℕ) → c ≤ 0x10_FFFF
    → in_ranges (joined_set set rs) c ≡ (in_ranges set c || in_ranges rs c)
in_joined [] set c h = sym (ap (λ b. in_ranges set c || b) (in_ranges-nil c) ∙ or-false (in_ranges set c))
in_joined (r ∷ rs) set c h =
    in_joined rs (union_of set (range_set r.start r.end)) c h
    ∙ ap (λ b. b || in_ranges rs c) (in_ranges-ranges_of (λ x. in_ranges set x || in_ranges (range_set r.start r.end) x) c h
    ∙ ap (λ b. in_ranges set c || b) (in_range_set r c h))
    ∙ sym (or_assoc (in_ranges set c) (in_range r c) (in_ranges rs c))
    ∙ ap (λ b. in_ranges set c || b) (sym (in_ranges-cons r rs c))

joined_rises : (rs set : List Range) → IsRising set → IsRising (joined_set set rs)
joined_rises [] set h = h
joined_rises (r ∷ rs) set h =
    joined_rises rs (union_of set (range_set r.start r.end))
    (ranges_of-rises (λ x. in_ranges set x || in_ranges (range_set r.start r.end) x))

ends_within : (rs : List Range) (c : ℕ) → ArePrinted rs → in_ranges rs c ≡ true → c ≤ 0x10_FFFF
ends_within [] c all h = absurd (true≢false (sym h ∙ in_ranges-nil c))
ends_within (r ∷ rs) c all h = elim (or_cases (in_range r c) (in_ranges rs c) (sym (in_ranges-cons r rs c) ∙ h)) [
  | inl here ↦ elim (in_range_tells r c) [
    | inl ok ↦
        let scalar : is_scalar r.end ≡ true = all.1 in
        let high : r.end ≤ 0x10_FFFF = grind (arith, nat_tests) in
        omega (arith, ok.2)
    | inr out ↦ absurd (both_ways _ out.0 here)
  ]
  | inr later ↦ ends_within rs c all.3 later
]

-- printed ranges are read as a set with the same members
joined_members : (rs : List Range) (c : ℕ) → ArePrinted rs → InRanges (joined_set [] rs) c ↔ InRanges rs c
joined_members rs c all = (
  λ m.
      let is = in_ranges-from (joined_set [] rs) c m in
      elim (cases_lt 0x10_FFFF c) [
        | inl above ↦ absurd (both_ways _ (in_ranges-above_max 0 (joined_set [] rs) c (joined_rises rs [] (rises_from-nil 0)) above) is)
        | inr within ↦
            InRanges-from rs c (sym (ap (λ b. b || in_ranges rs c) (in_ranges-nil c)) ∙ sym (in_joined rs [] c within) ∙ is)
      ],
  λ m.
      let is = in_ranges-from rs c m in
      InRanges-from (joined_set [] rs) c (in_joined rs [] c (ends_within rs c all is) ∙ ap (λ b. b || in_ranges rs c) (in_ranges-nil c)
      ∙ is),
)

-- the ranges that hold a character hold all that the ranges hold
nonempty_members : (rs : List Range) (c : ℕ) → in_ranges (nonempty_ranges rs) c ≡ in_ranges rs c
nonempty_members [] c = refl
nonempty_members (r ∷ rs) c = elim (cases_Bool (nat_le r.start r.end)) [
  | inl some ↦ rw some (in_ranges-cons r (nonempty_ranges rs) c ∙ ap (λ b. in_range r c || b) (nonempty_members rs c)
      ∙ sym (in_ranges-cons r rs c))
  | inr none ↦
      let out : in_range r c ≡ false = elim (in_range_tells r c) [
        | inl ok ↦ let low : r.start ≤ c = ok.1 in let high : c ≤ r.end = ok.2 in absurd (grind (arith, nat_tests))
        | inr out ↦ out.0
      ] in
      rw none (nonempty_members rs c ∙ sym (in_ranges-cons r rs c ∙ ap (λ b. b || in_ranges rs c) out))
]

-- where the ends of ranges are scalar values, those that hold a character are ranges as they are printed
pub nonempty_printed : (rs : List Range) → HaveScalarEnds rs → ArePrinted (nonempty_ranges rs)
nonempty_printed [] h = tt
nonempty_printed (r ∷ rs) h = elim (cases_Bool (nat_le r.start r.end)) [
  | inl some ↦
      let order : r.start ≤ r.end = grind (arith, nat_tests) in
      rw some (h.0, h.1, order, nonempty_printed rs h.2)
  | inr none ↦ rw none (nonempty_printed rs h.2)
]

one_range : (d : ℕ) (whole t : List ℕ) (r : Range) (rs set : List Range) (is_first : Bool) → ArePrinted (r ∷ rs)
    → IsUnderWay (class_item_at d false) whole (ranges_text (r ∷ rs) ++ t) is_first set
    → IsUnderWay (class_item_at d false) whole (ranges_text rs ++ t) false (union_of set (range_set r.start r.end))
one_range d whole t r rs set is_first all w =
    let after = ranges_text rs ++ t in
    let behind = length-behind r.start (45 ∷ 92 ∷ behind_backslash r.end after) in
    items_more (class_item_at d false) whole (ranges_text (r ∷ rs) ++ t) (range_behind r.start r.end after) 92 is_first set
    (range_front r rs t) w (range_set r.start r.end) after refl
    (ap (λ l. class_item_at d false is_first l) (range_front r rs t) ∙ range_item _ is_first r.start r.end after all.0 all.1 all.2)
    (omega (arith, ap length (range_front r rs t), length-behind r.end after, behind))

all_ranges : (d : ℕ) (whole t : List ℕ) (rs set : List Range) → ArePrinted rs
    → IsUnderWay (class_item_at d false) whole (ranges_text rs ++ 93 ∷ t) false set
    → class_items_from (class_item_at d false) (length whole + 1) true [] whole ≡ Ok (joined_set set rs, t)
all_ranges d whole t [] set all w = items_end (class_item_at d false) whole (93 ∷ t) t 93 false set refl w refl
all_ranges d whole t (r ∷ rs) set all w =
    all_ranges d whole t rs (union_of set (range_set r.start r.end)) all.3 (one_range d whole (93 ∷ t) r rs set false all w)

items_read : (d : ℕ) (t : List ℕ) (r : Range) (rs : List Range) → ArePrinted (r ∷ rs) →
    class_items_from (class_item_at d false) (length (ranges_text (r ∷ rs) ++ 93 ∷ t) + 1) true [] (ranges_text (r ∷ rs) ++ 93 ∷ t)
    ≡ Ok (joined_set [] (r ∷ rs), t)
items_read d t r rs all =
    let whole = ranges_text (r ∷ rs) ++ 93 ∷ t in
    all_ranges d whole t rs (union_of [] (range_set r.start r.end)) all.3
    (one_range d whole (93 ∷ t) r rs [] true all (items_start (class_item_at d false) whole [] refl))

finished : (s : List Range) → finished_set false false s ≡ s
unfolding finished_set
finished s = refl

finished_complement : (s : List Range) → finished_set false true s ≡ complement_of s
unfolding finished_set
finished_complement s = refl

brackets_read : (d left : ℕ) (t : List ℕ) (r : Range) (rs : List Range) → ArePrinted (r ∷ rs)
    → class_at (suc d) false left (ranges_text (r ∷ rs) ++ 93 ∷ t) ≡ Ok (joined_set [] (r ∷ rs), t)
unfolding class_at
brackets_read d left t r rs all =
    let text = ranges_text (r ∷ rs) ++ 93 ∷ t in
    class_is (class_item_at d false) false text text t false (joined_set [] (r ∷ rs)) refl (items_read d t r rs all)
    ∙ ap (λ s. Ok (s, t)) (finished (joined_set [] (r ∷ rs)))

-- all characters, in one range
abbrev pub all_characters : Range
all_characters = record { start = 0; end = 0x10_FFFF }

complement_read : (d left : ℕ) (t : List ℕ) (r : Range) (rs : List Range) → ArePrinted (r ∷ rs)
    → class_at (suc d) false left (94 ∷ (ranges_text (r ∷ rs) ++ 93 ∷ t)) ≡ Ok (complement_of (joined_set [] (r ∷ rs)), t)
unfolding class_at
complement_read d left t r rs all =
    let inner = ranges_text (r ∷ rs) ++ 93 ∷ t in
    class_is (class_item_at d false) false (94 ∷ inner) inner t true (joined_set [] (r ∷ rs)) refl (items_read d t r rs all)
    ∙ ap (λ s. Ok (s, t)) (finished_complement (joined_set [] (r ∷ rs)))

-- the complement of all characters has no member
nothing_left : (c : ℕ) → InRanges (complement_of (joined_set [] (all_characters ∷ []))) c → ⊥
nothing_left c m =
    let s = joined_set [] (all_characters ∷ []) in
    let is = (members_of_a_test (λ x. is_scalar x && not (in_ranges s x)) c).0 m in
    let outside : not (in_ranges s c) ≡ true = (and_parts (is_scalar c) (not (in_ranges s c)) is.1).1 in
    let all : InRanges (all_characters ∷ []) c = (all_characters, (0, omega arith, refl), omega arith, is.0) in
    let inside = in_ranges-from s c ((joined_members (all_characters ∷ []) c (refl, refl, lit≤ tt, tt)).1 all) in
    both_ways (in_ranges s c) (not-true (in_ranges s c) outside) inside

-- the set that a printed class is read as
abbrev pub bracket_set : List Range → List Range
bracket_set [] = complement_of (joined_set [] (all_characters ∷ []))
bracket_set (r ∷ rs) = joined_set [] (r ∷ rs)

-- a class that begins with a caret is read as an atom
pub caret_read : (d : ℕ) (t : List ℕ) (r : Range) (rs : List Range) → ArePrinted (r ∷ rs)
    → atom_read (suc d) (caret_text (r ∷ rs) ++ t) ≡ Ok (Pattern.class (complement_of (joined_set [] (r ∷ rs))), t)
unfolding plain_atom_at
caret_read d t r rs all =
    ap (λ l. atom_read (suc d) (91 ∷ 94 ∷ l)) (append_assoc (ranges_text (r ∷ rs)) (93 ∷ []) t)
    ∙ rw (complement_read d (length (91 ∷ 94 ∷ (ranges_text (r ∷ rs) ++ 93 ∷ t))) t r rs all) refl

-- a printed class is read as an atom
pub bracket_read : (d : ℕ) (t : List ℕ) (rs : List Range) → ArePrinted rs
    → atom_read (suc d) (bracket_text rs ++ t) ≡ Ok (Pattern.class (bracket_set rs), t)
unfolding plain_atom_at
bracket_read d t [] all = caret_read d t all_characters [] (refl, refl, lit≤ tt, tt)
bracket_read d t (r ∷ rs) all =
    ap (λ l. atom_read (suc d) (91 ∷ l)) (append_assoc (ranges_text (r ∷ rs)) (93 ∷ []) t)
    ∙ rw (brackets_read d (length (91 ∷ (ranges_text (r ∷ rs) ++ 93 ∷ t))) t r rs all) refl

pub bracket_members : (rs : List Range) (c : ℕ) → ArePrinted rs → InRanges (bracket_set rs) c ↔ InRanges rs c
bracket_members [] c all = (
  λ m. absurd (nothing_left c m),
  λ m. absurd (true≢false (sym (in_ranges-from [] c m) ∙ in_ranges-nil c)),
)
bracket_members (r ∷ rs) c all = joined_members (r ∷ rs) c all

-- the set that a class is read as once it is printed
abbrev pub read_set : List Range → List Range
read_set rs = bracket_set (nonempty_ranges rs)

-- a printed class is read as a set with the same members
pub read_members : (rs : List Range) (c : ℕ) → HaveScalarEnds rs → InRanges (read_set rs) c ↔ InRanges rs c
read_members rs c h =
    let one = bracket_members (nonempty_ranges rs) c (nonempty_printed rs h) in (
      λ m. InRanges-from rs c (sym (nonempty_members rs c) ∙ in_ranges-from (nonempty_ranges rs) c (one.0 m)),
      λ m. one.1 (InRanges-from (nonempty_ranges rs) c (nonempty_members rs c ∙ in_ranges-from rs c m)),
    )

-- the text of a class is read as an atom: the class of the set that it is read as
pub class_read : (d : ℕ) (t : List ℕ) (rs : List Range) → HaveScalarEnds rs
    → atom_read (suc d) (class_text rs ++ t) ≡ Ok (Pattern.class (read_set rs), t)
class_read d t rs h = bracket_read d t (nonempty_ranges rs) (nonempty_printed rs h)

-- a printed class begins with a bracket
pub bracket_front : (rs : List Range) → (more : List ℕ) × (bracket_text rs ≡ 91 ∷ more)
bracket_front [] = (_, refl)
bracket_front (r ∷ rs) = (_, refl)
