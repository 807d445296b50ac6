-- How deep brackets stand in printed patterns, construct by construct. For the room that reading them takes.
use Rattle.std.proofs.Common.{◌≡◌, ℕ, suc, ◌+◌, ◌-◌, ◌^◌, ◌<◌, ◌≤◌, max, Bool, true, false, not}
use Rattle.std.proofs.Common.{◌==◌, ◌||◌, ◌&&◌, List, [], ◌∷◌, ◌++◌, length, Option, None, Some, refl, sym}
use Rattle.std.proofs.Common.{ap, ◌∙◌, inl, inr, arith, append_assoc, append-nil, lit≤}
use Rattle.std.proofs.lemmas.Bool.{cases_Bool, and_parts}
use Rattle.std.proofs.lemmas.Bool.Decides.{nat_tests}
use Rattle.std.proofs.lemmas.Fmt.{digits_is_IsNumeral}
use Rattle.std.specs.Prelude.{IfSome, if◌then◌else◌}
use Rattle.std.specs.Char.{digit_value}
use Rattle.std.specs.Fmt.{decimal, digits}
use Rattle.std.specs.Str.Parse.{AllDigits}
use Rattle.lalrpop_lexer_pattern.specs.Matches.{Pattern}
use Rattle.lalrpop_lexer_pattern.specs.Sets.{is_scalar}
use Rattle.lalrpop_lexer_pattern.specs.declared.class.Range.{Range}
use Rattle.lalrpop_lexer_pattern.specs.declared.tree.Look.{Look}
use Rattle.lalrpop_lexer_pattern.specs.declared.tree.Look.TheVariants.{Start, End, WordBoundary, NotWordBoundary}
use Rattle.lalrpop_lexer_regex.specs.GroupNames.{is_name_start, is_name_more}
use Rattle.lalrpop_lexer_regex.specs.Printing.{Place, is_repetition_place, has_no_bars, group_if, character_text, literal_text}
use Rattle.lalrpop_lexer_regex.specs.Printing.{ranges_text, nonempty_ranges, bracket_text, look_text}
use Rattle.lalrpop_lexer_regex.specs.Printing.{is_all_more, is_group_name, name_mark, bounds_fall, greatest_text, lazy_mark}
use Rattle.lalrpop_lexer_regex.specs.Printing.{bounds_text, is_nothing, print}
use Rattle.lalrpop_lexer_regex.specs.Printable.{open_brackets, AreScalars, HasScalars, HasSmallCounts}
use Rattle.lalrpop_lexer_regex.specs.Complements.{ArePrinted}
use Rattle.lalrpop_lexer_regex.proofs.ClassTextLemmas.{nonempty_printed, all_characters}

-- the brackets in the text are closed in it, and at most so many are open at once
abbrev pub Nests : List ℕ → ℕ → Type 0
Nests text n = (depth : ℕ) (t : List ℕ) → open_brackets depth (text ++ t) ≡ max (depth + n) (open_brackets depth t)

abbrev pub is_bracket : ℕ → Bool
is_bracket c = ((c == 40) || (c == 91)) || ((c == 41) || (c == 93))

abbrev pub HasNoBrackets : List ℕ → Type 0
HasNoBrackets [] = Unit {0}
HasNoBrackets (c ∷ t) = (is_bracket c ≡ false) × HasNoBrackets t

at_least : (depth : ℕ) (t : List ℕ) → depth ≤ open_brackets depth t
at_least depth [] = omega arith
at_least depth (c ∷ t) = elim (cases_Bool ((c == 40) || (c == 91))) [
  | inl opens ↦ rw opens (omega (arith, at_least (depth + 1) t))
  | inr others ↦ elim (cases_Bool ((c == 41) || (c == 93))) [
    | inl closes ↦ rw (others, closes) (omega arith)
    | inr plain ↦ rw (others, plain) (at_least depth t)
  ]
]

nests_flat : (text : List ℕ) → HasNoBrackets text → Nests text 0
nests_flat [] h = λ depth t. omega (arith, at_least depth t)
nests_flat (c ∷ text) h = λ depth t.
    let opens : ((c == 40) || (c == 91)) ≡ false = grind (arith, nat_tests) in
    let closes : ((c == 41) || (c == 93)) ≡ false = grind (arith, nat_tests) in
    rw (opens, closes) (nests_flat text h.1 depth t)

nests_append : (a b : List ℕ) (m n : ℕ) → Nests a m → Nests b n → Nests (a ++ b) (max m n)
nests_append a b m n v w = λ depth t.
    ap (open_brackets depth) (append_assoc a b t) ∙ v depth (b ++ t) ∙ ap (λ x. max (depth + m) x) (w depth t) ∙ omega arith

nests_same : (a : List ℕ) (m n : ℕ) → m ≡ n → Nests a m → Nests a n
nests_same a m n e w = rw e at w

-- a bracket closes
nests_close : (text : List ℕ) (n depth close : ℕ) (t : List ℕ) → Nests text n → ((close == 40) || (close == 91)) ≡ false
    → ((close == 41) || (close == 93)) ≡ true
    → open_brackets (depth + 1) ((text ++ close ∷ []) ++ t) ≡ max (depth + suc n) (open_brackets depth t)
nests_close text n depth close t w no_open closes =
    let less : depth + 1 - 1 ≡ depth = omega arith in
    let behind : open_brackets (depth + 1) (close ∷ t) ≡ max (depth + 1) (open_brackets depth t) = rw (no_open, closes, less) refl in
    ap (open_brackets (depth + 1)) (append_assoc text (close ∷ []) t) ∙ w (depth + 1) (close ∷ t)
    ∙ ap (λ x. max (depth + 1 + n) x) behind ∙ omega arith

-- a group
nests_group : (front text : List ℕ) (n : ℕ) → HasNoBrackets front → Nests text n
    → Nests (40 ∷ ((front ++ text) ++ 41 ∷ [])) (suc n)
nests_group front text n flat w = λ depth t.
    nests_close (front ++ text) n depth 41 t (nests_same (front ++ text) (max 0 n) n (omega arith)
    (nests_append front text 0 n (nests_flat front flat) w)) refl refl

-- a class
nests_class : (text : List ℕ) → HasNoBrackets text → Nests (91 ∷ (text ++ 93 ∷ [])) 1
nests_class text flat = λ depth t. nests_close text 0 depth 93 t (nests_flat text flat) refl refl

flat_append : (a b : List ℕ) → HasNoBrackets a → HasNoBrackets b → HasNoBrackets (a ++ b)
flat_append [] b h k = k
flat_append (c ∷ a) b h k = (h.0, flat_append a b h.1 k)

digit_flat : (c : ℕ) → digit_value c < 16 → is_bracket c ≡ false
digit_flat c h = grind (arith, nat_tests)

digits_flat : (ds : List ℕ) → AllDigits 16 ds → HasNoBrackets ds
digits_flat [] h = tt
digits_flat (c ∷ ds) h = (digit_flat c h.0, digits_flat ds h.1)

decimals_flat : (ds : List ℕ) → AllDigits 10 ds → HasNoBrackets ds
decimals_flat [] h = tt
decimals_flat (c ∷ ds) h = let small : digit_value c < 16 = omega (arith, h.0) in (digit_flat c small, decimals_flat ds h.1)

decimal_flat : (n : ℕ) → n ≤ 1000 → HasNoBrackets (decimal n)
decimal_flat n small =
    let fits : n < 10 ^ 64 = omega arith in
    decimals_flat (decimal n) (digits_is_IsNumeral 10 false (lit≤ tt) (lit≤ tt) n fits).0.1

character_flat : (c : ℕ) → is_scalar c ≡ true → HasNoBrackets (character_text c)
character_flat c scalar =
    let fits : c < 16 ^ 64 = grind (arith, nat_tests) in
    let hex = digits_flat (digits 16 true c) (digits_is_IsNumeral 16 true (lit≤ tt) (lit≤ tt) c fits).0.1 in
    (refl, (refl, (refl, flat_append (digits 16 true c) (125 ∷ []) hex (refl, tt))))

literal_flat : (cs : List ℕ) → AreScalars cs → HasNoBrackets (literal_text cs)
literal_flat [] h = tt
literal_flat (c ∷ cs) h = flat_append (character_text c) (literal_text cs) (character_flat c h.0) (literal_flat cs h.1)

ranges_flat : (rs : List Range) → ArePrinted rs → HasNoBrackets (ranges_text rs)
ranges_flat [] h = tt
ranges_flat (r ∷ rs) h =
    let start = character_flat r.start h.0 in
    let end = character_flat r.end h.1 in
    flat_append ((character_text r.start ++ 45 ∷ []) ++ character_text r.end) (ranges_text rs)
    (flat_append (character_text r.start ++ 45 ∷ []) (character_text r.end)
    (flat_append (character_text r.start) (45 ∷ []) start (refl, tt)) end)
    (ranges_flat rs h.3)

nests_bracket : (rs : List Range) → ArePrinted rs → Nests (bracket_text rs) 1
nests_bracket [] h =
    nests_class (94 ∷ ranges_text (all_characters ∷ [])) (refl, ranges_flat (all_characters ∷ []) (refl, refl, lit≤ tt, tt))
nests_bracket (r ∷ rs) h = nests_class (ranges_text (r ∷ rs)) (ranges_flat (r ∷ rs) h)

name_more_flat : (cs : List ℕ) → is_all_more cs ≡ true → HasNoBrackets cs
name_more_flat [] h = tt
name_more_flat (c ∷ cs) h =
    let parts = and_parts (is_name_more c) (is_all_more cs) h in
    let one : is_name_more c ≡ true = parts.0 in
    let flat : is_bracket c ≡ false = grind (arith, nat_tests) in
    (flat, name_more_flat cs parts.1)

name_flat : (name : List ℕ) → is_group_name name ≡ true → HasNoBrackets name
name_flat [] h = absurd (cc)
name_flat (c ∷ cs) h =
    let parts = and_parts (is_name_start c) (is_all_more cs) h in
    let one : is_name_start c ≡ true = parts.0 in
    let flat : is_bracket c ≡ false = grind (arith, nat_tests) in
    (flat, name_more_flat cs parts.1)

mark_flat : (name : Option (List ℕ)) → HasNoBrackets (name_mark name)
mark_flat None = tt
mark_flat (Some name) = elim (cases_Bool (is_group_name name)) [
  | inl is ↦ rw is (refl, (refl, (refl, flat_append name (62 ∷ []) (name_flat name is) (refl, tt))))
  | inr other ↦ rw other tt
]

greatest_flat : (max : Option ℕ) → IfSome max (λ m. m ≤ 1000) → HasNoBrackets (greatest_text max)
greatest_flat None h = tt
greatest_flat (Some m) h = decimal_flat m h

lazy_flat : (greedy : Bool) → HasNoBrackets (lazy_mark greedy)
lazy_flat true = tt
lazy_flat false = (refl, tt)

bounds_flat : (min : ℕ) (max : Option ℕ) (greedy : Bool) → min ≤ 1000 → IfSome max (λ m. m ≤ 1000)
    → HasNoBrackets (bounds_text min max greedy)
bounds_flat min max greedy least greatest = (
  refl,
  flat_append (((decimal min ++ 44 ∷ []) ++ greatest_text max) ++ 125 ∷ []) (lazy_mark greedy)
      (flat_append ((decimal min ++ 44 ∷ []) ++ greatest_text max) (125 ∷ [])
      (flat_append (decimal min ++ 44 ∷ []) (greatest_text max)
      (flat_append (decimal min) (44 ∷ []) (decimal_flat min least) (refl, tt)) (greatest_flat max greatest)) (refl, tt))
      (lazy_flat greedy),
)

-- so many brackets are open where a group is put around the text, or not
abbrev pub nesting_if : Bool → ℕ → ℕ
nesting_if true n = suc n
nesting_if false n = n

-- how many brackets are open at once in the print of a pattern
abbrev pub nesting : Pattern → Place → ℕ
nesting Pattern.empty place = nesting_if (is_repetition_place place) 0
nesting (Pattern.literal cs) place = nesting_if (is_repetition_place place && not (length cs == 1)) 0
nesting (Pattern.class ranges) place = 1
nesting (Pattern.look l) place = 0
nesting (Pattern.capture name p) place = suc (nesting p Place.alone)
nesting (Pattern.repetition least greatest greedy p) place =
    if bounds_fall least greatest then 1 else nesting p Place.in_repetition
nesting (Pattern.concat p q) place =
    nesting_if (is_repetition_place place) (max (nesting p Place.in_sequence) (nesting q Place.in_sequence))
nesting (Pattern.alternation p q) place =
    if is_nothing q then nesting p place else nesting_if (has_no_bars place) (max (nesting p Place.alone) (nesting q Place.alone))

nests_if : (b : Bool) (text : List ℕ) (n : ℕ) → Nests text n → Nests (group_if b text) (nesting_if b n)
nests_if true text n w = nests_group (63 ∷ 58 ∷ []) text n (refl, (refl, tt)) w
nests_if false text n w = w

nests_look : (l : Look) → Nests (look_text l) 0
nests_look Start = nests_flat (look_text Start) (refl, (refl, tt))
nests_look End = nests_flat (look_text End) (refl, (refl, tt))
nests_look WordBoundary = nests_flat (look_text WordBoundary) (refl, (refl, tt))
nests_look NotWordBoundary = nests_flat (look_text NotWordBoundary) (refl, (refl, tt))

-- the print of a pattern has so many brackets open at once
nests_print : (p : Pattern) (place : Place) → HasScalars p → HasSmallCounts p → Nests (print p place) (nesting p place)
nests_print Pattern.empty place s k = nests_if (is_repetition_place place) [] 0 (nests_flat [] tt)
nests_print (Pattern.literal cs) place s k =
    nests_if (is_repetition_place place && not (length cs == 1)) (literal_text cs) 0 (nests_flat (literal_text cs) (literal_flat cs s))
nests_print (Pattern.class ranges) place s k = nests_bracket (nonempty_ranges ranges) (nonempty_printed ranges s)
nests_print (Pattern.look l) place s k = nests_look l
nests_print (Pattern.capture name p) place s k =
    nests_group (name_mark name) (print p Place.alone) (nesting p Place.alone) (mark_flat name) (nests_print p Place.alone s k)
nests_print (Pattern.repetition least greatest greedy p) place s k = elim (cases_Bool (bounds_fall least greatest)) [
  | inl falls ↦ rw falls (nests_bracket [] tt)
  | inr rises ↦ rw rises (
      let inner = nesting p Place.in_repetition in
      nests_same (print p Place.in_repetition ++ bounds_text least greatest greedy) (max inner 0) inner (omega arith)
      (nests_append (print p Place.in_repetition) (bounds_text least greatest greedy) inner 0 (nests_print p Place.in_repetition s k.2)
      (nests_flat (bounds_text least greatest greedy) (bounds_flat least greatest greedy k.0 k.1))))
]
nests_print (Pattern.concat p q) place s k =
    nests_if (is_repetition_place place) (print p Place.in_sequence ++ print q Place.in_sequence)
    (max (nesting p Place.in_sequence) (nesting q Place.in_sequence))
    (nests_append (print p Place.in_sequence) (print q Place.in_sequence) (nesting p Place.in_sequence) (nesting q Place.in_sequence)
    (nests_print p Place.in_sequence s.0 k.0) (nests_print q Place.in_sequence s.1 k.1))
nests_print (Pattern.alternation p q) place s k = elim (cases_Bool (is_nothing q)) [
  | inl nothing ↦ rw nothing (nests_print p place s.0 k.0)
  | inr something ↦ rw something (
      let front = nesting p Place.alone in
      let back = nesting q Place.alone in
      nests_if (has_no_bars place) ((print p Place.alone ++ 124 ∷ []) ++ print q Place.alone) (max front back)
      (nests_append (print p Place.alone ++ 124 ∷ []) (print q Place.alone) front back
      (nests_same (print p Place.alone ++ 124 ∷ []) (max front 0) front (omega arith)
      (nests_append (print p Place.alone) (124 ∷ []) front 0 (nests_print p Place.alone s.0 k.0) (nests_flat (124 ∷ []) (refl, tt))))
      (nests_print q Place.alone s.1 k.1)))
]

-- the nesting is that of the text
pub nesting_of_print : (p : Pattern) → HasScalars p → HasSmallCounts p
    → nesting p Place.alone ≤ open_brackets 0 (print p Place.alone)
nesting_of_print p s k =
    let is : open_brackets 0 (print p Place.alone) ≡ max (0 + nesting p Place.alone) 0 =
    ap (open_brackets 0) (sym (append-nil (print p Place.alone))) ∙ nests_print p Place.alone s k 0 [] in
    omega arith
