-- Computed examples of prints, with what is read of them, and near misses, to test the definitions.
use Rattle.std.proofs.Common.{◌≡◌, zero, suc, ◌*◌, true, false, List, [], ◌∷◌, ◌++◌, length, None, Some, Ok}
use Rattle.std.proofs.Common.{refl, sym, ap, ◌∙◌, arith, length-append, lit≤}
use Rattle.std.specs.Prelude.{ℕ, codes}
use Rattle.std.specs.Fmt.{digits}
use Rattle.lalrpop_lexer_pattern.specs.Matches.{Pattern, Matches, Power, concat_all, alternation_all}
use Rattle.lalrpop_lexer_pattern.specs.Refused.{refusal}
use Rattle.lalrpop_lexer_pattern.specs.declared.refusal.Refusal.TheVariants.{NonGreedy}
use Rattle.lalrpop_lexer_pattern.specs.declared.tree.Look.TheVariants.{WordBoundary}
use Rattle.lalrpop_lexer_regex.specs.Escapes.{escaped_character_at}
use Rattle.lalrpop_lexer_regex.specs.Atoms.{one_character, escaped_atom_at, plain_atom_at}
use Rattle.lalrpop_lexer_regex.specs.Repeats.{upper_at, bounds_at, repeat_sign_at, repeats_read}
use Rattle.lalrpop_lexer_regex.specs.GroupNames.{group_name_at, name_mark_at}
use Rattle.lalrpop_lexer_regex.specs.Patterns.{repeats_from, branches_from, factor_with, pattern_with, pattern_group_with, atom_with}
use Rattle.lalrpop_lexer_regex.specs.Patterns.{special_group_with, inner_at}
use Rattle.lalrpop_lexer_regex.specs.Regex.{whole_pattern}
use Rattle.lalrpop_lexer_regex.specs.Printing.{Place, bounds_text, literal_text, print}
use Rattle.lalrpop_lexer_regex.specs.Printable.{open_brackets, HasScalars, IsPrintable, IsPrintedInFull}
use Rattle.lalrpop_lexer_regex.specs.ReadBack.{IsReadBackAs}

abbrev letter : ℕ → Pattern
letter c = Pattern.literal (c ∷ [])

-- the word `ab`
abbrev word : Pattern
word = Pattern.literal (97 ∷ 98 ∷ [])

letters : print (Pattern.literal (106 ∷ 0x10_FFFF ∷ [])) Place.alone ≡ (92 ∷ codes "x{6A}") ++ (92 ∷ codes "x{10FFFF}")
unfolding digits
letters = refl

nothing : print (Pattern.class []) Place.alone ≡ codes "[^" ++ (92 ∷ codes "x{0}-") ++ (92 ∷ codes "x{10FFFF}]")
unfolding digits
nothing = refl

-- a range whose ends fall holds nothing
ranges : print (Pattern.class (record { start = 98; end = 97 } ∷ record { start = 48; end = 57 } ∷ [])) Place.alone
    ≡ codes "[" ++ (92 ∷ codes "x{30}-") ++ (92 ∷ codes "x{39}]")
unfolding digits
ranges = refl

optional : print (Pattern.repetition 0 (Some 1) true (letter 97)) Place.alone ≡ 92 ∷ codes "x{61}{0,1}"
unfolding digits
optional = refl

-- a repetition of a repetition takes no group
twice : print (Pattern.repetition 1 None false (Pattern.repetition 0 None true (letter 97))) Place.alone ≡ 92 ∷ codes "x{61}{0,}{1,}?"
unfolding digits
twice = refl

-- bounds that fall
falling : print (Pattern.repetition 3 (Some 2) true (letter 97)) Place.alone ≡ print (Pattern.class []) Place.alone
falling = refl

-- alternatives one after another take a group, those of a group none; the last, which matches nothing, is left out
choices : print (Pattern.concat (alternation_all (letter 97 ∷ letter 98 ∷ []))
    (Pattern.capture None (alternation_all (letter 97 ∷ [])))) Place.alone
    ≡ codes "(?:" ++ (92 ∷ codes "x{61}|") ++ (92 ∷ codes "x{62})(") ++ (92 ∷ codes "x{61})")
unfolding digits
choices = refl

-- a name that begins with a digit can't be written
names : print (Pattern.concat (Pattern.capture (Some (codes "a1")) Pattern.empty)
    (Pattern.capture (Some (codes "1a")) Pattern.empty)) Place.alone
    ≡ codes "(?P<a1>)()"
names = refl

-- what is read of the print of a named group
named : whole_pattern (print (Pattern.capture (Some (codes "a")) (Pattern.repetition 0 (Some 1) false word)) Place.alone)
    ≡ Ok (Pattern.capture (Some (codes "a")) (Pattern.repetition 0 (Some 1) false (concat_all (letter 97 ∷ letter 98 ∷ []))))
unfolding whole_pattern pattern_with branches_from factor_with atom_with pattern_group_with special_group_with inner_at name_mark_at
    group_name_at plain_atom_at escaped_atom_at escaped_character_at one_character repeats_from repeats_read repeat_sign_at bounds_at
    upper_at digits
named = refl

-- and of alternatives with a place in the text
placed : whole_pattern (print (alternation_all (Pattern.look WordBoundary ∷ word ∷ [])) Place.alone)
    ≡ Ok (alternation_all (Pattern.look WordBoundary ∷ concat_all (letter 97 ∷ letter 98 ∷ []) ∷ []))
unfolding whole_pattern pattern_with branches_from factor_with atom_with plain_atom_at escaped_atom_at escaped_character_at
    one_character repeats_from digits
placed = refl

-- without the group, only the last character is repeated
ungrouped : whole_pattern (literal_text (97 ∷ 98 ∷ []) ++ bounds_text 2 (Some 2) true)
    ≡ Ok (concat_all (letter 97 ∷ Pattern.repetition 2 (Some 2) true (letter 98) ∷ []))
unfolding whole_pattern pattern_with branches_from factor_with atom_with plain_atom_at escaped_atom_at escaped_character_at
    one_character repeats_from repeats_read repeat_sign_at bounds_at upper_at digits
ungrouped = refl

even : (k : ℕ) (w : List ℕ) → Power (Matches word) k w → length w ≡ 2 * k
even zero w h = ap length h
even (suc k) w h = omega (arith, ap length h.2, length-append h.0 h.1, ap length h.3, even k h.1 h.4)

-- such a text isn't read back as the word twice
needs_group : IsReadBackAs (literal_text (97 ∷ 98 ∷ []) ++ bounds_text 2 (Some 2) true)
    (Pattern.repetition 2 (Some 2) true word) → ⊥
needs_group h =
    let read : Pattern = concat_all (letter 97 ∷ Pattern.repetition 2 (Some 2) true (letter 98) ∷ []) in
    let one : Ok h.pattern ≡ Ok read = sym h.read ∙ ungrouped in
    let same : h.pattern ≡ read = cc in
    let here : Matches read (97 ∷ 98 ∷ 98 ∷ []) = (
      97 ∷ [],
      98 ∷ 98 ∷ [],
      refl,
      refl,
      (
        98 ∷ 98 ∷ [],
        [],
        refl,
        (2, (lit≤ tt, lit≤ tt), (98 ∷ [], 98 ∷ [], refl, refl, (98 ∷ [], [], refl, refl, refl))),
        refl,
      ),
    ) in
    let given : Matches h.pattern (97 ∷ 98 ∷ 98 ∷ []) = rw same here in
    let there = (h.same_words (97 ∷ 98 ∷ 98 ∷ [])).0 given in
    let is_even : 3 ≡ 2 * there.0 = even there.0 (97 ∷ 98 ∷ 98 ∷ []) there.2 in
    omega arith

-- the print of a greedy repetition isn't read back as the lazy one, though both match the same words
needs_mark : IsReadBackAs (print (Pattern.repetition 0 (Some 1) true (letter 97)) Place.alone)
    (Pattern.repetition 0 (Some 1) false (letter 97))
    → ⊥
unfolding whole_pattern pattern_with branches_from factor_with atom_with plain_atom_at escaped_atom_at escaped_character_at
    one_character repeats_from repeats_read repeat_sign_at bounds_at upper_at digits
needs_mark h =
    let one : Ok h.pattern ≡ Ok (Pattern.repetition 0 (Some 1) true (letter 97)) = sym h.read in
    let same : h.pattern ≡ Pattern.repetition 0 (Some 1) true (letter 97) = cc in
    let refused : refusal h.pattern ≡ Some NonGreedy = h.same_refusal (refl, tt) in
    let other : None ≡ Some NonGreedy = rw same at refused in
    absurd (cc)

-- so many groups in one another
abbrev tower : ℕ → Pattern
tower zero = Pattern.empty
tower (suc k) = Pattern.capture None (tower k)

deep : open_brackets 0 (print (tower 250) Place.alone) ≡ 250
deep = refl

-- one group more is too deep
too_deep : IsPrintable (tower 251) → ⊥
too_deep h = let is : open_brackets 0 (print (tower 251) Place.alone) ≡ 251 = refl in omega (arith, h.nesting)

-- the greatest count is 1,000
counted : IsPrintable (Pattern.repetition 1000 None true (letter 97))
unfolding digits
counted = record { scalars = (refl, tt); counts = (lit≤ tt, tt, tt); nesting = lit≤ tt }

too_many : IsPrintable (Pattern.repetition 1001 None true (letter 97)) → ⊥
too_many h = omega (arith, h.counts.0)

-- a surrogate is no scalar value
surrogate : HasScalars (letter 0xD800) → ⊥
surrogate h = absurd (cc (h.0))

-- a name that can't be written is left out
unnamed : IsPrintedInFull (Pattern.capture (Some (codes "1a")) Pattern.empty) → ⊥
unnamed h = absurd (cc (h.0))
