-- What is read of sets of characters and of their complements: for the law on complements.
use Rattle.std.proofs.Common.{◌≡◌, ◌↔◌, ℕ, suc, ◌+◌, ◌<◌, ◌≤◌, Bool, true, false, not, ◌==◌}
use Rattle.std.proofs.Common.{◌&&◌, ◌||◌, List, [], ◌∷◌, ◌++◌, length, drop, Some, None, Ok, refl}
use Rattle.std.proofs.Common.{sym, ap, ◌∙◌, arith, append_assoc, nat_lt, length-append}
use Rattle.std.proofs.Math.Seq.{take-append_seam}
use Rattle.std.specs.List.{prefix_len}
use Rattle.std.proofs.lemmas.Bool.{and_parts, and_from, not-true}
use Rattle.std.proofs.lemmas.Bool.Decides.{nat_tests}
use Rattle.std.specs.Prelude.{IfSome, position}
use Rattle.unicode.specs.Lookup.{by_name}
use Rattle.unicode.specs.Loose.{normalize}
use Rattle.unicode.specs.Sets.{in_set}
use Rattle.unicode.specs.Perl.{is_word_char, is_digit_char, is_space_char}
use Rattle.lalrpop_lexer_pattern.specs.Matches.{Pattern}
use Rattle.lalrpop_lexer_pattern.specs.Ranges.{InRanges}
use Rattle.lalrpop_lexer_pattern.specs.Sets.{is_scalar, in_ranges, ranges_of, complement_of}
use Rattle.lalrpop_lexer_pattern.specs.declared.class.Range.{Range}
use Rattle.lalrpop_lexer_pattern.proofs.SetLemmas.{in_ranges-nil, in_ranges-ranges_of}
use Rattle.lalrpop_lexer_pattern.proofs.MemberLemmas.{members_of_a_test}
use Rattle.lalrpop_lexer_regex.specs.Properties.{split_at_first, set_by_name, keyed_set, property_at}
use Rattle.lalrpop_lexer_regex.specs.SetEscapes.{finished_set, base_set_at, escaped_set_at}
use Rattle.lalrpop_lexer_regex.specs.Atoms.{escaped_atom_at, plain_atom_at}
use Rattle.lalrpop_lexer_regex.specs.Regex.{whole_pattern}
use Rattle.lalrpop_lexer_regex.specs.Complements.{IsReadAsTest, IsReadAsRest, ArePrinted, caret_text, letter_text, property_text}
use Rattle.lalrpop_lexer_regex.specs.Complements.{is_plain_name, IsPropertyReadAs, IsNameRead}
use Rattle.lalrpop_lexer_regex.proofs.CharacterLemmas.{atom_read}
use Rattle.lalrpop_lexer_regex.proofs.ClassTextLemmas.{joined_set, in_joined, caret_read}
use Rattle.lalrpop_lexer_regex.proofs.ReadingLemmas.{starts_piece, piece_of_atom, sequence_of_piece, choice_of_sequence}
use Rattle.lalrpop_lexer_regex.proofs.GroupLemmas.{whole_choice}

-- a text that is one atom
atom_whole : (text more : List ℕ) (c : ℕ) (p : Pattern) → text ≡ c ∷ more → starts_piece c ≡ true → (c == 40) ≡ false
    → ((rest : List ℕ) → atom_read 250 (text ++ rest) ≡ Ok (p, rest)) → whole_pattern text ≡ Ok p
unfolding whole_pattern
atom_whole text more c p begins starts no_group read =
    let piece = piece_of_atom 250 c text more p begins starts no_group read in
    rw (whole_choice 250 text (p ∷ []) (choice_of_sequence 250 text (p ∷ []) (sequence_of_piece 250 text p piece))) refl

-- the complement of a set that is a test's
rest_members : (s : List Range) (test : ℕ → Bool) → ((c : ℕ) → c ≤ 0x10_FFFF → in_ranges s c ≡ test c) → (c : ℕ)
    → InRanges (complement_of s) c ↔ ((is_scalar c ≡ true) × (test c ≡ false))
rest_members s test same c =
    let both = members_of_a_test (λ x. is_scalar x && not (in_ranges s x)) c in (
      λ m.
          let is = both.0 m in
          let parts = and_parts (is_scalar c) (not (in_ranges s c)) is.1 in
          (parts.0, sym (same c is.0) ∙ not-true (in_ranges s c) parts.1),
      λ h.
          let scalar : is_scalar c ≡ true = h.0 in
          let within : c ≤ 0x10_FFFF = grind (arith, nat_tests) in
          both.1 (within, and_from (is_scalar c) (not (in_ranges s c)) scalar (ap not (same c within ∙ h.1))),
    )

-- a class that begins with a caret
pub caret_rest : (r : Range) (rs : List Range) → ArePrinted (r ∷ rs) → IsReadAsRest (caret_text (r ∷ rs)) (in_ranges (r ∷ rs))
caret_rest r rs all = record {
  ranges = complement_of (joined_set [] (r ∷ rs));
  read = atom_whole (caret_text (r ∷ rs)) _ 91 (Pattern.class (complement_of (joined_set [] (r ∷ rs)))) refl refl refl
      (λ rest. caret_read 249 rest r rs all);
  members = rest_members (joined_set [] (r ∷ rs)) (in_ranges (r ∷ rs))
      (λ c h. in_joined (r ∷ rs) [] c h ∙ ap (λ b. b || in_ranges (r ∷ rs) c) (in_ranges-nil c));
}

-- a text that is a test's set, and one that is its complement
test_set : (text more : List ℕ) (test : ℕ → Bool) → text ≡ 92 ∷ more
    → ((rest : List ℕ) → atom_read 250 (text ++ rest) ≡ Ok (Pattern.class (ranges_of test), rest)) → IsReadAsTest text test
test_set text more test begins read = record {
  ranges = ranges_of test;
  read = atom_whole text more 92 (Pattern.class (ranges_of test)) begins refl refl read;
  members = members_of_a_test test;
}

rest_set : (text more : List ℕ) (test : ℕ → Bool) → text ≡ 92 ∷ more
    → ((rest : List ℕ) → atom_read 250 (text ++ rest) ≡ Ok (Pattern.class (complement_of (ranges_of test)), rest))
    → IsReadAsRest text test
rest_set text more test begins read = record {
  ranges = complement_of (ranges_of test);
  read = atom_whole text more 92 (Pattern.class (complement_of (ranges_of test))) begins refl refl read;
  members = rest_members (ranges_of test) test (in_ranges-ranges_of test);
}

-- digits
pub digit_set : IsReadAsTest (letter_text 100) is_digit_char
unfolding plain_atom_at escaped_atom_at escaped_set_at base_set_at finished_set
digit_set = test_set (letter_text 100) (100 ∷ []) is_digit_char refl (λ rest. refl)

-- `\D` is read as the class of the scalar values that are no digits
pub digit_rest : IsReadAsRest (letter_text 68) is_digit_char
unfolding plain_atom_at escaped_atom_at escaped_set_at base_set_at finished_set
digit_rest = rest_set (letter_text 68) (68 ∷ []) is_digit_char refl (λ rest. refl)

-- white space
pub space_set : IsReadAsTest (letter_text 115) is_space_char
unfolding plain_atom_at escaped_atom_at escaped_set_at base_set_at finished_set
space_set = test_set (letter_text 115) (115 ∷ []) is_space_char refl (λ rest. refl)

-- `\S` is read as the class of the scalar values that are no white space
pub space_rest : IsReadAsRest (letter_text 83) is_space_char
unfolding plain_atom_at escaped_atom_at escaped_set_at base_set_at finished_set
space_rest = rest_set (letter_text 83) (83 ∷ []) is_space_char refl (λ rest. refl)

-- what words are made of
pub word_set : IsReadAsTest (letter_text 119) is_word_char
unfolding plain_atom_at escaped_atom_at escaped_set_at base_set_at finished_set
word_set = test_set (letter_text 119) (119 ∷ []) is_word_char refl (λ rest. refl)

-- `\W` is read as the class of the scalar values that words are not made of
pub word_rest : IsReadAsRest (letter_text 87) is_word_char
unfolding plain_atom_at escaped_atom_at escaped_set_at base_set_at finished_set
word_rest = rest_set (letter_text 87) (87 ∷ []) is_word_char refl (λ rest. refl)

-- the character doesn't stand in the text
abbrev lacks : ℕ → List ℕ → Bool
lacks mark [] = true
lacks mark (c ∷ cs) = not (c == mark) && lacks mark cs

plain_lacks : (name : List ℕ) → is_plain_name name ≡ true → (lacks 125 name ≡ true) × (lacks 61 name ≡ true)
plain_lacks [] h = (refl, refl)
plain_lacks (c ∷ cs) h =
    let parts = and_parts (not (c == 125) && not (c == 61)) (is_plain_name cs) h in
    let both = and_parts (not (c == 125)) (not (c == 61)) parts.0 in
    let rest = plain_lacks cs parts.1 in
    (and_from (not (c == 125)) (lacks 125 cs) both.0 rest.0, and_from (not (c == 61)) (lacks 61 cs) both.1 rest.1)

front_length : (mark : ℕ) (name t : List ℕ) → lacks mark name ≡ true
    → prefix_len (λ (x : ℕ). not (x == mark)) (name ++ mark ∷ t) ≡ length name
front_length mark [] t h = let here : (mark == mark) ≡ true = grind (arith, nat_tests) in rw here refl
front_length mark (c ∷ cs) t h =
    let parts = and_parts (not (c == mark)) (lacks mark cs) h in
    rw parts.0 (omega (arith, front_length mark cs t parts.1))

whole_length : (mark : ℕ) (name : List ℕ) → lacks mark name ≡ true
    → prefix_len (λ (x : ℕ). not (x == mark)) name ≡ length name
whole_length mark [] h = refl
whole_length mark (c ∷ cs) h =
    let parts = and_parts (not (c == mark)) (lacks mark cs) h in
    rw parts.0 (omega (arith, whole_length mark cs parts.1))

found_at : (mark : ℕ) (name t : List ℕ) → lacks mark name ≡ true
    → position (λ (c : ℕ). c == mark) (name ++ mark ∷ t) ≡ Some (length name)
found_at mark name t h =
    let less : nat_lt (length name) (length (name ++ mark ∷ t)) ≡ true =
    let shorter : length name < length (name ++ mark ∷ t) = omega (arith, length-append name (mark ∷ t)) in grind (arith, nat_tests) in
    rw (front_length mark name t h, less) refl

found_nowhere : (mark : ℕ) (name : List ℕ) → lacks mark name ≡ true → position (λ (c : ℕ). c == mark) name ≡ None
found_nowhere mark name h =
    let same : nat_lt (length name) (length name) ≡ false = grind (arith, nat_tests) in
    rw (whole_length mark name h, same) refl

drop_seam : (mark : ℕ) (name t : List ℕ) → drop (suc (length name)) (name ++ mark ∷ t) ≡ t
drop_seam mark [] t = refl
drop_seam mark (c ∷ cs) t = drop_seam mark cs t

split_found : (mark : ℕ) (name t : List ℕ) → lacks mark name ≡ true → split_at_first mark (name ++ mark ∷ t) ≡ Some (name, t)
split_found mark name t h =
    let next : length name + 1 ≡ suc (length name) = omega arith in
    rw (found_at mark name t h, next, take-append_seam name (mark ∷ t), drop_seam mark name t) refl

split_missing : (mark : ℕ) (name : List ℕ) → lacks mark name ≡ true → split_at_first mark name ≡ None
split_missing mark name h = rw (found_nowhere mark name h) refl

property_read : (left : ℕ) (name t : List ℕ) (test : ℕ → Bool) → lacks 125 name ≡ true
    → keyed_set left name ≡ Ok (ranges_of test) → property_at left (123 ∷ (name ++ 125 ∷ t)) ≡ Ok (ranges_of test, t)
unfolding property_at
property_read left name t test h read = rw (split_found 125 name t h, read) refl

property_atom : (name t : List ℕ) (test : ℕ → Bool) → lacks 125 name ≡ true
    → ((left : ℕ) → keyed_set left name ≡ Ok (ranges_of test))
    → atom_read 250 (92 ∷ 112 ∷ 123 ∷ (name ++ 125 ∷ t)) ≡ Ok (Pattern.class (ranges_of test), t)
unfolding plain_atom_at escaped_atom_at escaped_set_at base_set_at finished_set
property_atom name t test h read =
    let left = length (92 ∷ 112 ∷ 123 ∷ (name ++ 125 ∷ t)) in
    rw (property_read left name t test h (read left)) refl

no_property_atom : (name t : List ℕ) (test : ℕ → Bool) → lacks 125 name ≡ true
    → ((left : ℕ) → keyed_set left name ≡ Ok (ranges_of test))
    → atom_read 250 (92 ∷ 80 ∷ 123 ∷ (name ++ 125 ∷ t)) ≡ Ok (Pattern.class (complement_of (ranges_of test)), t)
unfolding plain_atom_at escaped_atom_at escaped_set_at base_set_at finished_set
no_property_atom name t test h read =
    let left = length (92 ∷ 80 ∷ 123 ∷ (name ++ 125 ∷ t)) in
    rw (property_read left name t test h (read left)) refl

property_sets : (name : List ℕ) (test : ℕ → Bool) → lacks 125 name ≡ true
    → ((left : ℕ) → keyed_set left name ≡ Ok (ranges_of test)) → IsPropertyReadAs name test
property_sets name test h read = record {
  itself = test_set (property_text 112 name) _ test refl
      (λ rest. ap (λ l. atom_read 250 (92 ∷ 112 ∷ 123 ∷ l)) (append_assoc name (125 ∷ []) rest)
      ∙ property_atom name rest test h read);
  rest = rest_set (property_text 80 name) _ test refl
      (λ rest. ap (λ l. atom_read 250 (92 ∷ 80 ∷ 123 ∷ l)) (append_assoc name (125 ∷ []) rest)
      ∙ no_property_atom name rest test h read);
}

-- a name that stands for a property
pub name_read : (name : List ℕ) → is_plain_name name ≡ true → IsNameRead name
unfolding keyed_set set_by_name
name_read name plain =
    let both = plain_lacks name plain in
    elim (by_name (normalize name)) as (λ o. by_name (normalize name) ≡ o → IfSome o (λ s. IsPropertyReadAs name (in_set s))) [
      | None ↦ λ e. tt
      | Some s ↦ λ e. property_sets name (in_set s) both.0 (λ left. rw (split_missing 61 name both.1, e) refl)
    ] refl
