-- A word with each special character escaped is read back: for the law of escapes.
use Rattle.std.proofs.Common.{◌≡◌, ◌↔◌, ℕ, ◌+◌, true, false, ◌||◌, ◌==◌, List, [], ◌∷◌, ◌++◌, length}
use Rattle.std.proofs.Common.{map, Ok, None, refl, sym, ap, ◌∙◌, inl, inr, arith, append-nil, append_assoc}
use Rattle.std.proofs.lemmas.Bool.{cases_Bool}
use Rattle.std.proofs.lemmas.Bool.Decides.{nat_tests}
use Rattle.std.specs.Char.{is_ascii_punctuation}
use Rattle.lalrpop_lexer_pattern.specs.Matches.{Pattern, concat_all, Matches}
use Rattle.lalrpop_lexer_regex.specs.declared.flags.Flags.{Flags}
use Rattle.lalrpop_lexer_regex.specs.Escapes.{escaped_character_at}
use Rattle.lalrpop_lexer_regex.specs.SetEscapes.{is_set_letter}
use Rattle.lalrpop_lexer_regex.specs.Repeats.{begins_repeat}
use Rattle.lalrpop_lexer_regex.specs.Atoms.{is_special, look_of, one_character, escaped_atom_at, plain_atom_at}
use Rattle.lalrpop_lexer_regex.specs.Patterns.{concat_of, repeats_from, branches_from, atom_with, factor_with, atom_at, factor_at}
use Rattle.lalrpop_lexer_regex.specs.Patterns.{pattern_at}
use Rattle.lalrpop_lexer_regex.specs.Regex.{whole_pattern}
use Rattle.lalrpop_lexer_regex.specs.Escaping.{needs_escape, escape_word, IsReadAs}
use Rattle.lalrpop_lexer_regex.proofs.PatternLemmas.{repeats_stop, no_repeats, IsReading, branches_start, branches_piece, branches_none}
use Rattle.lalrpop_lexer_regex.proofs.PatternLemmas.{pattern_with-is}

-- no flag is on
abbrev plain : Flags
plain = record { insensitive = false; dot_all = false }

-- the pattern of one character
abbrev one : ℕ → Pattern
one c = Pattern.literal (c ∷ [])

-- what an escaped character isn't
not_letter : (c : ℕ) → needs_escape c ≡ true → is_set_letter c ≡ false
not_letter c h = grind (arith, nat_tests)

not_look : (c : ℕ) → needs_escape c ≡ true → look_of c ≡ None
not_look c h = grind (arith, nat_tests)

is_escape : (left c : ℕ) (t : List ℕ) → needs_escape c ≡ true → escaped_character_at left (c ∷ t) ≡ Ok (c, t)
unfolding escaped_character_at
is_escape left c t h =
    let no_angle : ((c == 60) || (c == 62)) ≡ false = grind (arith, nat_tests) in
    let punctuation : is_ascii_punctuation c ≡ true = grind (arith, nat_tests) in
    rw (no_angle, punctuation) refl

one_plain : (c : ℕ) → one_character false c ≡ one c
unfolding one_character
one_plain c = refl

escape_read : (left c : ℕ) (t : List ℕ) → needs_escape c ≡ true → escaped_atom_at left false (c ∷ t) ≡ Ok (one c, t)
unfolding escaped_atom_at
escape_read left c t h = rw (not_letter c h, not_look c h, is_escape left c t h, one_plain c) refl

backslash_read : (d c : ℕ) (t : List ℕ) → needs_escape c ≡ true → plain_atom_at d plain (92 ∷ c ∷ t) ≡ Ok (one c, t)
unfolding plain_atom_at
backslash_read d c t h = escape_read _ c t h

other_read : (d c : ℕ) (t : List ℕ) → needs_escape c ≡ false → plain_atom_at d plain (c ∷ t) ≡ Ok (one c, t)
unfolding plain_atom_at
other_read d c t h =
    let a : (c == 46) ≡ false = grind (arith, nat_tests) in
    let b : (c == 94) ≡ false = grind (arith, nat_tests) in
    let e : (c == 36) ≡ false = grind (arith, nat_tests) in
    let f : (c == 91) ≡ false = grind (arith, nat_tests) in
    let g : (c == 92) ≡ false = grind (arith, nat_tests) in
    let s : is_special c ≡ false = grind (arith, nat_tests) in
    rw (a, b, e, f, g, s, one_plain c) refl

-- the next escaped text begins no repetition
stops : (d : ℕ) (p : Pattern) (word : List ℕ)
    → repeats_from (length (escape_word word) + 1) p (escape_word word) ≡ Ok (p, escape_word word)
stops d p [] = no_repeats (length (escape_word []) + 1) p [] (omega arith) refl
stops d p (c ∷ word) = elim (cases_Bool (needs_escape c)) [
  | inl h ↦ rw h (repeats_stop p p (92 ∷ c ∷ escape_word word) (92 ∷ c ∷ escape_word word) (c ∷ escape_word word) 92 refl
      (length (92 ∷ c ∷ escape_word word) + 1) (omega arith) refl)
  | inr h ↦
      let s : begins_repeat c ≡ false = grind (arith, nat_tests) in
      rw h (repeats_stop p p (c ∷ escape_word word) (c ∷ escape_word word) (escape_word word) c refl
      (length (c ∷ escape_word word) + 1) (omega arith) s)
]

escaped_piece : (d c : ℕ) (word : List ℕ) → needs_escape c ≡ true
    → factor_at d plain (92 ∷ c ∷ escape_word word) ≡ Ok ((one c, plain), escape_word word)
unfolding factor_with atom_with
escaped_piece d c word h = rw (backslash_read d c (escape_word word) h, stops d (one c) word) refl

other_piece : (d c : ℕ) (word : List ℕ) → needs_escape c ≡ false
    → factor_at d plain (c ∷ escape_word word) ≡ Ok ((one c, plain), escape_word word)
unfolding factor_with atom_with
other_piece d c word h =
    let a : (c == 40) ≡ false = grind (arith, nat_tests) in
    rw (a, other_read d c (escape_word word) h, stops d (one c) word) refl

-- the pieces are the characters of the word
all_pieces : (d : ℕ) (whole : List ℕ) (ps : List Pattern) (word : List ℕ)
    → IsReading (factor_at d) plain whole [] ps plain (escape_word word) →
    branches_from (factor_at d) (length whole + 1) [] [] plain whole ≡ Ok (concat_of (ps ++ map one word), [])
all_pieces d whole ps [] w =
    branches_none (factor_at d) plain whole [] ps plain [] w refl ∙ ap (λ (l : List Pattern). Ok (concat_of l, [])) (sym (append-nil ps))
all_pieces d whole ps (c ∷ word) w =
    let next : IsReading (factor_at d) plain whole [] (ps ++ one c ∷ []) plain (escape_word word) = elim (cases_Bool (needs_escape c)) [
      | inl h ↦
          let under : IsReading (factor_at d) plain whole [] ps plain (92 ∷ c ∷ escape_word word) = rw h at w in
          branches_piece (factor_at d) plain whole [] ps plain (92 ∷ c ∷ escape_word word) (c ∷ escape_word word) 92 refl under
          (one c, plain) (escape_word word) refl refl (escaped_piece d c word h) (omega arith)
      | inr h ↦
          let under : IsReading (factor_at d) plain whole [] ps plain (c ∷ escape_word word) = rw h at w in
          let a : (c == 41) ≡ false = grind (arith, nat_tests) in
          let b : (c == 124) ≡ false = grind (arith, nat_tests) in
          branches_piece (factor_at d) plain whole [] ps plain (c ∷ escape_word word) (escape_word word) c refl under (one c, plain)
          (escape_word word) a b (other_piece d c word h) (omega arith)
    ] in
    all_pieces d whole (ps ++ one c ∷ []) word next
    ∙ ap (λ (l : List Pattern). Ok (concat_of l, [])) (append_assoc ps (one c ∷ []) (map one word))

-- such pieces match the word alone
spelled : (word w : List ℕ) → Matches (concat_all (map one word)) w ↔ (w ≡ word)
spelled [] w = (λ h. h, λ h. h)
spelled (c ∷ word) w = (
  λ h. h.2 ∙ ap (λ u. u ++ h.1) h.3 ∙ ap (λ v. c ∷ v) ((spelled word h.1).0 h.4),
  λ e. (c ∷ [], word, e, refl, (spelled word word).1 refl),
)

joined_spelled : (word w : List ℕ) → Matches (concat_of (map one word)) w ↔ (w ≡ word)
joined_spelled [] w = (λ h. h, λ h. h)
joined_spelled (c ∷ []) w = (λ h. h, λ h. h)
joined_spelled (c ∷ d ∷ word) w = spelled (c ∷ d ∷ word) w

-- a word with its special characters escaped is read as a pattern that matches the word alone
pub escaped_read_back : (word : List ℕ) → IsReadAs (escape_word word) word
unfolding whole_pattern
escaped_read_back word =
    let read : pattern_at 250 plain (escape_word word) ≡ Ok (concat_of (map one word), []) =
    pattern_with-is (atom_at 250) plain (escape_word word)
    ∙ all_pieces 250 (escape_word word) [] word (branches_start (factor_at 250) plain (escape_word word) [] [] refl refl) in
    record { pattern = concat_of (map one word); read = rw read refl; same = joined_spelled word }
