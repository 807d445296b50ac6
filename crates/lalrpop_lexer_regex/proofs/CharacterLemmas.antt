-- Characters and ranges as they are printed, and what is read of them. For literals and classes.
use Rattle.std.proofs.Common.{◌≡◌, ℕ, ◌≤◌, ◌<◌, Bool, true, false, nat_lt, List, [], ◌∷◌, ◌++◌, length}
use Rattle.std.proofs.Common.{Ok, refl, ap, ◌∙◌, arith, append_assoc, length-append}
use Rattle.std.proofs.lemmas.Bool.Decides.{nat_tests}
use Rattle.std.specs.Fmt.{digits}
use Rattle.lalrpop_lexer_pattern.specs.Matches.{Pattern}
use Rattle.lalrpop_lexer_pattern.specs.Sets.{is_scalar}
use Rattle.lalrpop_lexer_pattern.specs.declared.class.Range.{Range}
use Rattle.lalrpop_lexer_regex.specs.Outcome.{Reading}
use Rattle.lalrpop_lexer_regex.specs.Escapes.{escaped_character_at}
use Rattle.lalrpop_lexer_regex.specs.ClassItems.{range_set, begins_range, range_end_at, character_or_range_at, escaped_item_at}
use Rattle.lalrpop_lexer_regex.specs.Classes.{class_item_with}
use Rattle.lalrpop_lexer_regex.specs.Atoms.{one_character, escaped_atom_at, plain_atom_at}
use Rattle.lalrpop_lexer_regex.specs.Printing.{character_text, ranges_text}
use Rattle.lalrpop_lexer_regex.proofs.NumeralLemmas.{scalar_read}

-- behind the backslash of a printed character, and the text after it
abbrev pub behind_backslash : ℕ → List ℕ → List ℕ
behind_backslash c t = 120 ∷ 123 ∷ (digits 16 true c ++ 125 ∷ t)

-- a printed character with a text after it is a backslash and what is behind the backslash
pub character_front : (c : ℕ) (t : List ℕ) → character_text c ++ t ≡ 92 ∷ behind_backslash c t
character_front c t = ap (λ l. 92 ∷ 120 ∷ 123 ∷ l) (append_assoc (digits 16 true c) (125 ∷ []) t)

-- what is behind the backslash of a printed character is longer than the text after the character
pub length-behind : (c : ℕ) (t : List ℕ) → length t < length (behind_backslash c t)
length-behind c t = omega (arith, length-append (digits 16 true c) (125 ∷ t))

escape_read : (left c : ℕ) (t : List ℕ) → is_scalar c ≡ true → escaped_character_at left (behind_backslash c t) ≡ Ok (c, t)
unfolding escaped_character_at
escape_read left c t h = scalar_read left c t h

-- an atom that is no group, where no flag is on
abbrev pub atom_read : ℕ → List ℕ → Reading Pattern
atom_read d t = plain_atom_at d (record { insensitive = false; dot_all = false }) t

-- a printed character is read as an atom
pub character_atom : (d c : ℕ) (t : List ℕ) → is_scalar c ≡ true
    → atom_read d (92 ∷ behind_backslash c t) ≡ Ok (Pattern.literal (c ∷ []), t)
unfolding plain_atom_at escaped_atom_at one_character
character_atom d c t h = rw (escape_read (length (92 ∷ behind_backslash c t)) c t h) refl

-- a printed range, and the text after it
abbrev pub range_behind : ℕ → ℕ → List ℕ → List ℕ
range_behind a b t = behind_backslash a (45 ∷ 92 ∷ behind_backslash b t)

in_order : (a b c d e : List ℕ) → (((a ++ b) ++ c) ++ d) ++ e ≡ a ++ (b ++ (c ++ (d ++ e)))
in_order a b c d e = simp append_assoc

-- printed ranges with a text after them are a backslash and what is behind that of the first range
pub range_front : (r : Range) (rs : List Range) (t : List ℕ)
    → ranges_text (r ∷ rs) ++ t ≡ 92 ∷ range_behind r.start r.end (ranges_text rs ++ t)
range_front r rs t =
    in_order (character_text r.start) (45 ∷ []) (character_text r.end) (ranges_text rs) t
    ∙ character_front r.start (45 ∷ (character_text r.end ++ (ranges_text rs ++ t)))
    ∙ ap (λ l. 92 ∷ behind_backslash r.start (45 ∷ l)) (character_front r.end (ranges_text rs ++ t))

dash_read : (left a b : ℕ) (t : List ℕ) → is_scalar b ≡ true → a ≤ b
    → character_or_range_at left a (45 ∷ 92 ∷ behind_backslash b t) ≡ Ok (range_set a b, t)
unfolding character_or_range_at begins_range range_end_at
dash_read left a b t h order =
    let rises : nat_lt b a ≡ false = grind (arith, nat_tests) in
    rw (escape_read (length (92 ∷ behind_backslash b t)) b t h, rises) refl

-- a printed range is read as an item of a class
pub range_item : (nested : ℕ → List ℕ → Reading (List Range)) (is_first : Bool) (a b : ℕ) (t : List ℕ) → is_scalar a ≡ true
    → is_scalar b ≡ true → a ≤ b → class_item_with nested false is_first (92 ∷ range_behind a b t) ≡ Ok (range_set a b, t)
unfolding class_item_with escaped_item_at
range_item nested is_first a b t ha hb order =
    rw (
      escape_read (length (92 ∷ range_behind a b t)) a (45 ∷ 92 ∷ behind_backslash b t) ha,
      dash_read (length (92 ∷ range_behind a b t)) a b t hb order,
    ) refl
