-- What a backslash begins: one character, or a set of characters.
use Rattle.std.specs.Prelude.{ℕ, ◌==◌, ◌||◌, List, [], ◌∷◌, Option, Some, None, Ok, Err, if◌then◌else◌}
use Rattle.std.specs.Option.{option_map_or}
use Rattle.std.specs.Char.{is_ascii_punctuation}
use Rattle.lalrpop_lexer_regex.specs.Outcome.{Reading, syntax_fault}
use Rattle.lalrpop_lexer_regex.specs.Numbers.{scalar_at}
use Rattle.lalrpop_lexer_regex.specs.declared.classes.fault.PatternFaultKind.TheVariants.{Unsupported}

-- bell, tab, line feed, vertical tab, form feed and carriage return
abbrev pub control_of : ℕ → Option ℕ
control_of c =
    if c == 97 then Some 0x07 else (if c == 116 then Some 0x09 else (if c == 110 then Some 0x0A
    else (if c == 118 then Some 0x0B else (if c == 102 then Some 0x0C else (if c == 114 then Some 0x0D else None)))))

-- a character by its number, in two, four or eight digits
abbrev pub number_escape_at : ℕ → ℕ → List ℕ → Reading ℕ
number_escape_at left c t =
    if c == 120 then scalar_at left 2 t else
    (if c == 117 then scalar_at left 4 t else (if c == 85 then scalar_at left 8 t else syntax_fault (c ∷ t)))

-- one character after a backslash; so much text is left at the backslash
unfoldable pub escaped_character_at : ℕ → List ℕ → Reading ℕ
escaped_character_at left [] = syntax_fault []
escaped_character_at left (c ∷ t) =
    if (c == 60) || (c == 62) then Err (Unsupported, left)
    else (if is_ascii_punctuation c then Ok (c, t) else option_map_or (λ v. Ok (v, t)) (control_of c) (number_escape_at left c t))
