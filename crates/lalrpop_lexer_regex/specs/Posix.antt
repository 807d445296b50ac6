-- POSIX classes in brackets: how they are written, and their ranges, all of them ASCII.
use Rattle.std.specs.Prelude.{ℕ, Bool, true, false, not, ◌==◌, List, [], ◌∷◌, take, drop, position, Option, Some, None}
use Rattle.std.specs.Prelude.{option_map, option_and_then, codes, bytes_eq, if◌then◌else◌}
use Rattle.std.specs.Option.{option_map_or, option_or}
use Rattle.std.specs.Char.{is_ascii_alphabetic}
use Rattle.lalrpop_lexer_pattern.specs.declared.class.Range.{Range}
use Rattle.lalrpop_lexer_regex.specs.Outcome.{after_at}

-- whether a caret comes first, and the text after it
abbrev pub caret_at : List ℕ → Bool × List ℕ
caret_at t = option_map_or (λ r. (true, r)) (after_at 94 t) (false, t)

-- at least one letter in front of `:]`
unfoldable pub posix_name_at : List ℕ → Option (List ℕ × List ℕ)
posix_name_at t =
    option_and_then (λ k. if k == 0 then None else option_map (λ r. (take k t, r))
    (option_and_then (after_at 93) (after_at 58 (drop k t))))
    (position (λ c. not (is_ascii_alphabetic c)) t)

-- after `[`: a colon, perhaps a caret, a name, and `:]`
unfoldable pub posix_at : List ℕ → Option ((Bool × List ℕ) × List ℕ)
posix_at t = option_and_then (λ r. let n = caret_at r in option_map (λ x. ((n.0, x.0), x.1)) (posix_name_at n.1)) (after_at 58 t)

abbrev pub range : ℕ → ℕ → Range
range a b = record { start = a; end = b }

-- the classes of letters, digits and the underscore
unfoldable pub word_ranges : List ℕ → Option (List Range)
word_ranges name =
    if bytes_eq name (codes "alnum") then Some (range 0x30 0x39 ∷ range 0x41 0x5A ∷ range 0x61 0x7A ∷ [])
    else (if bytes_eq name (codes "alpha") then Some (range 0x41 0x5A ∷ range 0x61 0x7A ∷ [])
    else (if bytes_eq name (codes "digit") then Some (range 0x30 0x39 ∷ [])
    else (if bytes_eq name (codes "lower") then Some (range 0x61 0x7A ∷ [])
    else (if bytes_eq name (codes "upper") then Some (range 0x41 0x5A ∷ [])
    else (if bytes_eq name (codes "word") then Some (range 0x30 0x39 ∷ range 0x41 0x5A ∷ range 0x5F 0x5F ∷ range 0x61 0x7A ∷ [])
    else (if bytes_eq name (codes "xdigit") then Some (range 0x30 0x39 ∷ range 0x41 0x46 ∷ range 0x61 0x66 ∷ []) else None))))))

-- the classes that have other characters
unfoldable pub other_ranges : List ℕ → Option (List Range)
other_ranges name =
    if bytes_eq name (codes "ascii") then Some (range 0x00 0x7F ∷ [])
    else (if bytes_eq name (codes "blank") then Some (range 0x09 0x09 ∷ range 0x20 0x20 ∷ [])
    else (if bytes_eq name (codes "cntrl") then Some (range 0x00 0x1F ∷ range 0x7F 0x7F ∷ [])
    else (if bytes_eq name (codes "graph") then Some (range 0x21 0x7E ∷ [])
    else (if bytes_eq name (codes "print") then Some (range 0x20 0x7E ∷ [])
    else (if bytes_eq name (codes "punct") then Some (range 0x21 0x2F ∷ range 0x3A 0x40 ∷ range 0x5B 0x60 ∷ range 0x7B 0x7E ∷ [])
    else (if bytes_eq name (codes "space") then Some (range 0x09 0x0D ∷ range 0x20 0x20 ∷ []) else None))))))

-- the ranges of a class by its name
unfoldable pub posix_ranges : List ℕ → Option (List Range)
posix_ranges name = option_or (word_ranges name) (other_ranges name)
