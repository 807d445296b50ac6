-- The atoms of a pattern that are no groups.
use Rattle.std.specs.Prelude.{ℕ, Bool, ◌==◌, ◌||◌, List, [], ◌∷◌, length, Option, Some, None, Ok, if◌then◌else◌}
use Rattle.std.specs.Option.{option_map_or}
use Rattle.std.specs.Borrow.{Bor}
use Rattle.lalrpop_lexer_pattern.specs.Matches.{Pattern}
use Rattle.lalrpop_lexer_pattern.specs.Meaning.{meaning}
use Rattle.lalrpop_lexer_pattern.specs.Sets.{folded_of, complement_of}
use Rattle.lalrpop_lexer_pattern.specs.declared.tree.Hir.{Hir}
use Rattle.lalrpop_lexer_pattern.specs.declared.tree.Look.{Look}
use Rattle.lalrpop_lexer_pattern.specs.declared.tree.Look.TheVariants.{Start, End, WordBoundary, NotWordBoundary}
use Rattle.lalrpop_lexer_regex.specs.declared.flags.Flags.{Flags}
use Rattle.lalrpop_lexer_regex.specs.Outcome.{Reading, syntax_fault, ◌>>=◌}
use Rattle.lalrpop_lexer_regex.specs.Escapes.{escaped_character_at}
use Rattle.lalrpop_lexer_regex.specs.SetEscapes.{is_set_letter, escaped_set_at}
use Rattle.lalrpop_lexer_regex.specs.ClassItems.{range_set}
use Rattle.lalrpop_lexer_regex.specs.Classes.{class_at}

-- the pattern of a tree, and the text after it
abbrev pub tree_read : Hir × Bor (List ℕ) → Pattern × List ℕ
tree_read x = (meaning x.0, x.1.now)

-- one of * + ? ) | {
abbrev pub is_special : ℕ → Bool
is_special c = (c == 42) || (c == 43) || (c == 63) || (c == 41) || (c == 124) || (c == 123)

-- \A, \z, \b and \B
abbrev pub look_of : ℕ → Option Look
look_of c =
    if c == 65 then Some Start else
    (if c == 122 then Some End else (if c == 98 then Some WordBoundary else (if c == 66 then Some NotWordBoundary else None)))

-- a character, or all that share a simple folding with it
unfoldable pub one_character : Bool → ℕ → Pattern
one_character fold c = if fold then Pattern.class (folded_of (range_set c c)) else Pattern.literal (c ∷ [])

-- every character, or every one but the line feed
unfoldable pub any_character : Bool → Pattern
any_character dot_all = Pattern.class (complement_of (if dot_all then [] else range_set 10 10))

-- after a backslash: a set, a place in the text, or a character
unfoldable pub escaped_atom_at : ℕ → Bool → List ℕ → Reading Pattern
escaped_atom_at left fold [] = syntax_fault []
escaped_atom_at left fold (c ∷ t) =
    if is_set_letter c then (escaped_set_at left fold c t >>= λ x. Ok (Pattern.class x.0, x.1))
    else option_map_or (λ l. Ok (Pattern.look l, t)) (look_of c)
    (escaped_character_at left (c ∷ t) >>= λ x. Ok (one_character fold x.0, x.1))

-- a dot, a place, a class, an escape, or a character that is none of the special ones
unfoldable pub plain_atom_at : ℕ → Flags → List ℕ → Reading Pattern
plain_atom_at depth f [] = syntax_fault []
plain_atom_at depth f (c ∷ t) =
    if c == 46 then Ok (any_character f.dot_all, t)
    else (if c == 94 then Ok (Pattern.look Start, t)
    else (if c == 36 then Ok (Pattern.look End, t)
    else (if c == 91 then (class_at depth f.insensitive (length (c ∷ t)) t >>= λ x. Ok (Pattern.class x.0, x.1))
    else (if c == 92 then escaped_atom_at (length (c ∷ t)) f.insensitive t
    else (if is_special c then syntax_fault (c ∷ t) else Ok (one_character f.insensitive c, t))))))
