-- The names of groups: ASCII letters, digits and underscores, and no digit first.
use Rattle.std.specs.Prelude.{ℕ, Bool, ◌==◌, ◌||◌, List, [], ◌∷◌, ◌++◌, Option, Some, Ok, option_and_then}
use Rattle.std.specs.Prelude.{if◌then◌else◌}
use Rattle.std.specs.Option.{option_map_or}
use Rattle.std.specs.Char.{is_ascii_alphabetic, is_ascii_alphanumeric}
use Rattle.lalrpop_lexer_regex.specs.Outcome.{Reading, syntax_fault, after_at}

abbrev pub is_name_start : ℕ → Bool
is_name_start c = is_ascii_alphabetic c || (c == 95)

abbrev pub is_name_more : ℕ → Bool
is_name_more c = is_ascii_alphanumeric c || (c == 95)

-- a name goes on, up to `>`
abbrev pub group_name_from : List ℕ → List ℕ → Reading (List ℕ)
group_name_from name [] = syntax_fault []
group_name_from name (c ∷ t) =
    if c == 62 then Ok (name, t) else (if is_name_more c then group_name_from (name ++ c ∷ []) t else syntax_fault (c ∷ t))

unfoldable pub group_name_at : List ℕ → Reading (List ℕ)
group_name_at [] = syntax_fault []
group_name_at (c ∷ t) = if is_name_start c then group_name_from (c ∷ []) t else syntax_fault (c ∷ t)

-- the text after `<` or `P<`
unfoldable pub name_mark_at : List ℕ → Option (List ℕ)
name_mark_at t = option_map_or (λ r. Some r) (after_at 60 t) (option_and_then (after_at 60) (after_at 80 t))
