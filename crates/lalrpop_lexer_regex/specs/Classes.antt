-- Classes in brackets.
use Rattle.std.specs.Prelude.{ℕ, zero, suc, ◌+◌, Bool, true, false, not, ◌==◌, ◌&&◌, List, [], ◌∷◌, length, Ok, Err}
use Rattle.std.specs.Prelude.{if◌then◌else◌}
use Rattle.std.specs.Option.{option_map_or}
use Rattle.lalrpop_lexer_pattern.specs.declared.class.Range.{Range}
use Rattle.lalrpop_lexer_pattern.specs.Sets.{union_of}
use Rattle.lalrpop_lexer_regex.specs.Outcome.{Reading, syntax_fault, ◌>>=◌}
use Rattle.lalrpop_lexer_regex.specs.SetEscapes.{finished_set}
use Rattle.lalrpop_lexer_regex.specs.Posix.{caret_at, posix_at}
use Rattle.lalrpop_lexer_regex.specs.ClassItems.{begins_with, is_operator, character_or_range_at, escaped_item_at, posix_item}
use Rattle.lalrpop_lexer_regex.specs.declared.classes.fault.PatternFaultKind.TheVariants.{Unsupported}

-- one class item, where a class in the class is read by the function; the flag says whether it comes first
unfoldable pub class_item_with : (ℕ → List ℕ → Reading (List Range)) → Bool → Bool → List ℕ → Reading (List Range)
class_item_with nested fold is_first [] = syntax_fault []
class_item_with nested fold is_first (c ∷ t) =
    if is_operator c t then Err (Unsupported, length (c ∷ t))
    else (if c == 91 then option_map_or (λ x. posix_item (length (c ∷ t)) fold x.0.0 x.0.1 >>= λ s. Ok (s, x.1)) (posix_at t)
    (nested (length (c ∷ t)) t)
    else (if c == 92 then escaped_item_at (length (c ∷ t)) fold t
    else (if (c == 45) && not is_first && not (begins_with 93 t) then syntax_fault (c ∷ t) else character_or_range_at (length (c ∷ t)) c
    t)))

-- class items up to the closing bracket, at most so many; the first may be that bracket as a character
unfoldable pub class_items_from : (Bool → List ℕ → Reading (List Range)) → ℕ → Bool → List Range → List ℕ
    → Reading (List Range)
class_items_from item zero is_first set t = syntax_fault t
class_items_from item (suc n) is_first set [] = syntax_fault []
class_items_from item (suc n) is_first set (c ∷ t) =
    if (c == 93) && not is_first then Ok (set, t) else
    (item is_first (c ∷ t) >>= λ x. class_items_from item n false (union_of set x.0) x.1)

-- after the opening bracket: perhaps a caret, which complements, and class items
unfoldable pub class_with : (Bool → List ℕ → Reading (List Range)) → Bool → List ℕ → Reading (List Range)
class_with item fold t =
    let x = caret_at t in class_items_from item (length x.1 + 1) true [] x.1 >>= λ y. Ok (finished_set fold x.0 y.0, y.1)

-- a class with at most so many levels of classes in it, itself one; so much text is left at its bracket
unfoldable pub class_at : ℕ → Bool → ℕ → List ℕ → Reading (List Range)
class_at zero fold left t = Err (Unsupported, left)
class_at (suc d) fold left t = class_with (class_item_with (class_at d fold) fold) fold t

abbrev pub class_item_at : ℕ → Bool → Bool → List ℕ → Reading (List Range)
class_item_at d fold = class_item_with (class_at d fold) fold
