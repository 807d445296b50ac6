-- The first reserved name of two lists one behind the other, and when a name begins with a prefix; for the search of names.
use Rattle.std.proofs.Common.{◌≡◌, ap, sym, ◌∙◌, List, [], ◌∷◌, ◌++◌, refl}
use Rattle.std.specs.List.{starts_with}
use Rattle.std.specs.Prelude.{◌==◌, ◌&&◌, Bool, true, false, Option, Some, None, if◌then◌else◌}
use Rattle.lalrpop_grammar_symbols.specs.Symbols.{Text, TextSpan}
use Rattle.lalrpop_grammar.specs.Items.{first_of_two}
use Rattle.lalrpop_norm_prevalidate.specs.Names.{SpannedName, first_reserved, has_prefix}

or_else : (b : Bool) (p : TextSpan) (x y : Option TextSpan)
    → (if b then Some p else first_of_two x y) ≡ first_of_two (if b then Some p else x) y
or_else true p x y = refl
or_else false p x y = refl

-- the first of two lists is the first one's, or else the second one's
pub first_reserved_of_both : (prefix : Text) (xs ys : List SpannedName)
    → first_reserved prefix (xs ++ ys) ≡ first_of_two (first_reserved prefix xs) (first_reserved prefix ys)
first_reserved_of_both prefix [] ys = refl
first_reserved_of_both prefix (x ∷ xs) ys =
    ap (λ o. if has_prefix prefix x.0 then Some x.1 else o) (first_reserved_of_both prefix xs ys)
    ∙ or_else (has_prefix prefix x.0) x.1 (first_reserved prefix xs) (first_reserved prefix ys)

-- std's test for a front, as the definition has it
pub prefix_test : (prefix name : Text) → starts_with (λ a b. a == b) name prefix ≡ has_prefix prefix name
prefix_test [] [] = refl
prefix_test [] (d ∷ name) = refl
prefix_test (c ∷ prefix) [] = refl
prefix_test (c ∷ prefix) (d ∷ name) = ap (λ b. (c == d) && b) (prefix_test prefix name)

-- behind names of which none is reserved the search goes on as before
pub none_here : (prefix : Text) (xs ys zs : List SpannedName) (found whole : Option TextSpan)
    → zs ≡ xs ++ ys → found ≡ first_reserved prefix xs → found ≡ None → first_reserved prefix zs ≡ whole
    → first_reserved prefix ys ≡ whole
none_here prefix xs ys zs found whole here is none before =
    ap (λ o. first_of_two o (first_reserved prefix ys)) (sym none ∙ is)
    ∙ sym (first_reserved_of_both prefix xs ys)
    ∙ ap (first_reserved prefix) (sym here)
    ∙ before

-- a reserved name is the first one, where none stands before it
pub found_here : (prefix : Text) (xs ys zs : List SpannedName) (found : Option TextSpan) (p : TextSpan) (whole : Option TextSpan)
    → zs ≡ xs ++ ys → found ≡ first_reserved prefix xs → found ≡ Some p → first_reserved prefix zs ≡ whole → Some p
    ≡ whole
found_here prefix xs ys zs found p whole here is some before =
    ap (λ o. first_of_two o (first_reserved prefix ys)) (sym some ∙ is)
    ∙ sym (first_reserved_of_both prefix xs ys)
    ∙ ap (first_reserved prefix) (sym here)
    ∙ before
