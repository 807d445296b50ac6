-- The first of two lists one behind the other; for each search through parts of a grammar.
use Rattle.std.proofs.Common.{◌≡◌, ap, sym, ◌∙◌, List, [], ◌∷◌, ◌++◌, refl}
use Rattle.std.specs.Prelude.{Option, Some, None}
use Rattle.lalrpop_grammar.specs.Items.{first_of_two}
use Rattle.lalrpop_norm_prevalidate.specs.Firsts.{first_of}

-- the first of two lists is the first one's, or else the second one's
pub first_of_both : {A : Type 0} (xs ys : List A) → first_of (xs ++ ys) ≡ first_of_two (first_of xs) (first_of ys)
first_of_both [] ys = refl
first_of_both (x ∷ xs) ys = refl

-- behind a list without a first the search goes on as before
pub first_none_here : {A : Type 0} (xs ys zs : List A) (found whole : Option A)
    → zs ≡ xs ++ ys → found ≡ first_of xs → found ≡ None → first_of zs ≡ whole → first_of ys ≡ whole
first_none_here xs ys zs found whole here is none before =
    ap (λ o. first_of_two o (first_of ys)) (sym none ∙ is) ∙ sym (first_of_both xs ys) ∙ ap first_of (sym here) ∙ before

-- the first of a list is the first of all, where none stands before it
pub first_found_here : {A : Type 0} (xs ys zs : List A) (found : Option A) (x : A) (whole : Option A)
    → zs ≡ xs ++ ys → found ≡ first_of xs → found ≡ Some x → first_of zs ≡ whole → Some x ≡ whole
first_found_here xs ys zs found x whole here is some before =
    ap (λ o. first_of_two o (first_of ys)) (sym some ∙ is) ∙ sym (first_of_both xs ys) ∙ ap first_of (sym here) ∙ before
