-- The first fault of two lists one behind the other; for each search through parts of a grammar.
use Rattle.std.proofs.Common.{◌≡◌, ap, sym, ◌∙◌, List, [], ◌∷◌, ◌++◌, refl}
use Rattle.std.specs.Prelude.{Option, Some, None}
use Rattle.lalrpop_grammar.specs.Items.{first_of_two}
use Rattle.lalrpop_norm_theory.specs.LevelFaults.{LevelFault}
use Rattle.lalrpop_norm_precedence.specs.LevelErrors.{ToldFault, first_fault}

-- the first fault of two lists is the first one's, or else the second one's
pub first_of_both : (xs ys : List LevelFault) → first_fault (xs ++ ys) ≡ first_of_two (first_fault xs) (first_fault ys)
first_of_both [] ys = refl
first_of_both (x ∷ xs) ys = refl

-- behind a list without a fault the search goes on as before
pub first_none_here : (xs ys zs : List LevelFault) (found whole : Option ToldFault)
    → zs ≡ xs ++ ys → found ≡ first_fault xs → found ≡ None → first_fault zs ≡ whole → first_fault ys ≡ whole
first_none_here xs ys zs found whole here is none before =
    ap (λ o. first_of_two o (first_fault ys)) (sym none ∙ is) ∙ sym (first_of_both xs ys) ∙ ap first_fault (sym here) ∙ before

-- the first fault of a list is the first of all, where none stands before it
pub first_found_here : (xs ys zs : List LevelFault) (found : Option ToldFault) (x : ToldFault) (whole : Option ToldFault)
    → zs ≡ xs ++ ys → found ≡ first_fault xs → found ≡ Some x → first_fault zs ≡ whole → Some x ≡ whole
first_found_here xs ys zs found x whole here is some before =
    ap (λ o. first_of_two o (first_fault ys)) (sym some ∙ is) ∙ sym (first_of_both xs ys) ∙ ap first_fault (sym here) ∙ before
