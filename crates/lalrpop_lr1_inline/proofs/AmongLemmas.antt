-- What stands among joined, turned and filtered lists, and names that a set has: for the lemmas on the order.
use Rattle.std.proofs.Common.{◌≡◌, List, [], ◌∷◌, ◌++◌, refl, ap, sym, ◌∙◌, subst, inl, inr, ◌⊎◌, true, false}
use Rattle.std.specs.Prelude.{Bool, reverse, ◌||◌}
use Rattle.std.specs.Str.{bytes_eq}
use Rattle.lalrpop_grammar_symbols.specs.Symbols.{Text}
use Rattle.lalrpop_grammar_language.specs.Among.{Among}
use Rattle.lalrpop_grammar_language.specs.Enabled.{has_text}
use Rattle.std.proofs.lemmas.Grind.{reverse_onto}
use Rattle.lalrpop_grammar_language.proofs.OrderLemmas.{among_parts}
use Rattle.lalrpop_grammar_language.proofs.StepLemmas.{among_left, among_right}
use Rattle.lalrpop_grammar_language.proofs.AmongLemmas.{text_found}

-- what stands in a list that is turned round stands in the list
pub among_reverse : {A : Type 0} (xs : List A) (x : A) → Among (reverse xs) x → Among xs x
among_reverse [] x i = i
among_reverse {A} (y ∷ ys) x i =
    go (among_parts (reverse ys) (y ∷ []) x (subst (λ (l : List A). Among l x) (reverse_onto ys y []) i)) (λ j. among_reverse ys x j)
  where
    go : Among (reverse ys) x ⊎ Among (y ∷ []) x → (Among (reverse ys) x → Among ys x) → Among (y ∷ ys) x
    go (inl j) later = inr (later j)
    go (inr (inl e)) later = inl e
    go (inr (inr j)) later = absurd j

-- what stands in a list still stands in it once it is turned round
pub reverse_among : {A : Type 0} (xs : List A) (x : A) → Among xs x → Among (reverse xs) x
reverse_among [] x i = i
reverse_among {A} (y ∷ ys) x (inl e) =
    subst (λ (l : List A). Among l x) (sym (reverse_onto ys y [])) (among_right (reverse ys) (y ∷ []) x (inl e))
reverse_among {A} (y ∷ ys) x (inr i) =
    subst (λ (l : List A). Among l x) (sym (reverse_onto ys y [])) (among_left (reverse ys) (y ∷ []) x (reverse_among ys x i))

-- a text that isn't found isn't there
pub not_found : (n : Text) (ns : List Text) → has_text n ns ≡ false → Among ns n → ⊥
not_found n ns e i = (let wrong : false ≡ true = sym e ∙ text_found n ns i in cc)

-- joined lists have a text just where one of the two has it
pub has_text-append : (n : Text) (xs ys : List Text) → has_text n (xs ++ ys) ≡ (has_text n xs || has_text n ys)
has_text-append n [] ys = refl
has_text-append n (x ∷ xs) ys = ap (λ b. bytes_eq n x || b) (has_text-append n xs ys) ∙ or_assoc (bytes_eq n x) _ _
  where
    or_assoc : (a b c : Bool) → (a || (b || c)) ≡ ((a || b) || c)
    or_assoc true b c = refl
    or_assoc false b c = refl
