-- Joined lists of images; for the faults of levels and of numbers of arguments.
use Rattle.std.proofs.Common.{◌≡◌, List, [], ◌∷◌, ◌++◌, refl, ap, sym, ◌∙◌, inl, inr}
use Rattle.std.specs.Prelude.{map, flat_map, zip}
use Rattle.std.proofs.lemmas.List.{append_assoc}
use Rattle.lalrpop_grammar_language.specs.Among.{Among}

-- a flat map over a mapped list is a flat map over the list by both one after another
pub flat_of_map : {A B C : Type 0} (f : B → List C) (h : A → B) (xs : List A) → flat_map f (map h xs) ≡ flat_map (λ x. f (h x)) xs
flat_of_map f h [] = refl
flat_of_map f h (x ∷ xs) = ap (λ l. f (h x) ++ l) (flat_of_map f h xs)

-- two flat maps of a list are the same where they are so for each of its members
pub flat_same : {A C : Type 0} (f g : A → List C) (xs : List A) → ((x : A) → Among xs x → f x ≡ g x) →
    flat_map f xs ≡ flat_map g xs
flat_same f g [] h = refl
flat_same f g (x ∷ xs) h =
    ap (λ l. l ++ flat_map f xs) (h x (inl refl)) ∙ ap (λ l. g x ++ l) (flat_same f g xs (λ y i. h y (inr i)))

-- the flat map of two joined lists is their flat maps joined
pub flat_join : {A C : Type 0} (f : A → List C) (xs ys : List A) → flat_map f (xs ++ ys) ≡ flat_map f xs ++ flat_map f ys
flat_join f [] ys = refl
flat_join f (x ∷ xs) ys =
    ap (λ l. f x ++ l) (flat_join f xs ys) ∙ sym (append_assoc (f x) (flat_map f xs) (flat_map f ys))

-- a flat map over a zip with a mapped list is one over the zip, with the map done on each first part
pub flat_of_zip : {A D B C : Type 0} (f : D × B → List C) (h : A → D) (xs : List A) (ys : List B) →
    flat_map f (zip (map h xs) ys) ≡ flat_map (λ (p : A × B). f (h p.0, p.1)) (zip xs ys)
flat_of_zip f h [] ys = refl
flat_of_zip f h (x ∷ xs) [] = refl
flat_of_zip f h (x ∷ xs) (y ∷ ys) = ap (λ l. f (h x, y) ++ l) (flat_of_zip f h xs ys)
