-- What stands among mapped and joined lists, and texts that are found among others.
use Rattle.std.proofs.Common.{◌≡◌, ℕ, zero, suc, ◌<◌, List, [], ◌∷◌, refl, ap, sym, subst, inl, inr, ◌⊎◌, Bool, true, false}
use Rattle.std.proofs.Common.{arith, length, get_or, Contains}
use Rattle.std.specs.Prelude.{map, flat_map, ◌||◌}
use Rattle.std.specs.Str.{bytes_eq}
use Rattle.std.proofs.lemmas.Slice.Eq.{bytes_eq-Decides}
use Rattle.lalrpop_grammar_symbols.specs.Symbols.{Text}
use Rattle.lalrpop_grammar_language.specs.Among.{Among}
use Rattle.lalrpop_grammar_language.specs.Enabled.{has_text}
use Rattle.lalrpop_grammar_language.proofs.OrderLemmas.{among_parts}
use Rattle.lalrpop_grammar_language.proofs.StepLemmas.{among_left, among_right}

-- the image of one is one of the images
pub map_among : {A B : Type 0} (f : A → B) (xs : List A) (x : A) → Among xs x → Among (map f xs) (f x)
map_among f [] x h = absurd h
map_among f (y ∷ xs) x (inl e) = inl (ap f e)
map_among f (y ∷ xs) x (inr h) = inr (map_among f xs x h)

-- one of a list that one gives is one of the joined lists
pub flat_map_among : {A B : Type 0} (f : A → List B) (xs : List A) (a : A) (b : B) → Among xs a → Among (f a) b →
    Among (flat_map f xs) b
flat_map_among f [] a b i j = absurd i
flat_map_among f (x ∷ xs) a b (inl e) j = among_left (f x) (flat_map f xs) b (subst (λ y. Among (f y) b) (sym e) j)
flat_map_among f (x ∷ xs) a b (inr i) j = among_right (f x) (flat_map f xs) b (flat_map_among f xs a b i j)

-- and each of the joined lists comes from one
pub among_flat_map : {A B : Type 0} (f : A → List B) (xs : List A) (b : B) → Among (flat_map f xs) b →
    (a : A) × Among xs a × Among (f a) b
among_flat_map f [] b i = absurd i
among_flat_map {A} {B} f (x ∷ xs) b i = go (among_parts (f x) (flat_map f xs) b i) (λ j. among_flat_map f xs b j)
  where
    go : Among (f x) b ⊎ Among (flat_map f xs) b → (Among (flat_map f xs) b → (a : A) × Among xs a × Among (f a) b) →
        (a : A) × Among (x ∷ xs) a × Among (f a) b
    go (inl j) later = (x, inl refl, j)
    go (inr j) later = let w = later j in (w.0, inr w.1, w.2)

-- a text that is among others is found there
pub text_found : (n : Text) (ns : List Text) → Among ns n → has_text n ns ≡ true
text_found n [] h = absurd h
text_found n (m ∷ ms) (inl e) =
    let same : bytes_eq n m ≡ true = (bytes_eq-Decides n m).1 (sym e) in
    ap (λ b. b || has_text n ms) same
text_found n (m ∷ ms) (inr h) = go (bytes_eq n m) (text_found n ms h)
  where
    go : (b : Bool) → has_text n ms ≡ true → (b || has_text n ms) ≡ true
    go true e = refl
    go false e = e

-- and what is found stands there
pub found_text : (n : Text) (ns : List Text) → has_text n ns ≡ true → Among ns n
found_text n [] h = absurd (let wrong : false ≡ true = h in cc)
found_text n (m ∷ ms) h = go (bytes_eq n m) refl h (λ k. found_text n ms k)
  where
    go : (b : Bool) → bytes_eq n m ≡ b → (b || has_text n ms) ≡ true → (has_text n ms ≡ true → Among ms n) →
        Among (m ∷ ms) n
    go true e h ih = inl (sym ((bytes_eq-Decides n m).0 e))
    go false e h ih = inr (ih h)

-- what stands at an index is one of the list
among_at : {A : Type 0} (xs : List A) (k : ℕ) (x : A) → k < length xs → get_or xs k x ≡ x → Among xs x
among_at [] k x lt e = absurd (omega arith)
among_at (y ∷ ys) zero x lt e = inl e
among_at (y ∷ ys) (suc k) x lt e = inr (among_at ys k x (omega arith) e)

-- what stands in a list at a place is one of it
pub contains_among : {A : Type 0} (xs : List A) (x : A) → Contains xs x → Among xs x
contains_among xs x h = among_at xs h.0 x h.1 h.2

-- and one of a list stands in it at a place
pub among_contains : {A : Type 0} (xs : List A) (x : A) → Among xs x → Contains xs x
among_contains [] x h = absurd h
among_contains (y ∷ ys) x (inl e) = (zero, omega arith, e)
among_contains (y ∷ ys) x (inr h) = let w = among_contains ys x h in (suc w.0, (let lt = w.1 in omega (arith, lt)), w.2)
