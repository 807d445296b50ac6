-- Lists in which none stands twice, joined, mapped and in parts: for the labels that stand once.
use Rattle.std.proofs.Common.{◌≡◌, List, [], ◌∷◌, ◌++◌, refl, subst, inl, inr, ◌⊎◌, map}
use Rattle.lalrpop_grammar_language.specs.Among.{Among}
use Rattle.lalrpop_grammar_language.proofs.PlaceLemmas.{among_map}
use Rattle.lalrpop_grammar_language.proofs.StepLemmas.{among_left}
use Rattle.lalrpop_grammar_language.proofs.OrderLemmas.{among_parts}
use Rattle.lalrpop_grammar_language.proofs.AmongLemmas.{map_among}
use Rattle.lalrpop_lr1_inline.specs.InlinedLabels.{StandOnce}

-- both lists have none twice, and none of the first stands in the second
pub once-append : {A : Type 0} (xs ys : List A) → StandOnce xs → StandOnce ys → ((x : A) → Among xs x → Among ys x → ⊥) →
    StandOnce (xs ++ ys)
once-append [] ys a b apart = b
once-append (x ∷ xs) ys a b apart = (
  λ i. neither (among_parts xs ys x i) a.0 (apart x (inl refl)),
  once-append xs ys a.1 b (λ y i j. apart y (inr i) j),
)
  where
    neither : {A B : Type 0} → A ⊎ B → (A → ⊥) → (B → ⊥) → ⊥
    neither (inl h) f g = f h
    neither (inr h) f g = g h

-- where nothing stands twice in two lists joined, nothing stands twice in the first
pub once_left : {A : Type 0} (xs ys : List A) → StandOnce (xs ++ ys) → StandOnce xs
once_left [] ys h = tt
once_left (x ∷ xs) ys h = (λ i. h.0 (among_left xs ys x i), once_left xs ys h.1)

-- where nothing stands twice in two lists joined, nothing stands twice in the second
pub once_right : {A : Type 0} (xs ys : List A) → StandOnce (xs ++ ys) → StandOnce ys
once_right [] ys h = h
once_right (x ∷ xs) ys h = once_right xs ys h.1

-- what tells the one tells the other
pub once_by : {A B C : Type 0} (f : A → B) (g : A → C) (xs : List A) →
    ((x y : A) → Among xs x → Among xs y → g x ≡ g y → f x ≡ f y) → StandOnce (map f xs) → StandOnce (map g xs)
once_by f g [] tells h = tt
once_by {A} {B} {C} f g (x ∷ xs) tells h = (
  λ i.
      let r = among_map g xs (g x) i in
      h.0 (subst (λ (z : B). Among (map f xs) z) (tells r.0 x (inr r.1) (inl refl) r.2) (map_among f xs r.0 r.1)),
  once_by f g xs (λ y z i j. tells y z (inr i) (inr j)) h.1,
)
