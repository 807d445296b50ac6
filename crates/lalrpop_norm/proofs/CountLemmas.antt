-- Lists in which nothing stands twice, and how long they are; for the normalizer.
use Rattle.std.proofs.Common.{◌≡◌, ℕ, suc, ◌≤◌, List, [], ◌∷◌, refl, ap, sym, ◌∙◌, subst, inl, inr}
use Rattle.std.proofs.Common.{arith}
use Rattle.std.specs.Prelude.{length, map}
use Rattle.lalrpop_grammar_language.specs.Among.{Among}
use Rattle.lalrpop_grammar_language.proofs.PlaceLemmas.{among_map}
use Rattle.lalrpop_grammar_language.proofs.AmongLemmas.{map_among}
use Rattle.lalrpop_norm_keys.specs.Tables.{HasEachOnce}

-- a list without one of it
abbrev without : {A : Type 0} (ys : List A) (x : A) → Among ys x → List A
without [] x i = []
without (y ∷ ys) x (inl e) = ys
without (y ∷ ys) x (inr i) = y ∷ without ys x i

without_length : {A : Type 0} (ys : List A) (x : A) (i : Among ys x) → length ys ≡ suc (length (without ys x i))
without_length [] x i = absurd i
without_length (y ∷ ys) x (inl e) = refl
without_length (y ∷ ys) x (inr i) = ap suc (without_length ys x i)

still_there : {A : Type 0} (ys : List A) (x z : A) (i : Among ys x) → Among ys z → (x ≡ z → ⊥) → Among (without ys x i) z
still_there [] x z i j differ = absurd i
still_there (y ∷ ys) x z (inl e) (inl f) differ = absurd (differ (sym e ∙ f))
still_there (y ∷ ys) x z (inl e) (inr j) differ = j
still_there (y ∷ ys) x z (inr i) (inl f) differ = inl f
still_there (y ∷ ys) x z (inr i) (inr j) differ = inr (still_there ys x z i j differ)

-- a list that has each once is no longer than one that has all of it
pub once_within : {A : Type 0} (xs ys : List A) → HasEachOnce xs → ((x : A) → Among xs x → Among ys x) → length xs ≤ length ys
once_within [] ys once all = omega arith
once_within (x ∷ xs) ys once all =
    let i = all x (inl refl) in
    let rest = once_within xs (without ys x i) once.1
    (λ z j. still_there ys x z i (all z (inr j)) (λ e. once.0 (subst (Among xs) (sym e) j))) in
    subst (λ (n : ℕ). suc (length xs) ≤ n) (sym (without_length ys x i)) (omega (arith, rest))

-- what has each once after a map had each once before
pub once_before : {A B : Type 0} (f : A → B) (xs : List A) → HasEachOnce (map f xs) → HasEachOnce xs
once_before f [] once = tt
once_before f (x ∷ xs) once = (λ i. once.0 (map_among f xs x i), once_before f xs once.1)

-- and the other way round, where no two are the same after it
pub once_behind : {A B : Type 0} (f : A → B) (xs : List A) → HasEachOnce xs
    → ((x z : A) → Among xs x → Among xs z → f x ≡ f z → x ≡ z) → HasEachOnce (map f xs)
once_behind f [] once apart = tt
once_behind f (x ∷ xs) once apart = (
  λ i. let m = among_map f xs (f x) i in
      once.0 (subst (Among xs) (sym (apart x m.0 (inl refl) (inr m.1) (sym m.2))) m.1),
  once_behind f xs once.1 (λ a b i j e. apart a b (inr i) (inr j) e),
)
