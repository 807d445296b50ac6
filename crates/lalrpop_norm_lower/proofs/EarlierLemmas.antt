-- Lists in which each is related to each later one; for the productions of a map of nonterminals.
use Rattle.std.proofs.Common.{◌≡◌, ◌⊎◌, ℕ, zero, suc, ◌<◌, List, [], ◌∷◌, ◌++◌, refl, ap, sym, subst, inl}
use Rattle.std.proofs.Common.{inr, arith}
use Rattle.std.specs.Prelude.{Some, flat_map, slice_get}
use Rattle.lalrpop_grammar_language.specs.Among.{Among}
use Rattle.lalrpop_grammar_language.proofs.AmongLemmas.{among_flat_map}
use Rattle.lalrpop_grammar_language.proofs.StepLemmas.{among_right}
use Rattle.lalrpop_grammar_language.proofs.StepLemmas.{among_left}
use Rattle.lalrpop_grammar_language.proofs.OrderLemmas.{among_parts}

-- each of the list is related to each later one
abbrev pub Earlier : {A : Type 0} → (A → A → Type 0) → List A → Type 0
Earlier R [] = Unit {0}
Earlier {A} R (x ∷ xs) = ((y : A) → Among xs y → R x y) × Earlier R xs

-- each of the one list is related to each of the other
abbrev pub Across : {A : Type 0} → (A → A → Type 0) → List A → List A → Type 0
Across {A} R xs ys = (x y : A) → Among xs x → Among ys y → R x y

-- what stands at a place is one of the list
pub at_among : {A : Type 0} (xs : List A) (i : ℕ) (x : A) → slice_get xs i ≡ Some x → Among xs x
at_among [] i x e = cc
at_among (y ∷ ys) zero x e = let f : y ≡ x = cc in inl f
at_among (y ∷ ys) (suc i) x e = inr (at_among ys i x e)

-- and one of the list stands at a place
pub among_at : {A : Type 0} (xs : List A) (x : A) → Among xs x → (i : ℕ) × (slice_get xs i ≡ Some x)
among_at [] x h = absurd h
among_at (y ∷ ys) x (inl e) = (0, ap Some e)
among_at (y ∷ ys) x (inr h) = let w = among_at ys x h in (suc w.0, w.1)

module _ {A : Type 0} (R : A → A → Type 0) where
  -- of two places the earlier one is related to the later one
  pub earlier_at : (xs : List A) → Earlier R xs → (i j : ℕ) (x y : A) → i < j → slice_get xs i ≡ Some x
      → slice_get xs j ≡ Some y
      → R x y
  earlier_at [] h i j x y less e f = cc
  earlier_at (z ∷ zs) h i zero x y less e f = absurd (omega (arith, less))
  earlier_at (z ∷ zs) h zero (suc j) x y less e f =
      let same : z ≡ x = cc in subst (λ w. R w y) same (h.0 y (at_among zs j y f))
  earlier_at (z ∷ zs) h (suc i) (suc j) x y less e f = earlier_at zs h.1 i j x y (omega (arith, less)) e f

  -- two lists joined
  pub earlier_joined : (xs ys : List A) → Earlier R xs → Earlier R ys → Across R xs ys → Earlier R (xs ++ ys)
  earlier_joined [] ys h k a = k
  earlier_joined (x ∷ xs) ys h k a = (
    λ y i. later y (among_parts xs ys y i),
    earlier_joined xs ys h.1 k (λ z y i j. a z y (inr i) j),
  )
    where
      later : (y : A) → Among xs y ⊎ Among ys y → R x y
      later y (inl i) = h.0 y i
      later y (inr i) = a x y (inl refl) i

  -- and parted
  pub earlier_front : (xs ys : List A) → Earlier R (xs ++ ys) → Earlier R xs
  earlier_front [] ys h = tt
  earlier_front (x ∷ xs) ys h = (λ y i. h.0 y (among_left xs ys y i), earlier_front xs ys h.1)

  pub earlier_back : (xs ys : List A) → Earlier R (xs ++ ys) → Earlier R ys
  earlier_back [] ys h = h
  earlier_back (x ∷ xs) ys h = earlier_back xs ys h.1

  pub earlier_across : (xs ys : List A) → Earlier R (xs ++ ys) → Across R xs ys
  earlier_across [] ys h z y i j = absurd i
  earlier_across (x ∷ xs) ys h z y (inl e) j = subst (λ w. R w y) e (h.0 y (among_right xs ys y j))
  earlier_across (x ∷ xs) ys h z y (inr i) j = earlier_across xs ys h.1 z y i j

  -- what follows from the relation
  pub earlier_weaker : (S : A → A → Type 0) (xs : List A) → ((x y : A) → Among xs x → Among xs y → R x y → S x y)
      → Earlier R xs
      → Earlier S xs
  earlier_weaker S [] to h = tt
  earlier_weaker S (x ∷ xs) to h = (
    λ y i. to x y (inl refl) (inr i) (h.0 y i),
    earlier_weaker S xs (λ z y i j. to z y (inr i) (inr j)) h.1,
  )

  -- two relations at once
  pub earlier_both : (S : A → A → Type 0) (xs : List A) → Earlier R xs → Earlier S xs → Earlier (λ x y. R x y × S x y) xs
  earlier_both S [] h k = tt
  earlier_both S (x ∷ xs) h k = (λ y i. (h.0 y i, k.0 y i), earlier_both S xs h.1 k.1)

  -- lists that come from the elements of another, joined
  module _ {B : Type 0} (f : B → List A) where
    pub flat_earlier : (es : List B) → ((e : B) → Among es e → Earlier R (f e)) → Earlier (λ e d. Across R (f e) (f d)) es
        → Earlier R (flat_map f es)
    flat_earlier [] own h = tt
    flat_earlier (e ∷ es) own h =
        earlier_joined (f e) (flat_map f es) (own e (inl refl)) (flat_earlier es (λ d i. own d (inr i)) h.1)
        (λ x y i j. let w = among_flat_map f es y j in h.0 w.0 w.1 x y i w.2)

    pub earlier_each : (es : List B) → Earlier R (flat_map f es) → (e : B) → Among es e → Earlier R (f e)
    earlier_each [] h e i = absurd i
    earlier_each (d ∷ es) h e (inl same) = subst (λ x. Earlier R (f x)) same (earlier_front (f d) (flat_map f es) h)
    earlier_each (d ∷ es) h e (inr i) = earlier_each es (earlier_back (f d) (flat_map f es) h) e i

    pub earlier_apart : (es : List B) → Earlier R (flat_map f es) → Earlier (λ e d. Across R (f e) (f d)) es
    earlier_apart [] h = tt
    earlier_apart (e ∷ es) h = (
      λ d i x y j k. earlier_across (f e) (flat_map f es) h x y j (through d i y k),
      earlier_apart es (earlier_back (f e) (flat_map f es) h),
    )
      where
        through : (d : B) → Among es d → (y : A) → Among (f d) y → Among (flat_map f es) y
        through d i y k = go es i
          where
            go : (ds : List B) → Among ds d → Among (flat_map f ds) y
            go [] j = absurd j
            go (b ∷ ds) (inl same) = among_left (f b) (flat_map f ds) y (subst (λ x. Among (f x) y) (sym same) k)
            go (b ∷ ds) (inr j) = among_right (f b) (flat_map f ds) y (go ds j)
