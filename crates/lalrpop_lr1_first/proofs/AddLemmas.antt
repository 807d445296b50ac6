-- What is in sets of references to which more is added: for the productions and the names of a grammar.
use Rattle.std.proofs.Common.{append-nil, append_assoc, ◌≡◌, ◌∙◌, ◌↔◌, ◌⊎◌, ℕ, ◌+◌, ◌<◌, List, []}
use Rattle.std.proofs.Common.{◌∷◌, ◌++◌, length, take, get_or, refl, sym, ap, subst, inl, inr, ⊎_elim, Contains}
use Rattle.std.specs.Prelude.{flat_map}
use Rattle.std.specs.Borrow.{Bor}
use Rattle.std.specs.BTreeSet.{insert_key}
use Rattle.std.specs.Ordering.{match_ordering}
use Rattle.std.specs.declared.cmp.Ordering.{Ordering}
use Rattle.std.specs.declared.cmp.Ordering.TheVariants.{Less, Equal, Greater}
use Rattle.std.proofs.lemmas.List.{take_more}
use Rattle.std.proofs.lemmas.List.Elements.{Contains-append_cases, Contains-append_left, Contains-append_right}
use Rattle.lalrpop_lr1_theory.proofs.ListLemmas.{contains_here, contains_later, contains_split}
use Rattle.lalrpop_lr1_first.specs.Listings.{AddsTo, lent}
use Rattle.lalrpop_lr1_theory.proofs.NameLemmas.{no_element}

module _ {X : Type 0} where
  pub adds_none : (a : List X) → AddsTo a a []
  adds_none a x = (λ c. inl c, λ h. ⊎_elim (λ c. c) (λ c. absurd (no_element x c)) h)

  pub adds_more : (a b c xs ys : List X) → AddsTo a b xs → AddsTo b c ys → AddsTo a c (xs ++ ys)
  adds_more a b c xs ys h k x = (
    λ e. ⊎_elim
        (λ f. ⊎_elim (λ g. inl g) (λ g. inr (Contains-append_left xs ys x g)) ((h x).0 f))
        (λ f. inr (Contains-append_right xs ys x f)) ((k x).0 e),
    λ e. (k x).1 (⊎_elim
        (λ f. inl ((h x).1 (inl f)))
        (λ f. ⊎_elim (λ g. inl ((h x).1 (inr g))) (λ g. inr g) (Contains-append_cases xs ys x f)) e),
  )

  -- a reference more
  module _ (R : X → X → Ordering) (exact : (x y : X) → R x y ≡ Equal → x ≡ y) where
    abbrev cmp : Bor X → Bor X → Ordering
    cmp a b = R a.now b.now

    pub adds_one : (ks : List (Bor X)) (k : Bor X) → AddsTo (lent ks) (lent (insert_key cmp ks k)) (k.now ∷ [])
    adds_one [] k x = (λ c. inr c, λ h. ⊎_elim (λ c. absurd (no_element x c)) (λ c. c) h)
    adds_one (y ∷ ks) k x = go (R k.now y.now) refl (adds_one ks k x)
      where
        go : (o : Ordering) → R k.now y.now ≡ o
            → Contains (lent (insert_key cmp ks k)) x ↔ (Contains (lent ks) x ⊎ Contains (k.now ∷ []) x)
            → Contains (lent (match_ordering o (k ∷ y ∷ ks) (y ∷ ks) (y ∷ insert_key cmp ks k))) x
            ↔ (Contains (y.now ∷ lent ks) x ⊎ Contains (k.now ∷ []) x)
        go Less e rec = (
          λ c. ⊎_elim (λ z. inr (subst (Contains (k.now ∷ [])) z (contains_here k.now []))) (λ d. inl d)
              (contains_split k.now x (y.now ∷ lent ks) c),
          λ h. ⊎_elim (λ c. contains_later k.now x (y.now ∷ lent ks) c)
              (λ c. ⊎_elim (λ z. subst (Contains (k.now ∷ y.now ∷ lent ks)) z (contains_here k.now (y.now ∷ lent ks)))
              (λ d. absurd (no_element x d)) (contains_split k.now x [] c)) h,
        )
        go Equal e rec = (
          λ c. inl c,
          λ h. ⊎_elim (λ c. c)
              (λ c. ⊎_elim (λ z. subst (Contains (y.now ∷ lent ks)) (sym (exact k.now y.now e)
              ∙ z) (contains_here y.now (lent ks)))
              (λ d. absurd (no_element x d)) (contains_split k.now x [] c)) h,
        )
        go Greater e rec = (
          λ c. ⊎_elim (λ z. inl (subst (Contains (y.now ∷ lent ks)) z (contains_here y.now (lent ks))))
              (λ d. ⊎_elim (λ f. inl (contains_later y.now x (lent ks) f)) (λ f. inr f) (rec.0 d))
              (contains_split y.now x (lent (insert_key cmp ks k)) c),
          λ h. ⊎_elim
              (λ c. ⊎_elim (λ z. subst (Contains (y.now ∷ lent (insert_key cmp ks k))) z (contains_here y.now
              (lent (insert_key cmp ks k))))
              (λ d. contains_later y.now x (lent (insert_key cmp ks k)) (rec.1 (inl d))) (contains_split y.now x (lent ks) c))
              (λ c. contains_later y.now x (lent (insert_key cmp ks k)) (rec.1 (inr c))) h,
        )

-- what a list gives with one element more
pub flat_more : {X Y : Type 0} (f : X → List Y) (xs : List X) (x : X) → flat_map f (xs ++ x ∷ []) ≡ flat_map f xs ++ f x
flat_more f [] x = append-nil (f x)
flat_more f (y ∷ xs) x = ap (λ l. f y ++ l) (flat_more f xs x) ∙ sym (append_assoc (f y) (flat_map f xs) (f x))

-- one element more is taken
pub taken_more : {X : Type 0} (xs : List X) (i : ℕ) (x : X) → i < length xs → x ≡ get_or xs i x →
    take (i + 1) xs ≡ take i xs ++ x ∷ []
taken_more xs i x h e = take_more xs i x h ∙ ap (λ y. take i xs ++ y ∷ []) (sym e)

module _ {X : Type 0} (whole : List X) where
  -- what was put in, with what is left, is the whole: nothing was put in yet
  pub puts_start : (left : List X) → left ≡ whole → (x : X) → Contains whole x ↔ (Contains [] x ⊎ Contains left x)
  puts_start left e x = (
    λ c. inr (subst (λ l. Contains l x) (sym e) c),
    λ h.
        ⊎_elim (λ c. absurd (no_element x c)) (λ c. subst (λ l. Contains l x) e c) h,
  )

  -- some elements further on
  pub puts_more : (old new left these rest : List X) → ((x : X) → Contains whole x ↔ (Contains old x ⊎ Contains left x)) →
      left ≡ these ++ rest → AddsTo old new these → (x : X) → Contains whole x ↔ (Contains new x ⊎ Contains rest x)
  puts_more old new left these rest h e a x = (
    λ c. ⊎_elim (λ d. inl ((a x).1 (inl d)))
        (λ d. ⊎_elim (λ f. inl ((a x).1 (inr f))) (λ f. inr f) (Contains-append_cases these rest x (subst (λ l. Contains l x) e d)))
        ((h x).0 c),
    λ k. ⊎_elim
        (λ c. ⊎_elim (λ d. (h x).1 (inl d)) (λ d. (h x).1 (inr (subst (λ l. Contains l x) (sym e)
        (Contains-append_left these rest x d)))) ((a x).0 c))
        (λ c. (h x).1 (inr (subst (λ l. Contains l x) (sym e) (Contains-append_right these rest x c)))) k,
  )

  -- nothing is left
  pub puts_all : (new left : List X) → ((x : X) → Contains whole x ↔ (Contains new x ⊎ Contains left x)) → left ≡ [] →
      (x : X) → Contains new x ↔ Contains whole x
  puts_all new left h e x = (
    λ c. (h x).1 (inl c),
    λ c.
        ⊎_elim (λ d. d) (λ d. absurd (no_element x (subst (λ l. Contains l x) e d))) ((h x).0 c),
  )

-- added to nothing
pub holds_added : {X : Type 0} (new xs : List X) → AddsTo [] new xs → (x : X) → Contains new x ↔ Contains xs x
holds_added new xs a x = (λ c. ⊎_elim (λ d. absurd (no_element x d)) (λ d. d) ((a x).0 c), λ c. (a x).1 (inr c))

-- the same elements with more of them
pub holds_more : {X : Type 0} (old new xs ys : List X) → ((x : X) → Contains old x ↔ Contains xs x) → AddsTo old new ys →
    (x : X) → Contains new x ↔ Contains (xs ++ ys) x
holds_more old new xs ys h a x = (
  λ c. ⊎_elim (λ d. Contains-append_left xs ys x ((h x).0 d)) (λ d. Contains-append_right xs ys x d) ((a x).0 c),
  λ c. (a x).1 (⊎_elim (λ d. inl ((h x).1 d)) (λ d. inr d) (Contains-append_cases xs ys x c)),
)

-- before anything is put in, an empty list has what an empty list has
pub holds_none : {X : Type 0} (x : X) → Contains [] x ↔ Contains [] x
holds_none x = (λ c. c, λ c. c)

-- what references lend of one more
pub lent_more : {X : Type 0} (xs : List (Bor X)) (x : Bor X) → lent (xs ++ x ∷ []) ≡ lent xs ++ x.now ∷ []
lent_more [] x = refl
lent_more (y ∷ xs) x = ap (λ l. y.now ∷ l) (lent_more xs x)
