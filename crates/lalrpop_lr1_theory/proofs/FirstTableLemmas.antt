-- A table of first sets, and what it means that it is the least: for that law, and for the code that computes one.
use Rattle.std.proofs.Common.{◌≡◌, List, [], ◌∷◌, ◌++◌, Some, None, refl, sym, ap, subst, ⊎_elim, append_assoc, inl}
use Rattle.std.proofs.Common.{inr, ◌⊎◌}
use Rattle.lalrpop_grammar_symbols.specs.Symbols.{Terminal, Text}
use Rattle.lalrpop_lr1_theory.specs.Productions.{Next, Production, Symbol, nonterminal, terminal}
use Rattle.lalrpop_lr1_theory.specs.FirstSets.{Derives, First0, HoldsFirstSets, IsClosedTable, TableSays, ends, grows, keeps}

both_none : (a b : List Symbol) → a ++ b ≡ [] → (a ≡ []) × (b ≡ [])
both_none [] b e = (refl, e)
both_none (x ∷ a) b e = let z : ⊥ = cc in absurd z

begins_with : (t : Terminal) (a b w : List Symbol) → a ++ b ≡ terminal t ∷ w →
    ((a ≡ []) × (b ≡ terminal t ∷ w)) ⊎ ((v : List Symbol) × (a ≡ terminal t ∷ v))
begins_with t [] b w e = inl (refl, e)
begins_with t (x ∷ a) b w e = let z : x ≡ terminal t = cc in inr (a, ap (λ y. y ∷ a) z)

derives_self : (G : Production → Type 0) (xs : List Symbol) → Derives G xs xs
derives_self G [] = ends
derives_self G (x ∷ xs) = keeps x (derives_self G xs)

derives_both : (G : Production → Type 0) (a b c d : List Symbol) → Derives G a b → Derives G c d → Derives G (a ++ c) (b ++ d)
derives_both G a b c d ends k = k
derives_both G a b c d (keeps x {xs = a'} {ys = b'} h) k = keeps x (derives_both G a' b' c d h k)
derives_both G a b c d (grows p {xs = a'} {ys = b'} {zs = zs} g h h') k =
    subst (Derives G (nonterminal p.left ∷ a' ++ c)) (sym (append_assoc zs b' d)) (grows p g h (derives_both G a' b' c d h' k))

module _ (G : Production → Type 0) (T : Text → Next → Type 0) where
  says_nothing : IsClosedTable G T → (xs ys : List Symbol) →
      Derives G xs ys → ys ≡ [] → TableSays T xs None
  says_nothing close xs ys ends e = refl
  says_nothing close xs ys (keeps x d) e = let z : ⊥ = cc in absurd z
  says_nothing close xs ys (grows p {xs = xs'} {ys = ys'} {zs = zs} g d d') e =
      let a = both_none zs ys' e in
      (close p None g (says_nothing close p.right zs d a.0), says_nothing close xs' ys' d' a.1)

  pub says_first : IsClosedTable G T → (xs ys : List Symbol) →
      Derives G xs ys → (t : Terminal) (w : List Symbol) → ys ≡ terminal t ∷ w → TableSays T xs (Some t)
  says_first close xs ys ends t w e = let z : ⊥ = cc in absurd z
  says_first close xs ys (keeps (terminal u) d) t w e = let z : t ≡ u = cc in ap Some z
  says_first close xs ys (keeps (nonterminal A) d) t w e = let z : ⊥ = cc in absurd z
  says_first close xs ys (grows p {xs = xs'} {ys = ys'} {zs = zs} g d d') t w e =
      ⊎_elim
      (λ h. inr (close p None g (says_nothing close p.right zs d h.0), says_first close xs' ys' d' t w h.1))
      (λ h. inl (close p (Some t) g (says_first close p.right zs d t h.0 h.1)))
      (begins_with t zs ys' w e)

  -- a table that is closed under the productions holds all first sets
  pub said_first : IsClosedTable G T → (xs : List Symbol) (x : Next) →
      First0 G xs x → TableSays T xs x
  said_first close xs None h = says_nothing close xs [] h refl
  said_first close xs (Some t) h = says_first close xs (terminal t ∷ h.0) h.1 t h.0 refl

  -- a table whose entries are first sets says no more
  pub first_said : HoldsFirstSets G T → (xs : List Symbol) (x : Next) →
      TableSays T xs x → First0 G xs x
  first_said hold [] None h = ends
  first_said hold [] (Some t) h = let z : ⊥ = cc in absurd z
  first_said hold (terminal u ∷ xs) None h = let z : ⊥ = cc in absurd z
  first_said hold (terminal u ∷ xs) (Some t) h = let z : u ≡ t = cc in
      (xs, subst (λ v. Derives G (terminal u ∷ xs) (terminal v ∷ xs)) z (keeps (terminal u) (derives_self G xs)))
  first_said hold (nonterminal A ∷ xs) None h =
      derives_both G (nonterminal A ∷ []) [] xs [] (hold A None h.0) (first_said hold xs None h.1)
  first_said hold (nonterminal A ∷ xs) (Some t) (inl h) = let d = hold A (Some t) h in
      (d.0 ++ xs, derives_both G (nonterminal A ∷ []) (terminal t ∷ d.0) xs xs d.1 (derives_self G xs))
  first_said hold (nonterminal A ∷ xs) (Some t) (inr h) = let d = first_said hold xs (Some t) h.1 in
      (d.0, derives_both G (nonterminal A ∷ []) [] xs (terminal t ∷ d.0) (hold A None h.0) d.1)

  -- what a production adds to an entry is a first set of its left side
  pub first_left : (p : Production) (x : Next) → G p → First0 G p.right x → First0 G (nonterminal p.left ∷ []) x
  first_left p None g h = grows p g h ends
  first_left p (Some t) g h = (h.0 ++ [], grows p g h.1 ends)
