-- Lists with an item put in, replaced or taken out at a place, as what stands before the place and what is made of the rest; for ranges.
use Rattle.std.proofs.Common.{◌≡◌, ℕ, zero, suc, ◌+◌, ◌<◌, List, [], ◌∷◌, ◌++◌, length, get_or, set, take, drop, refl, sym, ap, ◌∙◌, arith}
use Rattle.std.proofs.lemmas.List.{drop_more}
use Rattle.std.specs.List.{insert, remove}

module _ {X : Type 0} where
  pub set_length : (xs : List X) (p : ℕ) (v : X) → length (set xs p v) ≡ length xs
  set_length [] p v = refl
  set_length (x ∷ xs) zero v = refl
  set_length (x ∷ xs) (suc p) v = ap suc (set_length xs p v)

  set_parts : (xs : List X) (p : ℕ) (v : X) → p < length xs → set xs p v ≡ take p xs ++ v ∷ drop (suc p) xs
  set_parts [] p v h = absurd (omega arith)
  set_parts (x ∷ xs) zero v h = refl
  set_parts (x ∷ xs) (suc p) v h = ap (λ l. x ∷ l) (set_parts xs p v (omega arith))

  -- what a place is at, with what follows
  pub at_place : (xs : List X) (p : ℕ) (z : X) → p < length xs → z ≡ get_or xs p z → drop p xs ≡ z ∷ drop (suc p) xs
  at_place xs p z h e = drop_more xs p z h ∙ ap (λ y. y ∷ drop (p + 1) xs) (sym e) ∙ ap (λ n. z ∷ drop n xs) (let q : p + 1 ≡ suc p = omega arith in q)

  -- one item is replaced
  pub replaced : (f : List X → List X) (xs : List X) (p : ℕ) (z v : X) → p < length xs → z ≡ get_or xs p z
      → f (z ∷ drop (suc p) xs) ≡ v ∷ drop (suc p) xs → set xs p v ≡ take p xs ++ f (drop p xs)
  replaced f xs p z v h e g = set_parts xs p v h ∙ ap (λ l. take p xs ++ l) (sym (ap f (at_place xs p z h e) ∙ g))

  -- one item is taken out
  pub removed : (f : List X → List X) (xs : List X) (p : ℕ) (z : X) → p < length xs → z ≡ get_or xs p z
      → f (z ∷ drop (suc p) xs) ≡ drop (suc p) xs → remove xs p ≡ take p xs ++ f (drop p xs)
  removed f xs p z h e g = ap (λ l. take p xs ++ l) (sym (ap f (at_place xs p z h e) ∙ g))

  insert_set : (xs : List X) (p : ℕ) (v w : X) → p < length xs
      → insert (set xs p v) (suc p) w ≡ take p xs ++ v ∷ w ∷ drop (suc p) xs
  insert_set [] p v w h = absurd (omega arith)
  insert_set (x ∷ xs) zero v w h = refl
  insert_set (x ∷ xs) (suc p) v w h = ap (λ l. x ∷ l) (insert_set xs p v w (omega arith))

  -- one item is replaced by two
  pub parted : (f : List X → List X) (xs : List X) (p : ℕ) (z v w : X) → p < length xs → z ≡ get_or xs p z
      → f (z ∷ drop (suc p) xs) ≡ v ∷ w ∷ drop (suc p) xs → insert (set xs p v) (p + 1) w ≡ take p xs ++ f (drop p xs)
  parted f xs p z v w h e g =
      ap (λ n. insert (set xs p v) n w) (let q : p + 1 ≡ suc p = omega arith in q) ∙ insert_set xs p v w h
      ∙ ap (λ l. take p xs ++ l) (sym (ap f (at_place xs p z h e) ∙ g))

  set_removed : (xs : List X) (p : ℕ) (v : X) → suc p < length xs
      → set (remove xs (suc p)) p v ≡ take p xs ++ v ∷ drop (suc (suc p)) xs
  set_removed [] p v h = absurd (omega arith)
  set_removed (x ∷ []) zero v h = absurd (omega arith)
  set_removed (x ∷ y ∷ xs) zero v h = refl
  set_removed (x ∷ xs) (suc p) v h = ap (λ l. x ∷ l) (set_removed xs p v (omega arith))

  -- two items are replaced by one
  pub joined : (f : List X → List X) (xs : List X) (p : ℕ) (z y v : X) → p + 1 < length xs → z ≡ get_or xs p z
      → y ≡ get_or xs (p + 1) y → f (z ∷ y ∷ drop (suc (suc p)) xs) ≡ v ∷ drop (suc (suc p)) xs
      → set (remove xs (p + 1)) p v ≡ take p xs ++ f (drop p xs)
  joined f xs p z y v h e d g =
      let q : p + 1 ≡ suc p = omega arith in
      let next : drop (suc p) xs ≡ y ∷ drop (suc (suc p)) xs = at_place xs (suc p) y (omega arith) (d ∙ ap (λ n. get_or xs n y) q) in
      ap (λ n. set (remove xs n) p v) q ∙ set_removed xs p v (omega arith)
      ∙ ap (λ l. take p xs ++ l) (sym (ap f (at_place xs p z (omega arith) e) ∙ ap (λ l. f (z ∷ l)) next ∙ g))

  -- an item is put in
  pub inserted : (f : List X → List X) (xs : List X) (p : ℕ) (v : X) → f (drop p xs) ≡ v ∷ drop p xs
      → insert xs p v ≡ take p xs ++ f (drop p xs)
  inserted f xs p v g = ap (λ l. take p xs ++ l) (sym g)
