-- What stands in lists that are made of others: mapped, filtered, joined and paired.
use Rattle.std.proofs.Common.{◌≡◌, ◌∙◌, ℕ, zero, suc, ◌+◌, ◌<◌, ◌≤◌, ◌⊎◌, inl, inr, ⊎_elim, Bool}
use Rattle.std.proofs.Common.{true, false, cond}
use Rattle.std.proofs.Common.{List, [], ◌∷◌, ◌++◌, map, filter, Some, Contains, ap, sym, refl, subst, arith}
use Rattle.std.specs.Prelude.{flat_map, slice_get}
use Rattle.std.specs.BTreeSet.{insert_key}
use Rattle.std.specs.List.{range_with_len}
use Rattle.std.specs.Ordering.{match_ordering, nat_cmp}
use Rattle.std.specs.declared.cmp.Ordering.{Ordering}
use Rattle.std.specs.declared.cmp.Ordering.TheVariants.{Equal, Greater, Less}
use Rattle.std.proofs.lemmas.Map.Lookups.{exact_unsigned}
use Rattle.std.proofs.lemmas.List.Elements.{Contains-append_cases, Contains-append_left, Contains-append_right}
use Rattle.lalrpop_lr1_theory.proofs.ListLemmas.{contains_get, contains_here, contains_later, contains_split, get_contains}
use Rattle.lalrpop_sets.proofs.AscendingListLemmas.{cases_eq}
use Rattle.lalrpop_lr1_core.specs.Conflicts.{later_pairs}
use Rattle.lalrpop_lr1_theory.proofs.NameLemmas.{no_element}

-- each element of a mapped list is the image of an element of the list
pub in_map : {X Y : Type 0} (f : X → Y) (xs : List X) (y : Y) → Contains (map f xs) y → (x : X) × Contains xs x × (f x ≡ y)
in_map f [] y c = absurd (no_element y c)
in_map {X = X} f (z ∷ zs) y c = go (in_map f zs y) (contains_split (f z) y (map f zs) c)
  where
    go : (Contains (map f zs) y → (x : X) × Contains zs x × (f x ≡ y)) → (f z ≡ y) ⊎ Contains (map f zs) y
        → (x : X) × Contains (z ∷ zs) x × (f x ≡ y)
    go deeper (inl e) = (z, contains_here z zs, e)
    go deeper (inr d) = let r : (x : X) × Contains zs x × (f x ≡ y) = deeper d in (r.0, contains_later z r.0 zs r.1, r.2)

-- a mapped list has the image of each element of the list
pub map_has : {X Y : Type 0} (f : X → Y) (xs : List X) (x : X) → Contains xs x → Contains (map f xs) (f x)
map_has f [] x c = absurd (no_element x c)
map_has f (z ∷ zs) x c = go (map_has f zs x) (contains_split z x zs c)
  where
    go : (Contains zs x → Contains (map f zs) (f x)) → (z ≡ x) ⊎ Contains zs x → Contains (f z ∷ map f zs) (f x)
    go deeper (inl e) = subst (λ y. Contains (f z ∷ map f zs) (f y)) e (contains_here (f z) (map f zs))
    go deeper (inr d) = contains_later (f z) (f x) (map f zs) (deeper d)

-- what a filtered list has passes the test and is in the list
pub in_filter : {X : Type 0} (p : X → Bool) (xs : List X) (x : X) → Contains (filter p xs) x → (p x ≡ true) × Contains xs x
in_filter p [] x c = absurd (no_element x c)
in_filter p (z ∷ zs) x c = go (p z) refl (in_filter p zs x) c
  where
    further : (p x ≡ true) × Contains zs x → (p x ≡ true) × Contains (z ∷ zs) x
    further q = (q.0, contains_later z x zs q.1)

    first : p z ≡ true → (Contains (filter p zs) x → (p x ≡ true) × Contains zs x) → (z ≡ x) ⊎ Contains (filter p zs) x
        → (p x ≡ true) × Contains (z ∷ zs) x
    first h deeper (inl e) = (ap p (sym e) ∙ h, subst (Contains (z ∷ zs)) e (contains_here z zs))
    first h deeper (inr d) = further (deeper d)

    go : (b : Bool) → p z ≡ b → (Contains (filter p zs) x → (p x ≡ true) × Contains zs x)
        → Contains (cond b (z ∷ filter p zs) (filter p zs)) x → (p x ≡ true) × Contains (z ∷ zs) x
    go true h deeper d = first h deeper (contains_split z x (filter p zs) d)
    go false h deeper d = further (deeper d)

-- a range has only numbers from its start on and before its end
pub in_range : (a n k : ℕ) → Contains (range_with_len a n) k → (a ≤ k) × (k < a + n)
in_range a zero k c = absurd (no_element k c)
in_range a (suc n) k c = go (in_range (a + 1) n k) (contains_split a k (range_with_len (a + 1) n) c)
  where
    go : (Contains (range_with_len (a + 1) n) k → (a + 1 ≤ k) × (k < a + 1 + n))
        → (a ≡ k) ⊎ Contains (range_with_len (a + 1) n) k
        → (a ≤ k) × (k < a + suc n)
    go deeper (inl e) = (omega arith, omega arith)
    go deeper (inr d) = let r : (a + 1 ≤ k) × (k < a + 1 + n) = deeper d in (omega (arith, r.0), omega (arith, r.1))

-- where two lists joined are empty, both are empty
pub joined_empty : {X : Type 0} (a b : List X) → a ++ b ≡ [] → (a ≡ []) × (b ≡ [])
joined_empty [] b e = (refl, e)
joined_empty (x ∷ xs) b e = let w : ⊥ = cc in absurd w

-- where nothing comes of a list, nothing comes of its elements
pub flat_empty : {X Y : Type 0} (f : X → List Y) (xs : List X) (x : X) → flat_map f xs ≡ [] → Contains xs x → f x ≡ []
flat_empty f [] x e c = absurd (no_element x c)
flat_empty f (z ∷ zs) x e c = go (flat_empty f zs x) (joined_empty (f z) (flat_map f zs) e) (contains_split z x zs c)
  where
    go : (flat_map f zs ≡ [] → Contains zs x → f x ≡ []) → (f z ≡ []) × (flat_map f zs ≡ []) → (z ≡ x) ⊎ Contains zs x
        → f x ≡ []
    go deeper h (inl same) = ap f (sym same) ∙ h.0
    go deeper h (inr d) = deeper h.1 d

pub some_is : {X : Type 0} (x y : X) → Some x ≡ Some y → x ≡ y
some_is x y e = cc

-- an element with one behind it is a pair
pub pair_there : {X : Type 0} (xs : List X) (i j : ℕ) (x y : X) → slice_get xs i ≡ Some x → slice_get xs j ≡ Some y → i < j
    → Contains (later_pairs xs) (x, y)
pair_there [] i j x y e f h = let w : ⊥ = cc in absurd w
pair_there (z ∷ zs) i zero x y e f h = absurd (omega arith)
pair_there {X = X} (z ∷ zs) zero (suc j) x y e f h =
    let there : Contains (map (λ u. (z, u)) zs) (z, y) = map_has (λ u. (z, u)) zs y (get_contains zs j y f) in
    subst (λ u. Contains (map (λ v. (z, v)) zs ++ later_pairs zs) (u, y)) (some_is z x e)
    (Contains-append_left (map (λ u. (z, u)) zs) (later_pairs zs) (z, y) there)
pair_there (z ∷ zs) (suc i) (suc j) x y e f h =
    Contains-append_right (map (λ u. (z, u)) zs) (later_pairs zs) (x, y) (pair_there zs i j x y e f (omega arith))

-- an element of a list that passes the test is in the filtered list
pub filter_has : {X : Type 0} (p : X → Bool) (xs : List X) (x : X) → p x ≡ true → Contains xs x → Contains (filter p xs) x
filter_has p [] x h c = absurd (no_element x c)
filter_has p (z ∷ zs) x h c = go (p z) refl (filter_has p zs x h) (contains_split z x zs c)
  where
    go : (b : Bool) → p z ≡ b → (Contains zs x → Contains (filter p zs) x) → (z ≡ x) ⊎ Contains zs x
        → Contains (cond b (z ∷ filter p zs) (filter p zs)) x
    go true e deeper (inl same) = subst (Contains (z ∷ filter p zs)) same (contains_here z (filter p zs))
    go true e deeper (inr d) = contains_later z x (filter p zs) (deeper d)
    go false e deeper (inl same) = let w : true ≡ false = sym h ∙ sym (ap p same) ∙ e in let v : ⊥ = cc in absurd v
    go false e deeper (inr d) = deeper d

-- a range has each number from its start on and before its end
pub range_has : (a n k : ℕ) → a ≤ k → k < a + n → Contains (range_with_len a n) k
range_has a zero k h g = absurd (omega arith)
range_has a (suc n) k h g = go (range_has (a + 1) n k) (cases_eq a k)
  where
    go : (a + 1 ≤ k → k < a + 1 + n → Contains (range_with_len (a + 1) n) k) → (a ≡ k) ⊎ (a ≡ k → ⊥)
        → Contains (range_with_len a (suc n)) k
    go deeper (inl e) = subst (Contains (range_with_len a (suc n))) e (contains_here a (range_with_len (a + 1) n))
    go deeper (inr d) = contains_later a k (range_with_len (a + 1) n) (deeper (omega arith) (omega arith))

-- where nothing comes of each element, nothing comes of the list
pub each_empty : {X Y : Type 0} (f : X → List Y) (xs : List X) → ((x : X) → Contains xs x → f x ≡ []) → flat_map f xs ≡ []
each_empty f [] h = refl
each_empty f (z ∷ zs) h =
    ap (λ l. l ++ flat_map f zs) (h z (contains_here z zs)) ∙ each_empty f zs (λ x c. h x (contains_later z x zs c))

-- a pair is of an element and one behind it
pub in_pairs : {X : Type 0} (xs : List X) (x y : X) → Contains (later_pairs xs) (x, y)
    → (i : ℕ) × (j : ℕ) × (i < j) × (slice_get xs i ≡ Some x) × (slice_get xs j ≡ Some y)
in_pairs [] x y c = absurd (no_element (x, y) c)
in_pairs {X = X} (z ∷ zs) x y c =
    go (in_pairs zs x y) (Contains-append_cases (map (λ u. (z, u)) zs) (later_pairs zs) (x, y) c)
  where
    go : (Contains (later_pairs zs) (x, y)
        → (i : ℕ) × (j : ℕ) × (i < j) × (slice_get zs i ≡ Some x) × (slice_get zs j ≡ Some y))
        → Contains {X = X × X} (map (λ u. (z, u)) zs) (x, y) ⊎ Contains {X = X × X} (later_pairs zs) (x, y)
        → (i : ℕ) × (j : ℕ) × (i < j) × (slice_get (z ∷ zs) i ≡ Some x) × (slice_get (z ∷ zs) j ≡ Some y)
    go deeper (inl d) =
        let m : (u : X) × Contains zs u × ((z, u) ≡ (x, y)) = in_map (λ u. (z, u)) zs (x, y) d in
        let at : (k : ℕ) × (slice_get zs k ≡ Some m.0) = contains_get zs m.0 m.1 in
        (0, suc at.0, omega arith, ap (λ p. Some p.0) m.2, at.1 ∙ ap (λ p. Some p.1) m.2)
    go deeper (inr d) =
        let r : (i : ℕ) × (j : ℕ) × (i < j) × (slice_get zs i ≡ Some x) × (slice_get zs j ≡ Some y) = deeper d in
        (suc r.0, suc r.1, omega (arith, r.2), r.3, r.4)

-- a number put in
pub inserted_there : (ks : List ℕ) (k n : ℕ) → Contains (insert_key nat_cmp ks k) n → Contains ks n ⊎ (n ≡ k)
inserted_there [] k n c = ⊎_elim (λ e. inr (sym e)) (λ d. inl d) (contains_split k n [] c)
inserted_there (x ∷ xs) k n c = go (nat_cmp k x) (inserted_there xs k n) c
  where
    further : Contains xs n ⊎ (n ≡ k) → Contains (x ∷ xs) n ⊎ (n ≡ k)
    further (inl s) = inl (contains_later x n xs s)
    further (inr e) = inr e

    go : (o : Ordering) → (Contains (insert_key nat_cmp xs k) n → Contains xs n ⊎ (n ≡ k))
        → Contains (match_ordering o (k ∷ x ∷ xs) (x ∷ xs) (x ∷ insert_key nat_cmp xs k)) n
        → Contains (x ∷ xs) n ⊎ (n ≡ k)
    go Less deeper d = ⊎_elim (λ e. inr (sym e)) (λ r. inl r) (contains_split k n (x ∷ xs) d)
    go Equal deeper d = inl d
    go Greater deeper d =
        ⊎_elim (λ e. inl (subst (Contains (x ∷ xs)) e (contains_here x xs))) (λ r. further (deeper r))
        (contains_split x n (insert_key nat_cmp xs k) d)

-- a list into which a key is put has that key and all that it had before
pub inserted_back : (ks : List ℕ) (k n : ℕ) → Contains ks n ⊎ (n ≡ k) → Contains (insert_key nat_cmp ks k) n
inserted_back [] k n (inl c) = absurd (no_element n c)
inserted_back [] k n (inr e) = subst (Contains (k ∷ [])) (sym e) (contains_here k [])
inserted_back (x ∷ xs) k n h = go (nat_cmp k x) refl (inserted_back xs k n) h
  where
    go : (o : Ordering) → nat_cmp k x ≡ o → (Contains xs n ⊎ (n ≡ k) → Contains (insert_key nat_cmp xs k) n)
        → Contains (x ∷ xs) n ⊎ (n ≡ k)
        → Contains (match_ordering o (k ∷ x ∷ xs) (x ∷ xs) (x ∷ insert_key nat_cmp xs k)) n
    go Less e deeper (inl c) = contains_later k n (x ∷ xs) c
    go Less e deeper (inr d) = subst (Contains (k ∷ x ∷ xs)) (sym d) (contains_here k (x ∷ xs))
    go Equal e deeper (inl c) = c
    go Equal e deeper (inr d) = subst (Contains (x ∷ xs)) (sym (d ∙ exact_unsigned k x e)) (contains_here x xs)
    go Greater e deeper (inl c) =
        ⊎_elim (λ s. subst (Contains (x ∷ insert_key nat_cmp xs k)) s (contains_here x (insert_key nat_cmp xs k)))
        (λ r. contains_later x n (insert_key nat_cmp xs k) (deeper (inl r))) (contains_split x n xs c)
    go Greater e deeper (inr d) = contains_later x n (insert_key nat_cmp xs k) (deeper (inr d))
