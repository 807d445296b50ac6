-- Maps with entries put in one after the other; for the maps of the lowered grammar.
use Rattle.std.proofs.Common.{◌≡◌, ◌≢◌, ◌∙◌, ◌⊎◌, ℕ, ◌+◌, List, [], ◌∷◌, ◌++◌, refl, ap, ap₂}
use Rattle.std.proofs.Common.{sym, subst, inl, inr, arith, Bool, true, false, cond, Ordering, length, length-append}
use Rattle.std.specs.declared.cmp.Ordering.TheVariants.{Less, Equal, Greater}
use Rattle.std.specs.Bool.{Decides}
use Rattle.std.specs.BTreeMap.{insert_entry, is_at}
use Rattle.std.specs.Cmp.{IsTotalOrder}
use Rattle.std.specs.List.Sorted.{IsStrictlySortedBy}
use Rattle.std.specs.Map.{keys_of, lookup}
use Rattle.std.specs.List.{AllByRecursion}
use Rattle.std.specs.Ordering.{is_eq, match_ordering, ordering_reverse}
use Rattle.std.specs.Prelude.{IsSomeAnd, Option, Some, None, flat_map}
use Rattle.lalrpop_grammar_language.specs.Among.{Among}
use Rattle.lalrpop_norm_lower.specs.LoweredLists.{put_entries, with_places}
use Rattle.std.proofs.lemmas.List.{append-nil}
use Rattle.std.proofs.Math.Seq.{append_snoc}
use Rattle.lalrpop_norm_tyinfer.proofs.TableLemmas.{lookup-insert_entry}
use Rattle.lalrpop_norm_lower.proofs.EarlierLemmas.{Across, Earlier}

module _ {K X : Type 0} (R : K → K → Ordering) (decides : (a b : K) → Decides (is_eq (R a b)) (a ≡ b)) where
  -- entries with different keys
  abbrev pub HaveOwnKeys : K × X → K × X → Type 0
  HaveOwnKeys e d = e.0 ≢ d.0

  -- no two entries have one key
  pub one_of_key : (es : List (K × X)) → Earlier HaveOwnKeys es → (e d : K × X) → Among es e → Among es d → e.0 ≡ d.0 → e ≡ d
  one_of_key [] own e d i j same = absurd i
  one_of_key (x ∷ es) own e d (inl a) (inl b) same = sym a ∙ b
  one_of_key (x ∷ es) own e d (inl a) (inr j) same = absurd (own.0 d j (ap (λ (z : K × X). z.0) a ∙ same))
  one_of_key (x ∷ es) own e d (inr i) (inl b) same = absurd (own.0 e i (ap (λ (z : K × X). z.0) b ∙ sym same))
  one_of_key (x ∷ es) own e d (inr i) (inr j) same = one_of_key es own.1 e d i j same

  -- no entry has the key
  abbrev pub IsFree : K → List (K × X) → Type 0
  IsFree k es = (e : K × X) → Among es e → e.0 ≢ k

  among_of_put : (es : List (K × X)) (k : K) (v : X) → IsFree k es → (e : K × X) → Among (insert_entry R es k v) e
      → (e ≡ (k, v)) ⊎ Among es e
  among_of_put [] k v free e (inl same) = inl (sym same)
  among_of_put [] k v free e (inr i) = absurd i
  among_of_put (d ∷ es) k v free e i = go (R k d.0) refl i (λ j. among_of_put es k v (λ x l. free x (inr l)) e j)
    where
      go : (o : Ordering) → R k d.0 ≡ o
          → Among (match_ordering o ((k, v) ∷ d ∷ es) ((d.0, v) ∷ es) (d ∷ insert_entry R es k v)) e
          → (Among (insert_entry R es k v) e → (e ≡ (k, v)) ⊎ Among es e) → (e ≡ (k, v)) ⊎ Among (d ∷ es) e
      go Less h (inl same) later = inl (sym same)
      go Less h (inr j) later = inr j
      go Equal h j later = absurd (free d (inl refl) (sym ((decides k d.0).0 (ap is_eq h))))
      go Greater h (inl same) later = inr (inl same)
      go Greater h (inr j) later = past (later j)
        where
          past : (e ≡ (k, v)) ⊎ Among es e → (e ≡ (k, v)) ⊎ Among (d ∷ es) e
          past (inl same) = inl same
          past (inr l) = inr (inr l)

  put_among : (es : List (K × X)) (k : K) (v : X) → IsFree k es → (e : K × X) → (e ≡ (k, v)) ⊎ Among es e
      → Among (insert_entry R es k v) e
  put_among [] k v free e (inl same) = inl (sym same)
  put_among [] k v free e (inr i) = absurd i
  put_among (d ∷ es) k v free e i = go (R k d.0) refl i (λ j. put_among es k v (λ x l. free x (inr l)) e j)
    where
      go : (o : Ordering) → R k d.0 ≡ o → (e ≡ (k, v)) ⊎ Among (d ∷ es) e
          → ((e ≡ (k, v)) ⊎ Among es e → Among (insert_entry R es k v) e)
          → Among (match_ordering o ((k, v) ∷ d ∷ es) ((d.0, v) ∷ es) (d ∷ insert_entry R es k v)) e
      go Less h (inl same) later = inl (sym same)
      go Less h (inr j) later = inr j
      go Equal h j later = absurd (free d (inl refl) (sym ((decides k d.0).0 (ap is_eq h))))
      go Greater h (inl same) later = inr (later (inl same))
      go Greater h (inr (inl same)) later = inl same
      go Greater h (inr (inr j)) later = inr (later (inr j))

  -- entries of which none has the key of another, and none that of one in the map
  pub record CanPut (es more : List (K × X)) : Type 0 where
    pub own : Earlier HaveOwnKeys more
    pub free : Across HaveOwnKeys es more

  one_put : (es : List (K × X)) (e : K × X) (more : List (K × X)) → CanPut es (e ∷ more) → IsFree e.0 es
  one_put es e more c d i = c.free d e i (inl refl)

  rest_put : (es : List (K × X)) (e : K × X) (more : List (K × X)) → CanPut es (e ∷ more)
      → CanPut (insert_entry R es e.0 e.1) more
  rest_put es e more c = record {
    own = c.own.1;
    free = λ x y i j. go x y (among_of_put es e.0 e.1 (one_put es e more c) x i) j;
  }
    where
      go : (x y : K × X) → (x ≡ (e.0, e.1)) ⊎ Among es x → Among more y → x.0 ≢ y.0
      go x y (inl same) j f = c.own.0 y j (sym (ap (λ (z : K × X). z.0) same) ∙ f)
      go x y (inr i) j f = c.free x y i (inr j) f

  -- they stand in the map with those before, and no other does
  pub among_of_all_put : (es more : List (K × X)) → CanPut es more → (e : K × X) → Among (put_entries R es more) e
      → Among es e ⊎ Among more e
  among_of_all_put es [] c e i = inl i
  among_of_all_put es (d ∷ more) c e i =
      go (among_of_all_put (insert_entry R es d.0 d.1) more (rest_put es d more c) e i)
    where
      here : (e ≡ (d.0, d.1)) ⊎ Among es e → Among es e ⊎ Among (d ∷ more) e
      here (inl same) = inr (inl (sym same))
      here (inr j) = inl j

      go : Among (insert_entry R es d.0 d.1) e ⊎ Among more e → Among es e ⊎ Among (d ∷ more) e
      go (inl j) = here (among_of_put es d.0 d.1 (one_put es d more c) e j)
      go (inr j) = inr (inr j)

  pub all_put_among : (es more : List (K × X)) → CanPut es more → (e : K × X) → Among es e ⊎ Among more e
      → Among (put_entries R es more) e
  all_put_among es [] c e (inl i) = i
  all_put_among es [] c e (inr i) = absurd i
  all_put_among es (d ∷ more) c e i = all_put_among (insert_entry R es d.0 d.1) more (rest_put es d more c) e (go i)
    where
      put : (e ≡ (d.0, d.1)) ⊎ Among es e → Among (insert_entry R es d.0 d.1) e
      put = put_among es d.0 d.1 (one_put es d more c) e

      go : Among es e ⊎ Among (d ∷ more) e → Among (insert_entry R es d.0 d.1) e ⊎ Among more e
      go (inl j) = inl (put (inr j))
      go (inr (inl same)) = inl (put (inl (sym same)))
      go (inr (inr j)) = inr j

  -- what is related both ways to one another stays so
  module _ (S : K × X → K × X → Type 0) (turned : (e d : K × X) → S e d → S d e) where
    earlier_put : (es : List (K × X)) (k : K) (v : X) → IsFree k es → ((e : K × X) → Among es e → S e (k, v)) → Earlier S es
        → Earlier S (insert_entry R es k v)
    earlier_put [] k v free to h = (λ y i. absurd i, tt)
    earlier_put (d ∷ es) k v free to h =
        go (R k d.0) refl (earlier_put es k v (λ x l. free x (inr l)) (λ x l. to x (inr l)) h.1)
      where
        behind : (y : K × X) → (y ≡ (k, v)) ⊎ Among es y → S d y
        behind y (inl same) = subst (S d) (sym same) (to d (inl refl))
        behind y (inr i) = h.0 y i

        go : (o : Ordering) → R k d.0 ≡ o → Earlier S (insert_entry R es k v)
            → Earlier S (match_ordering o ((k, v) ∷ d ∷ es) ((d.0, v) ∷ es) (d ∷ insert_entry R es k v))
        go Less e ih = (λ y i. turned y (k, v) (to y i), h)
        go Equal e ih = absurd (free d (inl refl) (sym ((decides k d.0).0 (ap is_eq e))))
        go Greater e ih = (λ y i. behind y (among_of_put es k v (λ x l. free x (inr l)) y i), ih)

    pub earlier_all_put : (es more : List (K × X)) → CanPut es more → Earlier S es → Earlier S more → Across S es more
        → Earlier S (put_entries R es more)
    earlier_all_put es [] c h k a = h
    earlier_all_put es (d ∷ more) c h k a =
        earlier_all_put (insert_entry R es d.0 d.1) more (rest_put es d more c)
        (earlier_put es d.0 d.1 (one_put es d more c) (λ e i. a e d i (inl refl)) h) k.1
        (λ x y i j. go x y (among_of_put es d.0 d.1 (one_put es d more c) x i) j)
      where
        go : (x y : K × X) → (x ≡ (d.0, d.1)) ⊎ Among es x → Among more y → S x y
        go x y (inl same) j = subst (λ z. S z y) (sym same) (k.0 y j)
        go x y (inr i) j = a x y i (inr j)

  -- how many elements the entries have together
  module _ {A : Type 0} (f : K × X → List A) where
    put_length : (es : List (K × X)) (k : K) (v : X) → IsFree k es
        → length (flat_map f (insert_entry R es k v)) ≡ length (f (k, v)) + length (flat_map f es)
    put_length [] k v free = length-append (f (k, v)) []
    put_length (d ∷ es) k v free = go (R k d.0) refl (put_length es k v (λ x l. free x (inr l)))
      where
        go : (o : Ordering) → R k d.0 ≡ o
            → length (flat_map f (insert_entry R es k v)) ≡ length (f (k, v)) + length (flat_map f es)
            → length (flat_map f (match_ordering o ((k, v) ∷ d ∷ es) ((d.0, v) ∷ es) (d ∷ insert_entry R es k v)))
            ≡ length (f (k, v)) + length (f d ++ flat_map f es)
        go Less e ih = length-append (f (k, v)) (f d ++ flat_map f es)
        go Equal e ih = absurd (free d (inl refl) (sym ((decides k d.0).0 (ap is_eq e))))
        go Greater e ih =
            let a = length-append (f d) (flat_map f (insert_entry R es k v)) in
            let b = length-append (f d) (flat_map f es) in
            omega (arith, a, b, ih)

    pub all_put_length : (es more : List (K × X)) → CanPut es more
        → length (flat_map f (put_entries R es more)) ≡ length (flat_map f es) + length (flat_map f more)
    all_put_length es [] c = omega arith
    all_put_length es (d ∷ more) c =
        let ih = all_put_length (insert_entry R es d.0 d.1) more (rest_put es d more c) in
        let one = put_length es d.0 d.1 (one_put es d more c) in
        let b = length-append (f d) (flat_map f more) in
        omega (arith, ih, one, b)

  -- what a look-up finds is one of the entries
  pub found_among : (es : List (K × X)) (q : K) (v : X) → lookup (is_at (R q)) es ≡ Some v → Among es (q, v)
  found_among [] q v e = cc
  found_among (d ∷ es) q v e = go (is_eq (R q d.0)) refl e (λ f. found_among es q v f)
    where
      go : (b : Bool) → is_eq (R q d.0) ≡ b → cond b (Some d.1) (lookup (is_at (R q)) es) ≡ Some v
          → (lookup (is_at (R q)) es ≡ Some v → Among es (q, v)) → Among (d ∷ es) (q, v)
      go true h f later =
          let key : q ≡ d.0 = (decides q d.0).0 h in
          let value : d.1 ≡ v = cc in
          inl (ap₂ (λ (k : K) (x : X). (k, x)) (sym key) value)
      go false h f later = inr (later f)

  -- what was put in last stands there
  lookup_same : (es : List (K × X)) (k : K) (v : X) → lookup (is_at (R k)) (insert_entry R es k v) ≡ Some v
  lookup_same es k v =
      lookup-insert_entry R decides k k v es ∙ ap (λ b. cond b (Some v) (lookup (is_at (R k)) es)) ((decides k k).1 refl)

  lookup_other : (es : List (K × X)) (q k : K) (v : X) → q ≢ k
      → lookup (is_at (R q)) (insert_entry R es k v) ≡ lookup (is_at (R q)) es
  lookup_other es q k v apart = go (is_eq (R q k)) refl
    where
      go : (b : Bool) → is_eq (R q k) ≡ b → lookup (is_at (R q)) (insert_entry R es k v) ≡ lookup (is_at (R q)) es
      go true h = absurd (apart ((decides q k).0 h))
      go false h = lookup-insert_entry R decides q k v es ∙ ap (λ b. cond b (Some v) (lookup (is_at (R q)) es)) h

  -- at another key nothing changes
  pub lookup_kept : (es more : List (K × X)) (q : K) → ((d : K × X) → Among more d → q ≢ d.0)
      → lookup (is_at (R q)) (put_entries R es more) ≡ lookup (is_at (R q)) es
  lookup_kept es [] q apart = refl
  lookup_kept es (d ∷ more) q apart =
      lookup_kept (insert_entry R es d.0 d.1) more q (λ e i. apart e (inr i))
      ∙ lookup_other es q d.0 d.1 (apart d (inl refl))

  -- at the key of an entry its value stands
  pub lookup_put : (es more : List (K × X)) → Earlier HaveOwnKeys more → (e : K × X) → Among more e
      → lookup (is_at (R e.0)) (put_entries R es more) ≡ Some e.1
  lookup_put es [] own e i = absurd i
  lookup_put es (d ∷ more) own e (inl same) =
      subst (λ (x : K × X). lookup (is_at (R x.0)) (put_entries R es (d ∷ more)) ≡ Some x.1) same
      (lookup_kept (insert_entry R es d.0 d.1) more d.0 (λ y j. own.0 y j) ∙ lookup_same es d.0 d.1)
  lookup_put es (d ∷ more) own e (inr i) = lookup_put (insert_entry R es d.0 d.1) more own.1 e i

  -- a key that stands there is found
  pub key_found : (es : List (K × X)) (k : K) → Among (keys_of es) k → IsSomeAnd (lookup (is_at (R k)) es) (λ v. Among es (k, v))
  key_found [] k i = absurd i
  key_found (d ∷ es) k i = go (is_eq (R k d.0)) refl (λ j. key_found es k j)
    where
      later : IsSomeAnd (lookup (is_at (R k)) es) (λ v. Among es (k, v)) → (o : Option X) → lookup (is_at (R k)) es ≡ o
          → IsSomeAnd o (λ v. Among (d ∷ es) (k, v))
      later h None e = subst (λ o. IsSomeAnd o (λ v. Among es (k, v))) e h
      later h (Some v) e = inr (subst (λ o. IsSomeAnd o (λ v. Among es (k, v))) e h)

      rest : (d.0 ≡ k) ⊎ Among (keys_of es) k → is_eq (R k d.0) ≡ false → Among (keys_of es) k
      rest (inl same) h = let equal : is_eq (R k d.0) ≡ true = (decides k d.0).1 (sym same) in absurd (let wrong : ⊥ = cc in wrong)
      rest (inr j) h = j

      go : (b : Bool) → is_eq (R k d.0) ≡ b
          → (Among (keys_of es) k → IsSomeAnd (lookup (is_at (R k)) es) (λ v. Among es (k, v)))
          → IsSomeAnd (cond b (Some d.1) (lookup (is_at (R k)) es)) (λ v. Among (d ∷ es) (k, v))
      go true h ih = inl (ap (λ (x : K). (x, d.1)) (sym ((decides k d.0).0 h)))
      go false h ih = later (ih (rest i h)) (lookup (is_at (R k)) es) refl

-- entries that stand in the order of their keys are the map
module _ {K X : Type 0} {R : K → K → Ordering} (total : IsTotalOrder R) where
  -- what stands before a key is below it
  below_key : (e : K) (es : List (K × X)) (k : K) (v : X) (rest : List (K × X))
      → AllByRecursion (λ y. R e y ≡ Less) (keys_of (es ++ (k, v) ∷ rest)) → R e k ≡ Less
  below_key e [] k v rest all = all.0
  below_key e (x ∷ es) k v rest all = below_key e es k v rest all.1

  -- a key above all others is put behind them
  put_last : (es : List (K × X)) (k : K) (v : X) (rest : List (K × X)) → IsStrictlySortedBy R (keys_of (es ++ (k, v) ∷ rest))
      → insert_entry R es k v ≡ es ++ (k, v) ∷ []
  unfolding IsStrictlySortedBy
  put_last [] k v rest sorted = refl
  put_last (e ∷ es) k v rest sorted =
      let less : R e.0 k ≡ Less = below_key e.0 es k v rest sorted.0 in
      let greater : R k e.0 ≡ Greater = total.antisymm k e.0 ∙ ap ordering_reverse less in
      rw greater (ap (λ l. e ∷ l) (put_last es k v rest sorted.1))

  pub put_in_order : (es more : List (K × X)) → IsStrictlySortedBy R (keys_of (es ++ more)) → put_entries R es more ≡ es ++ more
  put_in_order es [] sorted = sym (append-nil es)
  put_in_order es (e ∷ more) sorted =
      let last : insert_entry R es e.0 e.1 ≡ es ++ e ∷ [] = put_last es e.0 e.1 more sorted in
      let joined : (es ++ e ∷ []) ++ more ≡ es ++ e ∷ more = append_snoc es e more in
      ap (λ l. put_entries R l more) last
      ∙ put_in_order (es ++ e ∷ []) more (subst (λ l. IsStrictlySortedBy R (keys_of l)) (sym joined) sorted) ∙ joined

-- the places of a list's elements have these as their keys
pub keys_with_places : {K : Type 0} (k : ℕ) (xs : List K) → keys_of (with_places k xs) ≡ xs
keys_with_places k [] = refl
keys_with_places k (x ∷ xs) = ap (λ l. x ∷ l) (keys_with_places (k + 1) xs)
