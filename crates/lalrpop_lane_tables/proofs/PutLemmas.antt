-- What maps have at their keys after a push, and what a look-up finds in a map in order.
use Rattle.std.proofs.Common.{◌≡◌, ◌∙◌, ◌↔◌, ◌⊎◌, Bool, true, false, cond, List, [], ◌∷◌, Option, Some, None}
use Rattle.std.proofs.Common.{refl, sym, ap, subst, inl, inr, ⊎_elim, Contains, IsTrue, IsFalse}
use Rattle.std.specs.BTreeMap.{insert_entry, is_at}
use Rattle.std.specs.List.{AllByRecursion}
use Rattle.std.specs.List.Sorted.{IsStrictlySortedBy}
use Rattle.std.specs.Map.{keys_of, lookup, set_value}
use Rattle.std.specs.Option.{MatchOption}
use Rattle.std.specs.Ordering.{is_eq, match_ordering}
use Rattle.std.specs.declared.cmp.Ordering.{Ordering}
use Rattle.std.specs.declared.cmp.Ordering.TheVariants.{Less, Equal, Greater}
use Rattle.lalrpop_grammar_symbols.proofs.BoolLemmas.{is_equal}
use Rattle.lalrpop_lr1_theory.proofs.ListLemmas.{contains_here, contains_later, contains_split}
use Rattle.lalrpop_lr1_theory.proofs.NameLemmas.{no_element}
use Rattle.lalrpop_lr1_theory.proofs.StepLemmas.{some_same}
use Rattle.lalrpop_sets.specs.Collections.{Puts}

-- a content of which it holds is at the key
abbrev pub HasAt : {K C : Type 0} → (C → Type 0) → List (K × C) → K → Type 0
HasAt {K} {C} P es k = (c : C) × Contains es (k, c) × P c

at_in_front : {K C : Type 0} (P : C → Type 0) (e : K × C) (es : List (K × C)) (k : K) →
    HasAt P (e ∷ es) k ↔ (((e.0 ≡ k) × P e.1) ⊎ HasAt P es k)
at_in_front {K = K} {C = C} P e es k = (
  λ h. ⊎_elim
      (λ z. inl (ap (λ (f : K × C). f.0) z, subst (λ (f : K × C). P f.1) (sym z) h.2))
      (λ d. inr (h.0, d, h.2)) (contains_split e (k, h.0) es h.1),
  λ v. ⊎_elim
      (λ w. (e.1, subst (λ j. Contains (e ∷ es) (j, e.1)) w.0 (contains_here e es), w.1))
      (λ h. (h.0, contains_later e (k, h.0) es h.1, h.2)) v,
)

none_at : {K C : Type 0} (P : C → Type 0) (k : K) → HasAt P [] k → ⊥
none_at P k h = no_element (k, h.0) h.1

module _ {K C : Type 0} (cmp : K → K → Ordering) (exact : (a b : K) → cmp a b ≡ Equal → a ≡ b) (P : C → Type 0) where
  -- an entry at a key where none was
  pub inserted_has : (es : List (K × C)) (key : K) (c : C) → lookup (is_at (cmp key)) es ≡ None → (k : K) →
      HasAt P (insert_entry cmp es key c) k ↔ (HasAt P es k ⊎ ((key ≡ k) × P c))
  inserted_has [] key c none k = (
    λ h. ⊎_elim (λ w. inr w) (λ d. absurd (none_at P k d)) ((at_in_front P (key, c) [] k).0 h),
    λ v. ⊎_elim (λ d. absurd (none_at P k d)) (λ w. (at_in_front P (key, c) [] k).1 (inl w)) v,
  )
  inserted_has (e ∷ es) key c none k = go (cmp key e.0) none (λ h. inserted_has es key c h k)
    where
      go : (o : Ordering) → cond (is_eq o) (Some e.1) (lookup (is_at (cmp key)) es) ≡ None →
          (lookup (is_at (cmp key)) es ≡ None → HasAt P (insert_entry cmp es key c) k ↔ (HasAt P es k ⊎ ((key ≡ k) × P c))) →
          HasAt P (match_ordering o ((key, c) ∷ e ∷ es) ((e.0, c) ∷ es) (e ∷ insert_entry cmp es key c)) k
          ↔ (HasAt P (e ∷ es) k ⊎ ((key ≡ k) × P c))
      go Less h rest = (
        λ d. ⊎_elim (λ w. inr w) (λ a. inl a) ((at_in_front P (key, c) (e ∷ es) k).0 d),
        λ v. (at_in_front P (key, c) (e ∷ es) k).1 (⊎_elim (λ a. inr a) (λ w. inl w) v),
      )
      go Equal h rest = let z : ⊥ = cc in absurd z
      go Greater h rest = (
        λ d. ⊎_elim
            (λ w. inl ((at_in_front P e es k).1 (inl w)))
            (λ a. ⊎_elim (λ b. inl ((at_in_front P e es k).1 (inr b))) (λ w. inr w) ((rest h).0 a))
            ((at_in_front P e (insert_entry cmp es key c) k).0 d),
        λ v. (at_in_front P e (insert_entry cmp es key c) k).1 (⊎_elim
            (λ a. ⊎_elim (λ w. inl w) (λ b. inr ((rest h).1 (inl b))) ((at_in_front P e es k).0 a))
            (λ w. inr ((rest h).1 (inr w))) v),
      )

  -- a content in place of one that had less
  set_has : (es : List (K × C)) (key : K) (c d : C) (Came : Type 0) → lookup (is_at (cmp key)) es ≡ Some c →
      (P d ↔ (P c ⊎ Came)) → (k : K) → HasAt P (set_value (is_at (cmp key)) es d) k ↔ (HasAt P es k ⊎ ((key ≡ k) × Came))
  set_has [] key c d Came found more k = let z : ⊥ = cc in absurd z
  set_has (e ∷ es) key c d Came found more k = go (cmp key e.0) refl found (λ h. set_has es key c d Came h more k)
    where
      past : (HasAt P (set_value (is_at (cmp key)) es d) k ↔ (HasAt P es k ⊎ ((key ≡ k) × Came))) →
          HasAt P (e ∷ set_value (is_at (cmp key)) es d) k ↔ (HasAt P (e ∷ es) k ⊎ ((key ≡ k) × Came))
      past r = (
        λ a. ⊎_elim
            (λ w. inl ((at_in_front P e es k).1 (inl w)))
            (λ b. ⊎_elim (λ i. inl ((at_in_front P e es k).1 (inr i))) (λ w. inr w) (r.0 b))
            ((at_in_front P e (set_value (is_at (cmp key)) es d) k).0 a),
        λ v. (at_in_front P e (set_value (is_at (cmp key)) es d) k).1 (⊎_elim
            (λ a. ⊎_elim (λ w. inl w) (λ b. inr (r.1 (inl b))) ((at_in_front P e es k).0 a))
            (λ w. inr (r.1 (inr w))) v),
      )

      go : (o : Ordering) → cmp key e.0 ≡ o → cond (is_eq o) (Some e.1) (lookup (is_at (cmp key)) es) ≡ Some c →
          (lookup (is_at (cmp key)) es ≡ Some c →
          HasAt P (set_value (is_at (cmp key)) es d) k ↔ (HasAt P es k ⊎ ((key ≡ k) × Came))) →
          HasAt P (cond (is_eq o) ((e.0, d) ∷ es) (e ∷ set_value (is_at (cmp key)) es d)) k
          ↔ (HasAt P (e ∷ es) k ⊎ ((key ≡ k) × Came))
      go Less is h rest = past (rest h)
      go Greater is h rest = past (rest h)
      go Equal is h rest =
          let same : key ≡ e.0 = exact key e.0 is in
          let own : e.1 ≡ c = cc in (
            λ a. ⊎_elim
                (λ w. ⊎_elim (λ p. inl ((at_in_front P e es k).1 (inl (w.0, subst P (sym own) p)))) (λ q. inr (same ∙ w.0, q)) (more.0 w.1))
                (λ b. inl ((at_in_front P e es k).1 (inr b))) ((at_in_front P (e.0, d) es k).0 a),
            λ v. (at_in_front P (e.0, d) es k).1 (⊎_elim
                (λ a. ⊎_elim (λ w. inl (w.0, more.1 (inl (subst P own w.1)))) (λ b. inr b) ((at_in_front P e es k).0 a))
                (λ w. inl (sym same ∙ w.0, more.1 (inr w.1))) v),
          )

  -- what a push brings to a map of collections
  module _ {X : Type 0} (nothing : C → Type 0) (S : C → C → Type 0) (pushes : C → X → C → Type 0) (item : X) (Came : Type 0)
      (fresh : (e c : C) → nothing e → pushes e item c → P c ↔ Came) (pushed : (c d : C) → pushes c item d → P d ↔ (P c ⊎ Came)) where
    pub puts_has : (old new : List (K × C)) (key : K) (changed : Bool) → Puts cmp nothing S pushes old key item changed new → (k : K) →
        HasAt P new k ↔ (HasAt P old k ⊎ ((key ≡ k) × Came))
    puts_has old new key changed p k = go (lookup (is_at (cmp key)) old) refl p
      where
        go : (o : Option C) → lookup (is_at (cmp key)) old ≡ o →
            MatchOption o
            (IsTrue changed × ((e : C) × (c : C) × nothing e × pushes e item c × (new ≡ insert_entry cmp old key c)))
            (λ c. (d : C) × pushes c item d × (IsFalse changed ↔ S c d) × (new ≡ set_value (is_at (cmp key)) old d)) →
            HasAt P new k ↔ (HasAt P old k ⊎ ((key ≡ k) × Came))
        go None f q =
            let i = inserted_has old key q.1.1 f k in
            let m = fresh q.1.0 q.1.1 q.1.2 q.1.3 in
            subst (λ l. HasAt P l k ↔ (HasAt P old k ⊎ ((key ≡ k) × Came))) (sym q.1.4) (
              λ h. ⊎_elim (λ a. inl a) (λ w. inr (w.0, m.0 w.1)) (i.0 h),
              λ v. i.1 (⊎_elim (λ a. inl a) (λ w. inr (w.0, m.1 w.1)) v),
            )
        go (Some c) f q = subst (λ l. HasAt P l k ↔ (HasAt P old k ⊎ ((key ≡ k) × Came))) (sym q.3)
            (set_has old key c q.0 Came f (pushed c q.0 q.1) k)

module _ {K V : Type 0} (R : K → K → Ordering) (exact : (x y : K) → R x y ≡ Equal → x ≡ y) (self : (x : K) → R x x ≡ Equal)
  where
    all_in : (P : K → Type 0) (es : List (K × V)) (q : K) (v : V) → AllByRecursion P (keys_of es) → Contains es (q, v) → P q
    all_in P [] q v a c = absurd (no_element (q, v) c)
    all_in P (e ∷ es) q v a c = go (contains_split e (q, v) es c) (all_in P es q v a.1)
      where
        go : (e ≡ (q, v)) ⊎ Contains es (q, v) → (Contains es (q, v) → P q) → P q
        go (inl z) rec = subst P (ap (λ (u : K × V). u.0) z) a.0
        go (inr d) rec = rec d

    -- what a look-up finds is an entry
    pub found_there : (es : List (K × V)) (q : K) (v : V) → lookup (is_at (R q)) es ≡ Some v → Contains es (q, v)
    found_there [] q v e = let z : ⊥ = cc in absurd z
    found_there ((k, x) ∷ es) q v e = go (is_eq (R q k)) refl e (found_there es q v)
      where
        go : (b : Bool) → is_eq (R q k) ≡ b → cond b (Some x) (lookup (is_at (R q)) es) ≡ Some v →
            (lookup (is_at (R q)) es ≡ Some v → Contains es (q, v)) → Contains ((k, x) ∷ es) (q, v)
        go true h f rec =
            let one : q ≡ k = exact q k (is_equal (R q k) h) in
            let same : x ≡ v = cc in
            subst (λ (u : K × V). Contains ((k, x) ∷ es) u) (ap (λ j. (j, x)) (sym one) ∙ ap (λ y. (q, y)) same)
            (contains_here (k, x) es)
        go false h f rec = contains_later (k, x) (q, v) es (rec f)

    -- an entry is found, where the keys are in order
    pub there_found : (es : List (K × V)) (q : K) (v : V) → IsStrictlySortedBy R (keys_of es) → Contains es (q, v) →
        lookup (is_at (R q)) es ≡ Some v
    unfolding IsStrictlySortedBy
    there_found [] q v s c = absurd (no_element (q, v) c)
    there_found ((k, x) ∷ es) q v s c =
        go (is_eq (R q k)) refl (contains_split (k, x) (q, v) es c) (λ d. there_found es q v s.1 d)
      where
        go : (b : Bool) → is_eq (R q k) ≡ b → (◌≡◌ {A = K × V} (k, x) (q, v)) ⊎ Contains es (q, v) →
            (Contains es (q, v) → lookup (is_at (R q)) es ≡ Some v) → cond b (Some x) (lookup (is_at (R q)) es) ≡ Some v
        go true h (inl z) rec = ap (λ (u : K × V). Some u.1) z
        go true h (inr d) rec =
            let one : q ≡ k = exact q k (is_equal (R q k) h) in
            let less : R k q ≡ Less = all_in (λ j. R k j ≡ Less) es q v s.0 d in
            let both : Less ≡ Equal = sym less ∙ ap (λ j. R k j) one ∙ self k in
            let w : ⊥ = cc in absurd w
        go false h (inl z) rec =
            let one : k ≡ q = ap (λ (u : K × V). u.0) z in
            let both : is_eq (R q k) ≡ true = ap is_eq (ap (λ j. R q j) one ∙ self q) in
            let w : ⊥ = cc in absurd w
        go false h (inr d) rec = rec d

    -- a map in order has one entry for a key
    pub one_entry : (es : List (K × V)) (q : K) (v w : V) → IsStrictlySortedBy R (keys_of es) → Contains es (q, v) →
        Contains es (q, w) → v ≡ w
    one_entry es q v w s c d = some_same v w (sym (there_found es q v s c) ∙ there_found es q w s d)
