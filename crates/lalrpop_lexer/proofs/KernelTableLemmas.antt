-- Kernels with their numbers, those of one state in a table by that state: what is found there, and one more. For `Kernels`.
use Rattle.std.proofs.Common.{◌≡◌, ℕ, zero, suc, ◌+◌, ◌<◌, ◌⊎◌, List, [], ◌∷◌, ◌++◌, length, get_or, set, Contains, All, Vec, Global}
use Rattle.std.proofs.Common.{Bool, true, false, cond, Option, Some, None, MatchOption, inl, inr, ⊎_elim, sym, ap, ◌∙◌, refl, subst, arith}
use Rattle.std.specs.Map.{lookup}
use Rattle.std.specs.Ordering.{match_ordering, is_eq, nat_cmp}
use Rattle.std.specs.Cmp.Lexicographic.{slice_cmp}
use Rattle.std.specs.BTreeMap.{insert_entry}
use Rattle.std.specs.declared.cmp.Ordering.{Ordering}
use Rattle.std.specs.declared.cmp.Ordering.TheVariants.{Less, Equal, Greater}
use Rattle.std.proofs.lemmas.Bool.{cases_eq}
use Rattle.std.proofs.lemmas.Cmp.{nat_list_cmp_total, eq_by_cmp_equiv}
use Rattle.std.proofs.lemmas.List.{get_or-set_same, get_or-set_other, length-set}
use Rattle.std.proofs.lemmas.List.Elements.{All-contains, All-contains_itself, All-from_recursion, All-weaker, All-map}
use Rattle.std.proofs.lemmas.List.Elements.{Contains-append_left, Contains-append_right, Contains-append_cases, Contains-push, Contains-get_or}
use Rattle.std.proofs.lemmas.Map.{none_passes_from_lookup}
use Rattle.std.proofs.lemmas.Map.Lookups.{exact_bytes}
use Rattle.lalrpop_lexer_nfa.proofs.ListLemmas.{Contains-nil, Contains-head, Contains-tail, Contains-cons_cases, Contains-map, Contains-from_map}
use Rattle.lalrpop_lexer.specs.Kernels.{single_kernels, mapped_kernels, IsSingle, HasOneKernelMore}
use Rattle.lalrpop_lexer.proofs.StatesLemmas.{All-insert_entry, equal_from, found_entry}

-- ---- the table

-- a kernel of one state has its number at the state's place
single_from : (q : ℕ) (table : List (Option ℕ)) (k : List ℕ × ℕ) → Contains (single_kernels q table) k
    → (i : ℕ) × (i < length table) × (k.0 ≡ (q + i) ∷ []) × (get_or table i None ≡ Some k.1)
single_from q [] k h = absurd (Contains-nil k h)
single_from q (None ∷ table) k h =
    let rest = single_from (q + 1) table k h in
    let at : q + 1 + rest.0 ≡ q + suc rest.0 = omega arith in
    (suc rest.0, omega (arith, rest.1), rest.2 ∙ ap (λ x. x ∷ []) at, rest.3)
single_from q (Some n ∷ table) k h =
    ⊎_elim
    (λ is.
    let at : q ≡ q + 0 = omega arith in
    (zero, omega arith, ap (λ (e : List ℕ × ℕ). e.0) (sym is) ∙ ap (λ x. x ∷ []) at, ap (λ (e : List ℕ × ℕ). Some e.1) is))
    (λ more.
    let rest = single_from (q + 1) table k more in
    let at : q + 1 + rest.0 ≡ q + suc rest.0 = omega arith in
    (suc rest.0, omega (arith, rest.1), rest.2 ∙ ap (λ x. x ∷ []) at, rest.3))
    (Contains-cons_cases (q ∷ [], n) (single_kernels (q + 1) table) k h)

-- a number at a state's place is that of the kernel of this state
single_has : (q : ℕ) (table : List (Option ℕ)) (i n : ℕ) → get_or table i None ≡ Some n
    → Contains (single_kernels q table) ((q + i) ∷ [], n)
single_has q [] i n h = cc
single_has q (None ∷ table) zero n h = cc
single_has q (None ∷ table) (suc i) n h =
    let P : ℕ → Type 0 = λ x. Contains (single_kernels (q + 1) table) (x ∷ [], n) in
    let at : q + 1 + i ≡ q + suc i = omega arith in
    subst P at (single_has (q + 1) table i n h)
single_has q (Some m ∷ table) zero n h =
    let same : m ≡ n = cc in
    let at : q ≡ q + 0 = omega arith in
    let P : ℕ → Type 0 = λ x. Contains (single_kernels q (Some m ∷ table)) (q ∷ [], x) in
    let Q : ℕ → Type 0 = λ x. Contains (single_kernels q (Some m ∷ table)) (x ∷ [], n) in
    subst Q at (subst P same (Contains-head (q ∷ [], m) (single_kernels (q + 1) table)))
single_has q (Some m ∷ table) (suc i) n h =
    let P : ℕ → Type 0 = λ x. Contains (single_kernels q (Some m ∷ table)) (x ∷ [], n) in
    let at : q + 1 + i ≡ q + suc i = omega arith in
    subst P at (Contains-tail (q ∷ [], m) (single_kernels (q + 1) table) ((q + 1 + i) ∷ [], n) (single_has (q + 1) table i n h))

-- so it is where the table begins with the first state
table_from : (table : List (Option ℕ)) (k : List ℕ × ℕ) → Contains (single_kernels 0 table) k
    → (i : ℕ) × (i < length table) × (k.0 ≡ i ∷ []) × (get_or table i None ≡ Some k.1)
table_from table k h =
    let from = single_from 0 table k h in
    let at : 0 + from.0 ≡ from.0 = omega arith in
    (from.0, from.1, from.2 ∙ ap (λ (x : ℕ). x ∷ []) at, from.3)

table_has : (table : List (Option ℕ)) (i n : ℕ) → get_or table i None ≡ Some n → Contains (single_kernels 0 table) (i ∷ [], n)
table_has table i n is =
    let at : 0 + i ≡ i = omega arith in
    let P : ℕ → Type 0 = λ x. Contains (single_kernels 0 table) (x ∷ [], n) in
    subst P at (single_has 0 table i n is)

-- ---- the map

abbrev pub key_order : Vec ℕ Global → Vec ℕ Global → Ordering
key_order x y = slice_cmp nat_cmp x.items y.items

-- whether a list of states is the one that a kernel holds
abbrev pub is_key : List ℕ → Vec ℕ Global → Bool
is_key key k = is_eq (slice_cmp nat_cmp key k.items)

-- an entry is the new one, or was there
abbrev IsNewOrOld : List (Vec ℕ Global × ℕ) → Vec ℕ Global → ℕ → Vec ℕ Global × ℕ → Type 0
IsNewOrOld es key v e = ((e.1 ≡ v) × (key.items ≡ e.0.items)) ⊎ Contains es e

insert_cases : (es : List (Vec ℕ Global × ℕ)) (key : Vec ℕ Global) (v : ℕ)
    → All (IsNewOrOld es key v) (insert_entry key_order es key v)
insert_cases es key v =
    All-insert_entry (λ (k : Vec ℕ Global) m. IsNewOrOld es key v (k, m)) key_order key v es
    (λ q e. inl (refl, exact_bytes key.items q.items e)) (inl (refl, refl))
    (All-weaker (Contains es) (IsNewOrOld es key v) (λ e there. inr there) es (All-contains_itself es))

-- where no key is the new one, the new entry is there, and the old ones stay
insert_contains : (key : Vec ℕ Global) (v : ℕ) (f : Vec ℕ Global × ℕ) (es : List (Vec ℕ Global × ℕ))
    → lookup (is_key key.items) es ≡ None → (f ≡ (key, v)) ⊎ Contains es f → Contains (insert_entry key_order es key v) f
insert_contains key v f [] missed (inl is) = subst (Contains ((key, v) ∷ [])) (sym is) (Contains-push [] (key, v))
insert_contains key v f [] missed (inr there) = absurd (omega (arith, there.1))
insert_contains key v f (e ∷ es) missed one = go (key_order key e.0) missed (insert_contains key v f es) one
  where
    go : (o : Ordering) → cond (is_eq o) (Some e.1) (lookup (is_key key.items) es) ≡ None
        → (lookup (is_key key.items) es ≡ None → (f ≡ (key, v)) ⊎ Contains es f → Contains (insert_entry key_order es key v) f)
        → (f ≡ (key, v)) ⊎ Contains (e ∷ es) f
        → Contains (match_ordering o ((key, v) ∷ e ∷ es) ((e.0, v) ∷ es) (e ∷ insert_entry key_order es key v)) f
    go Less none more (inl is) =
        subst (Contains ((key, v) ∷ e ∷ es)) (sym is)
        (Contains-append_left ((key, v) ∷ []) (e ∷ es) (key, v) (Contains-push [] (key, v)))
    go Less none more (inr there) = Contains-append_right ((key, v) ∷ []) (e ∷ es) f there
    go Equal none more at = cc
    go Greater none more (inl is) =
        Contains-append_right (e ∷ []) (insert_entry key_order es key v) f (more none (inl is))
    go Greater none more (inr there) =
        ⊎_elim (λ at. Contains-append_left (e ∷ []) (insert_entry key_order es key v) f at)
        (λ behind. Contains-append_right (e ∷ []) (insert_entry key_order es key v) f (more none (inr behind)))
        (Contains-append_cases (e ∷ []) es f there)

-- ---- both

abbrev pub kernels_of : List (Option ℕ) → List (Vec ℕ Global × ℕ) → List (List ℕ × ℕ)
kernels_of table others = single_kernels 0 table ++ mapped_kernels others

abbrev pub AreApart : List (Option ℕ) → List (Vec ℕ Global × ℕ) → Type 0
AreApart table others = All (λ (k : List ℕ × ℕ). IsSingle (length table) k.0 → ⊥) (mapped_kernels others)

-- what is found by a state
found_single : (table : List (Option ℕ)) (others : List (Vec ℕ Global × ℕ)) (q n : ℕ) → get_or table q None ≡ Some n
    → Contains (kernels_of table others) (q ∷ [], n)
found_single table others q n is =
    Contains-append_left (single_kernels 0 table) (mapped_kernels others) (q ∷ [], n) (table_has table q n is)

-- where none is found by a state, the kernel of it has no number
missed_single : (table : List (Option ℕ)) (others : List (Vec ℕ Global × ℕ)) (q : ℕ) → AreApart table others
    → q < length table → get_or table q None ≡ None → (n : ℕ) → Contains (kernels_of table others) (q ∷ [], n) → ⊥
missed_single table others q apart l none n h =
    ⊎_elim
    (λ single.
    let from = table_from table (q ∷ [], n) single in
    let at : q ≡ from.0 = ap (λ (xs : List ℕ). get_or xs 0 0) from.2 in
    let some : get_or table q None ≡ Some n = ap (λ i. get_or table i None) at ∙ from.3 in
    cc)
    (λ other. All-contains (λ (k : List ℕ × ℕ). IsSingle (length table) k.0 → ⊥) (mapped_kernels others) (q ∷ [], n) apart other
    (q, refl, l))
    (Contains-append_cases (single_kernels 0 table) (mapped_kernels others) (q ∷ [], n) h)

-- what is found in the map
found_other : (table : List (Option ℕ)) (others : List (Vec ℕ Global × ℕ)) (key : List ℕ) (n : ℕ)
    → lookup (is_key key) others ≡ Some n → Contains (kernels_of table others) (key, n)
found_other table others key n found =
    let x = found_entry (λ (k : Vec ℕ Global) m. Contains others (k, m)) (is_key key) others n (All-contains_itself others) found in
    let e : key ≡ x.0.items = exact_bytes key x.0.items (equal_from (slice_cmp nat_cmp key x.0.items) x.1) in
    let P : List ℕ → Type 0 = λ k. Contains (mapped_kernels others) (k, n) in
    Contains-append_right (single_kernels 0 table) (mapped_kernels others) (key, n)
    (subst P (sym e) (Contains-map (λ (e : Vec ℕ Global × ℕ). (e.0.items, e.1)) others (x.0, n) x.2))

-- where none is found in the map, a kernel that has no place in the table has no number
missed_other : (table : List (Option ℕ)) (others : List (Vec ℕ Global × ℕ)) (key : List ℕ)
    → (IsSingle (length table) key → ⊥) → lookup (is_key key) others ≡ None → (n : ℕ)
    → Contains (kernels_of table others) (key, n) → ⊥
missed_other table others key apart missed n h =
    ⊎_elim
    (λ single. let from = table_from table (key, n) single in apart (from.0, from.2, from.1))
    (λ other.
    let from = Contains-from_map (λ (e : Vec ℕ Global × ℕ). (e.0.items, e.1)) others (key, n) other in
    let e : key ≡ from.0.0.items = ap (λ (k : List ℕ × ℕ). k.0) (sym from.2) in
    let Q : Vec ℕ Global × ℕ → Type 0 = λ e. is_key key e.0 ≡ false in
    let no = All-contains Q others from.0 (All-from_recursion Q others (none_passes_from_lookup (is_key key) others missed)) from.1 in
    let yes = (eq_by_cmp_equiv nat_list_cmp_total).refl key in
    let P : List ℕ → Type 0 = λ l. is_eq (slice_cmp nat_cmp key l) ≡ true in
    let found = subst P e yes in
    cc)
    (Contains-append_cases (single_kernels 0 table) (mapped_kernels others) (key, n) h)

-- the number of a kernel of one state
pub single_number : (table : List (Option ℕ)) (others : List (Vec ℕ Global × ℕ)) (q : ℕ) (o : Option ℕ) → AreApart table others
    → q < length table → get_or table q None ≡ o → MatchOption o
    ((n : ℕ) → Contains (kernels_of table others) (q ∷ [], n) → ⊥) (λ n. Contains (kernels_of table others) (q ∷ [], n))
single_number table others q None apart l is = missed_single table others q apart l is
single_number table others q (Some n) apart l is = found_single table others q n is

-- the number of a kernel that has no place in the table
pub other_number : (table : List (Option ℕ)) (others : List (Vec ℕ Global × ℕ)) (key : List ℕ) (o : Option ℕ)
    → (IsSingle (length table) key → ⊥) → lookup (is_key key) others ≡ o → MatchOption o
    ((n : ℕ) → Contains (kernels_of table others) (key, n) → ⊥) (λ n. Contains (kernels_of table others) (key, n))
other_number table others key None apart is = missed_other table others key apart is
other_number table others key (Some n) apart is = found_other table others key n is

-- a table of so many places without numbers
pub empty_table : (q : ℕ) (table : List (Option ℕ)) → ((i : ℕ) → get_or table i None ≡ None) → single_kernels q table ≡ []
empty_table q [] none = refl
empty_table q (None ∷ table) none = empty_table (q + 1) table (λ i. none (suc i))
empty_table q (Some n ∷ table) none = let no : Some n ≡ None = none zero in cc

-- an option is none, or some
option_cases : (o : Option ℕ) → (o ≡ None) ⊎ ((n : ℕ) × (o ≡ Some n))
option_cases None = inl refl
option_cases (Some n) = inr (n, refl)

-- a kernel of one state that has no number gets one
pub single_more : (table : List (Option ℕ)) (others : List (Vec ℕ Global × ℕ)) (q v : ℕ) → q < length table
    → ((n : ℕ) → Contains (kernels_of table others) (q ∷ [], n) → ⊥)
    → HasOneKernelMore (q ∷ [], v) (kernels_of table others) (kernels_of (set table q (Some v)) others)
single_more table others q v l missed k = (
  λ h. ⊎_elim
      (λ single.
      let from = table_from (set table q (Some v)) k single in
      ⊎_elim
      (λ (at : from.0 ≡ q).
      let read : get_or (set table q (Some v)) from.0 None ≡ Some v =
      ap (λ i. get_or (set table q (Some v)) i None) at ∙ get_or-set_same table q (Some v) None l in
      let number : k.1 ≡ v = let e : Some k.1 ≡ Some v = sym from.3 ∙ read in cc in
      let key : k.0 ≡ q ∷ [] = from.2 ∙ ap (λ (x : ℕ). x ∷ []) at in
      inr (λ i. (key i, number i)))
      (λ (apart : from.0 ≡ q → ⊥).
      let was : get_or table from.0 None ≡ Some k.1 = sym (get_or-set_other table q from.0 (Some v) None apart) ∙ from.3 in
      let P : List ℕ → Type 0 = λ x. Contains (kernels_of table others) (x, k.1) in
      inl (subst P (sym from.2) (found_single table others from.0 k.1 was)))
      (cases_eq from.0 q))
      (λ other. inl (Contains-append_right (single_kernels 0 table) (mapped_kernels others) k other))
      (Contains-append_cases (single_kernels 0 (set table q (Some v))) (mapped_kernels others) k h),
  λ one. ⊎_elim
      (λ old. ⊎_elim
      (λ single.
      let from = table_from table k single in
      let P : List ℕ → Type 0 = λ x. Contains (kernels_of (set table q (Some v)) others) (x, k.1) in
      subst P (sym from.2)
      (found_single (set table q (Some v)) others from.0 k.1
      (get_or-set_other table q from.0 (Some v) None
      (λ at. missed k.1
      (let here : get_or table q None ≡ Some k.1 = ap (λ i. get_or table i None) (sym at) ∙ from.3 in
      found_single table others q k.1 here)) ∙ from.3)))
      (λ other. Contains-append_right (single_kernels 0 (set table q (Some v))) (mapped_kernels others) k other)
      (Contains-append_cases (single_kernels 0 table) (mapped_kernels others) k old))
      (λ is. subst (Contains (kernels_of (set table q (Some v)) others)) (sym is)
      (found_single (set table q (Some v)) others q v (get_or-set_same table q (Some v) None l)))
      one,
)

-- a kernel that has no number gets one in the map
pub other_more : (table : List (Option ℕ)) (others : List (Vec ℕ Global × ℕ)) (key : Vec ℕ Global) (v : ℕ)
    → ((n : ℕ) → Contains (kernels_of table others) (key.items, n) → ⊥)
    → HasOneKernelMore (key.items, v) (kernels_of table others) (kernels_of table (insert_entry key_order others key v))
other_more table others key v missed k =
    let none : lookup (is_key key.items) others ≡ None =
    ⊎_elim (λ no. no) (λ found. absurd (missed found.0 (found_other table others key.items found.0 found.1)))
    (option_cases (lookup (is_key key.items) others)) in
    let plain : Vec ℕ Global × ℕ → List ℕ × ℕ = λ e. (e.0.items, e.1) in
    let grown = insert_entry key_order others key v in (
      λ h. ⊎_elim
          (λ single. inl (Contains-append_left (single_kernels 0 table) (mapped_kernels others) k single))
          (λ other.
          let from = Contains-from_map plain grown k other in
          ⊎_elim
          (λ new.
          let same : plain from.0 ≡ (key.items, v) = λ i. (sym new.1 i, new.0 i) in
          inr (sym from.2 ∙ same))
          (λ old. inl (Contains-append_right (single_kernels 0 table) (mapped_kernels others) k
          (subst (Contains (mapped_kernels others)) from.2 (Contains-map plain others from.0 old))))
          (All-contains (IsNewOrOld others key v) grown from.0 (insert_cases others key v) from.1))
          (Contains-append_cases (single_kernels 0 table) (mapped_kernels grown) k h),
      λ one. ⊎_elim
          (λ old. ⊎_elim
          (λ single. Contains-append_left (single_kernels 0 table) (mapped_kernels grown) k single)
          (λ other.
          let from = Contains-from_map plain others k other in
          Contains-append_right (single_kernels 0 table) (mapped_kernels grown) k
          (subst (Contains (mapped_kernels grown)) from.2
          (Contains-map plain grown from.0 (insert_contains key v from.0 others none (inr from.1)))))
          (Contains-append_cases (single_kernels 0 table) (mapped_kernels others) k old))
          (λ is. subst (Contains (kernels_of table grown)) (sym is)
          (Contains-append_right (single_kernels 0 table) (mapped_kernels grown) (key.items, v)
          (Contains-map plain grown (key, v) (insert_contains key v (key, v) others none (inl refl)))))
          one,
    )

-- the map still has no kernel that has a place in the table
pub still_apart : (table : List (Option ℕ)) (others : List (Vec ℕ Global × ℕ)) (key : Vec ℕ Global) (v : ℕ) → AreApart table others
    → (IsSingle (length table) key.items → ⊥) → AreApart table (insert_entry key_order others key v)
still_apart table others key v apart other =
    let plain : Vec ℕ Global × ℕ → List ℕ × ℕ = λ e. (e.0.items, e.1) in
    let P : List ℕ × ℕ → Type 0 = λ k. IsSingle (length table) k.0 → ⊥ in
    let grown = insert_entry key_order others key v in
    All-map P plain grown
    (λ i d l.
    let e = get_or grown i d in
    ⊎_elim
    (λ new. let Q : List ℕ → Type 0 = λ x. IsSingle (length table) x → ⊥ in subst Q new.1 other)
    (λ old. All-contains P (mapped_kernels others) (plain e) apart (Contains-map plain others e old))
    (All-contains (IsNewOrOld others key v) grown e (insert_cases others key v) (Contains-get_or grown i d l)))

-- a number for a kernel of one state leaves the map apart from the table
pub apart_set : (table : List (Option ℕ)) (others : List (Vec ℕ Global × ℕ)) (q : ℕ) (o : Option ℕ) → AreApart table others
    → AreApart (set table q o) others
apart_set table others q o apart = rw (length-set table q o) apart
