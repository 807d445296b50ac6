-- Members by the order of their keys, in a list and in a map, beside the data that they stand for: for the readers of objects.
use Rattle.std.proofs.Common.{◌≡◌, ◌∙◌, ℕ, suc, ◌-◌, List, [], ◌∷◌, ◌++◌, length, map, Some, true, Bor, append_assoc, append-nil}
use Rattle.std.proofs.Common.{Ordering, Less, Equal, Greater, nat_cmp, arith, ap, subst, sym, refl}
use Rattle.std.proofs.lemmas.Cmp.{nat_list_cmp_total}
use Rattle.std.specs.BTreeMap.{insert_entry}
use Rattle.std.specs.Cmp.Lexicographic.{slice_cmp}
use Rattle.std.specs.List.{AllByRecursion, slice_get}
use Rattle.std.specs.List.Sorted.{IsStrictlySortedBy}
use Rattle.std.specs.Ordering.{is_lt, match_ordering, ordering_reverse}
use Rattle.serde_json.specs.Data.{Members, member, no_members, put}
use Rattle.lalrpop_json_document.specs.DocumentViews.{members_view, view}
use Rattle.lalrpop_json_document.specs.declared.value.JsonValue.{JsonValue}
use Rattle.lalrpop_json_document.specs.MemberOrder.{is_above_last, put_all}

abbrev pub Entry : Type 0
Entry = Bor (List ℕ) × JsonValue

-- ---- a map

seen_by_order : (o : Ordering) (less same more : List Entry) →
    members_view (match_ordering o less same more) ≡ match_ordering o (members_view less) (members_view same) (members_view more)
seen_by_order Less less same more = refl
seen_by_order Equal less same more = refl
seen_by_order Greater less same more = refl

-- what is put into a map is put into its members
pub inserted : (ms : List Entry) (key : Bor (List ℕ)) (v : JsonValue) →
    members_view (insert_entry (λ a b. slice_cmp nat_cmp a.now b.now) ms key v) ≡ put key.now (view v) (members_view ms)
inserted [] key v = refl
inserted (m ∷ ms) key v =
    seen_by_order (slice_cmp nat_cmp key.now m.0.now) _ _ _
    ∙ ap (λ x. match_ordering (slice_cmp nat_cmp key.now m.0.now) (member key.now (view v) (members_view (m ∷ ms)))
    (member m.0.now (view v) (members_view ms)) (member m.0.now (view m.1) x)) (inserted ms key v)

-- a loop puts the next member into the map
pub put_next : (left rest : List Entry) (m : Entry) (entries after : List Entry) (whole : Members) → left ≡ m ∷ rest
    → after ≡ insert_entry (λ a b. slice_cmp nat_cmp a.now b.now) entries m.0 m.1
    → put_all (members_view left) (members_view entries) ≡ whole → put_all (members_view rest) (members_view after) ≡ whole
put_next left rest m entries after whole next e so_far =
    ap (put_all (members_view rest)) (ap members_view e ∙ inserted entries m.0 m.1)
    ∙ ap (λ l. put_all (members_view l) (members_view entries)) (sym next) ∙ so_far

-- ---- a list

abbrev pub names : List Entry → List (List ℕ)
names ms = map (λ m. m.0.now) ms

abbrev IsBelow : List ℕ → List ℕ → Type 0
IsBelow key name = slice_cmp nat_cmp name key ≡ Less

-- each key is below those after it
pub record Ascends (ms : List Entry) : Type 0 where
  pub in_order : IsStrictlySortedBy (slice_cmp nat_cmp) (names ms)

pub none_ascends : Ascends []
unfolding IsStrictlySortedBy
none_ascends = record { in_order = tt }

-- the last of some members tells whether a key is above the last key
pub above_last : (ms : List Entry) (m : Entry) (key : List ℕ) → slice_get ms (length ms - 1) ≡ Some m
    → is_above_last key (names ms) ≡ is_lt (slice_cmp nat_cmp m.0.now key)
above_last [] m key e = absurd (cc)
above_last (l ∷ []) m key e =
    let same : l ≡ m = cc in
    ap (λ x. is_lt (slice_cmp nat_cmp x.0.now key)) same
above_last (l ∷ (n ∷ ms)) m key e =
    let next : suc (length (n ∷ ms) - 1) ≡ length (l ∷ (n ∷ ms)) - 1 = omega arith in
    above_last (n ∷ ms) m key (ap (slice_get (l ∷ (n ∷ ms))) next ∙ e)

less_from : (o : Ordering) → is_lt o ≡ true → o ≡ Less
less_from Less e = refl
less_from Equal e = absurd (cc)
less_from Greater e = absurd (cc)

all_below : (key : List ℕ) (ns : List (List ℕ)) → IsStrictlySortedBy (slice_cmp nat_cmp) ns → is_above_last key ns ≡ true
    → AllByRecursion (IsBelow key) ns
unfolding IsStrictlySortedBy
all_below key [] ordered above = tt
all_below key (n ∷ []) ordered above = (less_from (slice_cmp nat_cmp n key) above, tt)
all_below key (n ∷ (m ∷ ns)) ordered above =
    let rest = all_below key (m ∷ ns) ordered.1 above in
    (nat_list_cmp_total.trans n m key ordered.0.0 rest.0, rest)

all_behind : (n : List ℕ) (key : List ℕ) (ns : List (List ℕ)) → AllByRecursion (λ y. slice_cmp nat_cmp n y ≡ Less) ns → IsBelow key n
    → AllByRecursion (λ y. slice_cmp nat_cmp n y ≡ Less) (ns ++ key ∷ [])
all_behind n key [] all below = (below, tt)
all_behind n key (m ∷ ns) all below = (all.0, all_behind n key ns all.1 below)

sorted_behind : (key : List ℕ) (ns : List (List ℕ)) → IsStrictlySortedBy (slice_cmp nat_cmp) ns → AllByRecursion (IsBelow key) ns
    → IsStrictlySortedBy (slice_cmp nat_cmp) (ns ++ key ∷ [])
unfolding IsStrictlySortedBy
sorted_behind key [] ordered below = (tt, tt)
sorted_behind key (n ∷ ns) ordered below = (all_behind n key ns ordered.0 below.0, sorted_behind key ns ordered.1 below.1)

names_behind : (ms : List Entry) (m : Entry) → names ms ++ m.0.now ∷ [] ≡ names (ms ++ m ∷ [])
names_behind [] m = refl
names_behind (l ∷ ms) m = ap (λ ns. l.0.now ∷ ns) (names_behind ms m)

-- a member whose key is above the last one goes behind the others
pub ascends_behind : (ms : List Entry) (m : Entry) → Ascends ms → is_above_last m.0.now (names ms) ≡ true → Ascends (ms ++ m ∷ [])
ascends_behind ms m so above = record {
  in_order = subst (IsStrictlySortedBy (slice_cmp nat_cmp)) (names_behind ms m)
      (sorted_behind m.0.now (names ms) so.in_order (all_below m.0.now (names ms) so.in_order above));
}

put_above : (ms : List Entry) (m : Entry) → AllByRecursion (IsBelow m.0.now) (names ms)
    → put m.0.now (view m.1) (members_view ms) ≡ members_view (ms ++ m ∷ [])
put_above [] m below = refl
put_above (first ∷ ms) m below =
    let above : slice_cmp nat_cmp m.0.now first.0.now ≡ Greater =
    nat_list_cmp_total.antisymm m.0.now first.0.now ∙ ap ordering_reverse below.0 in
    rw above (ap (member first.0.now (view first.1)) (put_above ms m below.1))

-- what is put behind ascending, smaller keys goes last
pub put_behind : (ms : List Entry) (m : Entry) → Ascends ms → is_above_last m.0.now (names ms) ≡ true
    → put m.0.now (view m.1) (members_view ms) ≡ members_view (ms ++ m ∷ [])
put_behind ms m so above = put_above ms m (all_below m.0.now (names ms) so.in_order above)

-- ---- a list that is put into a map

above_first : (n : List ℕ) (done more : List Entry) (m : Entry)
    → AllByRecursion (λ y. slice_cmp nat_cmp n y ≡ Less) (names (done ++ m ∷ more)) → IsBelow m.0.now n
above_first n [] more m all = all.0
above_first n (l ∷ done) more m all = above_first n done more m all.1

below_next : (done more : List Entry) (m : Entry) → IsStrictlySortedBy (slice_cmp nat_cmp) (names (done ++ m ∷ more))
    → AllByRecursion (IsBelow m.0.now) (names done)
unfolding IsStrictlySortedBy
below_next [] more m ordered = tt
below_next (l ∷ done) more m ordered = (above_first l.0.now done more m ordered.0, below_next done more m ordered.1)

put_one_by_one : (done ms : List Entry) → IsStrictlySortedBy (slice_cmp nat_cmp) (names (done ++ ms))
    → put_all (members_view ms) (members_view done) ≡ members_view (done ++ ms)
put_one_by_one done [] ordered = ap members_view (sym (append-nil done))
put_one_by_one done (m ∷ ms) ordered =
    let parts : (done ++ m ∷ []) ++ ms ≡ done ++ m ∷ ms = append_assoc done (m ∷ []) ms in
    ap (put_all (members_view ms)) (put_above done m (below_next done ms m ordered))
    ∙ put_one_by_one (done ++ m ∷ []) ms (subst (λ l. IsStrictlySortedBy (slice_cmp nat_cmp) (names l)) (sym parts) ordered)
    ∙ ap members_view parts

-- where ascending members are put into a map one by one, and then a further one, it is put among them
pub put_in_map : (ms entries : List Entry) (m : Entry) → Ascends ms
    → members_view entries ≡ put m.0.now (view m.1) (put_all (members_view ms) no_members)
    → put m.0.now (view m.1) (members_view ms) ≡ members_view entries
put_in_map ms entries m so same = ap (put m.0.now (view m.1)) (sym (put_one_by_one [] ms so.in_order)) ∙ sym same
