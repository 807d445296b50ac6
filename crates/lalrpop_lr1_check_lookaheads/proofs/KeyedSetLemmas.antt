-- What keyed sets gain: by a key that is put in, by tokens that are joined to its set, and one after another.
use Rattle.std.proofs.Common.{◌≡◌, ◌∙◌, ◌↔◌, ◌⊎◌, ℕ, zero, suc, ◌+◌, ◌<◌, ◌≤◌, Bool, true}
use Rattle.std.proofs.Common.{false, ◌||◌, List, [], ◌∷◌, ◌++◌}
use Rattle.std.proofs.Common.{Option, None, Some, length, take, map, refl, sym, ap, subst, inl, inr, ⊎_elim, arith, slice_get, get_or}
use Rattle.std.specs.Bool.{Decides}
use Rattle.std.specs.List.{find, IsDistinct, list_any}
use Rattle.std.specs.Prelude.{cond, if◌then◌else◌, not, set}
use Rattle.std.specs.Borrow.{Bor}
use Rattle.std.proofs.lemmas.List.{take_all}
use Rattle.std.proofs.lemmas.List.Elements.{Contains-append_cases, Contains-append_left, Contains-append_right}
use Rattle.std.proofs.lemmas.Option.{get_or_from_slice_get, slice_get_within}
use Rattle.std.proofs.lemmas.Bool.{cases_order}
use Rattle.std.proofs.lemmas.Map.Keys.{apart_from_distinct}
use Rattle.lalrpop_lr1_theory.proofs.ListLemmas.{contains_here, contains_split, get_contains, get_front, get_split, get_last}
use Rattle.lalrpop_lr1_theory.proofs.NameLemmas.{no_element}
use Rattle.lalrpop_lr1_theory.proofs.StepLemmas.{some_same}
use Rattle.lalrpop_sets.specs.AscendingLists.{has}
use Rattle.lalrpop_sets.proofs.AscendingListLemmas.{cases_eq}
use Rattle.lalrpop_lr1_core.proofs.MemberLemmas.{in_map, map_has}
use Rattle.lalrpop_lr1_core.proofs.NoConflictLemmas.{at_mapped}
use Rattle.lalrpop_lr1_first.specs.Listings.{lent}
use Rattle.lalrpop_lr1_first.specs.Numbers.{set_of_number}
use Rattle.lalrpop_lr1_first.proofs.ListLemmas.{at_set_other, at_set_same, or_cases, or_left, or_right, set_long}
use Rattle.lalrpop_lr1_check_lookaheads.specs.KeyedSets.{GainsKeyedMarks, HasMarkAt, HaveSets, IsMarkIn, KeyedSets, OfSome, OfSomePlace}
use Rattle.lalrpop_lr1_check_lookaheads.proofs.GainLemmas.{get_at, taken_one, there_any}
use Rattle.lalrpop_lr1_check_lookaheads.proofs.ListedLemmas.{one_at}

abbrev keyed : {K : Type 0} → List K → List (List ℕ) → KeyedSets K
keyed keys sets = record { keys = keys; sets = sets }

at_front : (xs ys : List (List ℕ)) (j : ℕ) → j < length xs → set_of_number (xs ++ ys) j ≡ set_of_number xs j
at_front [] ys j h = absurd (omega (arith, h))
at_front (x ∷ xs) ys zero h = refl
at_front (x ∷ xs) ys (suc j) h = at_front xs ys j (omega (arith, h))

at_last : (xs : List (List ℕ)) (y : List ℕ) → set_of_number (xs ++ y ∷ []) (length xs) ≡ y
at_last [] y = refl
at_last (x ∷ xs) y = at_last xs y

one_more : {X : Type 0} (xs : List X) (x : X) → length (xs ++ x ∷ []) ≡ length xs + 1
one_more [] x = omega arith
one_more (y ∷ xs) x = omega (arith, one_more xs x)

no_mark : (mark : Option ℕ) (X : Type 0) → (mark ≡ None → X) → IsMarkIn [] mark → X
no_mark None X h m = h refl
no_mark (Some k) X h m = let w : ⊥ = cc in absurd w

pub not_true : (b : Bool) → not b ≡ true → b ≡ false
not_true true e = cc
not_true false e = cc

pub not_false : (b : Bool) → not b ≡ false → b ≡ true
not_false true e = cc
not_false false e = cc

-- one key is put in behind the others, without a token
mark_pushed : {K : Type 0} (keys : List K) (sets : List (List ℕ)) (own key : K) (mark : Option ℕ) →
    length sets ≡ length keys →
    HasMarkAt (keyed (keys ++ own ∷ []) (sets ++ [] ∷ [])) key mark ↔ (HasMarkAt (keyed keys sets) key mark ⊎ ((key ≡ own) × IsMarkIn [] mark))
mark_pushed keys sets own key mark long = (
  λ (j, e, m). ⊎_elim
      (λ f. let here : j < length sets = omega (arith, long, slice_get_within keys j key f) in
      inl (j, f, subst (λ l. IsMarkIn l mark) (at_front sets ([] ∷ []) j here) m))
      (λ (i, at, f).
      let o = one_at own key i f in
      let last : j ≡ length sets = omega (arith, at, o.0, long) in
      inr (sym o.1, subst (λ l. IsMarkIn l mark) (ap (set_of_number (sets ++ [] ∷ [])) last ∙ at_last sets []) m))
      (get_split keys (own ∷ []) j key e),
  λ s. ⊎_elim
      (λ (j, e, m). let here : j < length sets = omega (arith, long, slice_get_within keys j key e) in
      (j, get_front keys (own ∷ []) j key e, subst (λ l. IsMarkIn l mark) (sym (at_front sets ([] ∷ []) j here)) m))
      (λ (e, m). (
        length keys,
        get_last keys own ∙ ap Some (sym e),
        subst (λ l. IsMarkIn l mark) (sym (ap (set_of_number (sets ++ [] ∷ [])) (sym long) ∙ at_last sets [])) m,
      )) s,
)

-- one that was there is put in again
mark_kept : {K : Type 0} (keys : List K) (sets : List (List ℕ)) (own key : K) (mark : Option ℕ) (n : ℕ) →
    slice_get keys n ≡ Some own →
    HasMarkAt (keyed keys sets) key mark ↔ (HasMarkAt (keyed keys sets) key mark ⊎ ((key ≡ own) × IsMarkIn [] mark))
mark_kept keys sets own key mark n at = (
  λ h. inl h,
  λ s. ⊎_elim (λ h. h)
      (λ (e, m). no_mark mark (HasMarkAt (keyed keys sets) key mark)
      (λ z. subst (HasMarkAt (keyed keys sets) key) (sym z) (n, at ∙ ap Some (sym e), tt)) m) s,
)

joined_mark : (old new tokens : List ℕ) (mark : Option ℕ) → ((k : ℕ) → has new k ≡ (has old k || has tokens k)) →
    IsMarkIn new mark ↔ (IsMarkIn old mark ⊎ IsMarkIn tokens mark)
joined_mark old new tokens None says = (λ h. inl tt, λ h. tt)
joined_mark old new tokens (Some k) says = (
  λ h. or_cases (has old k) (has tokens k) (sym (says k) ∙ h),
  λ s. says k ∙ ⊎_elim (λ h. or_left (has old k) (has tokens k) h) (λ h. or_right (has old k) (has tokens k) h) s,
)

-- tokens are joined into the set of a key
mark_joined : {K : Type 0} (keys : List K) (sets : List (List ℕ)) (own key : K) (mark : Option ℕ) (n : ℕ)
    (new tokens : List ℕ) → slice_get keys n ≡ Some own → n < length sets →
    ((k : ℕ) → has new k ≡ (has (set_of_number sets n) k || has tokens k)) →
    HasMarkAt (keyed keys (set sets n new)) key mark ↔ (HasMarkAt (keyed keys sets) key mark ⊎ ((key ≡ own) × IsMarkIn tokens mark))
mark_joined keys sets own key mark n new tokens at within says = (
  λ (j, e, m). ⊎_elim
      (λ (z : n ≡ j). ⊎_elim
      (λ h. inl (n, subst (λ i. slice_get keys i ≡ Some key) (sym z) e, h))
      (λ h. inr (some_same key own (sym e ∙ ap (slice_get keys) (sym z) ∙ at), h))
      ((joined_mark (set_of_number sets n) new tokens mark says).0
      (subst (λ l. IsMarkIn l mark) (ap (set_of_number (set sets n new)) (sym z) ∙ at_set_same sets n new within) m)))
      (λ (a : n ≡ j → ⊥). inl (j, e, subst (λ l. IsMarkIn l mark) (at_set_other sets n j new a) m)) (cases_eq n j),
  λ s. ⊎_elim
      (λ (j, e, m). (
        j,
        e,
        ⊎_elim
            (λ (z : n ≡ j). subst (λ l. IsMarkIn l mark)
            (sym (ap (set_of_number (set sets n new)) (sym z) ∙ at_set_same sets n new within))
            ((joined_mark (set_of_number sets n) new tokens mark says).1
            (inl (subst (λ i. IsMarkIn (set_of_number sets i) mark) (sym z) m))))
            (λ (a : n ≡ j → ⊥). subst (λ l. IsMarkIn l mark) (sym (at_set_other sets n j new a)) m) (cases_eq n j),
      ))
      (λ (e, h). (
        n,
        at ∙ ap Some (sym e),
        subst (λ l. IsMarkIn l mark) (sym (at_set_same sets n new within))
            ((joined_mark (set_of_number sets n) new tokens mark says).1 (inr h)),
      )) s,
)

pub mapped_push : {X Y : Type 0} (f : X → Y) (ys : List X) (y : X) → map f (ys ++ y ∷ []) ≡ map f ys ++ f y ∷ []
mapped_push f [] y = refl
mapped_push f (z ∷ ys) y = ap (λ l. f z ∷ l) (mapped_push f ys y)

-- nothing is gained
pub gains_nothing : {K : Type 0} (old : KeyedSets K) → HaveSets old → GainsKeyedMarks old old (λ key mark. ⊥)
gains_nothing old are = record {
  are = are;
  kept = λ j key e. e;
  marks = λ key mark. (λ h. inl h, λ s. ⊎_elim (λ h. h) (λ (z : ⊥). absurd z) s);
}

-- what is gained, told otherwise
pub gains_as : {K : Type 0} (old new : KeyedSets K) (Came Other : K → Option ℕ → Type 0) →
    ((key : K) (mark : Option ℕ) → Came key mark ↔ Other key mark) → GainsKeyedMarks old new Came →
    GainsKeyedMarks old new Other
gains_as old new Came Other same g = record {
  are = g.are;
  kept = g.kept;
  marks = λ key mark. (
    λ h. ⊎_elim (λ o. inl o) (λ a. inr ((same key mark).0 a)) ((g.marks key mark).0 h),
    λ s. (g.marks key mark).1 (⊎_elim (λ o. inl o) (λ a. inr ((same key mark).1 a)) s),
  );
}

-- what is gained one after another
pub gains_both : {K : Type 0} (old mid new : KeyedSets K) (Came More : K → Option ℕ → Type 0) → GainsKeyedMarks old mid Came →
    GainsKeyedMarks mid new More → GainsKeyedMarks old new (λ key mark. Came key mark ⊎ More key mark)
gains_both old mid new Came More g h = record {
  are = h.are;
  kept = λ j key e. h.kept j key (g.kept j key e);
  marks = λ key mark. (
    λ m. ⊎_elim
        (λ o. ⊎_elim (λ p. inl p) (λ a. inr (inl a)) ((g.marks key mark).0 o))
        (λ a. inr (inr a)) ((h.marks key mark).0 m),
    λ s. (h.marks key mark).1 (⊎_elim
        (λ o. inl ((g.marks key mark).1 (inl o)))
        (λ t. ⊎_elim (λ a. inl ((g.marks key mark).1 (inr a))) (λ a. inr a) t) s),
  );
}

of_keys : {K : Type 0} (old new : KeyedSets K) (own : K) (tokens : List ℕ) → HaveSets new →
    ((j : ℕ) (key : K) → slice_get old.keys j ≡ Some key → slice_get new.keys j ≡ Some key) →
    (keys : List K) (sets : List (List ℕ)) → new.keys ≡ keys → new.sets ≡ sets →
    ((key : K) (mark : Option ℕ) →
    HasMarkAt (keyed keys sets) key mark ↔ (HasMarkAt old key mark ⊎ ((key ≡ own) × IsMarkIn tokens mark))) →
    GainsKeyedMarks old new (λ key mark. (key ≡ own) × IsMarkIn tokens mark)
of_keys old new own tokens are kept keys sets e f says = record {
  are = are;
  kept = kept;
  marks = λ key mark. (
    λ h. (says key mark).0 (subst (λ l. HasMarkAt (keyed keys l) key mark) f (subst (λ l. HasMarkAt (keyed l new.sets) key mark) e h)),
    λ s. subst (λ l. HasMarkAt (keyed l new.sets) key mark) (sym e)
        (subst (λ l. HasMarkAt (keyed keys l) key mark) (sym f) ((says key mark).1 s)),
  );
}

module _ {X K : Type 0} (view : X → K) (eq : X → X → Bool) (same : (a b : X) → Decides (eq a b) (view a ≡ view b)) where
  stored_key : (xs : List X) (n : ℕ) (y x : X) → slice_get xs n ≡ Some y → view x ≡ view y → slice_get (map view xs) n ≡ Some (view x)
  stored_key [] n y x e f = let z : ⊥ = cc in absurd z
  stored_key (z ∷ xs) zero y x e f = ap Some (ap view (some_same z y e) ∙ sym f)
  stored_key (z ∷ xs) (suc n) y x e f = stored_key xs n y x e f

  -- the key at the number of what was put in
  pub stored_at : (xs : List X) (n : ℕ) (x : X) → ((y : X) × (slice_get xs n ≡ Some y) × (eq x y ≡ true)) →
      slice_get (map view xs) n ≡ Some (view x)
  stored_at xs n x s = stored_key xs n s.0 x s.1 ((same x s.0).0 s.2)

  -- the keys with one that wasn't there, and with one that was
  inserted_new : (xs ys : List X) (x : X) → list_any (eq x) xs ≡ false →
      ys ≡ (if list_any (eq x) xs then xs else xs ++ x ∷ []) → map view ys ≡ map view xs ++ view x ∷ []
  inserted_new xs ys x h e =
      ap (map view) (e ∙ ap (λ (b : Bool). if b then xs else xs ++ x ∷ []) h) ∙ mapped_push view xs x

  inserted_old : (xs ys : List X) (x : X) → list_any (eq x) xs ≡ true →
      ys ≡ (if list_any (eq x) xs then xs else xs ++ x ∷ []) → map view ys ≡ map view xs
  inserted_old xs ys x h e = ap (map view) (e ∙ ap (λ (b : Bool). if b then xs else xs ++ x ∷ []) h)

  -- a key that wasn't there, put in with an empty set, adds just the mark that it's there
  pub gains_new : (xs ys : List X) (sets new : List (List ℕ)) (x : X) → length sets ≡ length (map view xs) →
      list_any (eq x) xs ≡ false → ys ≡ (if list_any (eq x) xs then xs else xs ++ x ∷ []) → new ≡ sets ++ [] ∷ [] →
      GainsKeyedMarks (keyed (map view xs) sets) (keyed (map view ys) new) (λ key mark. (key ≡ view x) × IsMarkIn [] mark)
  gains_new xs ys sets new x are absent inserted pushed =
      let e = inserted_new xs ys x absent inserted in
      let long : length new ≡ length (map view ys) =
      ap length pushed ∙ one_more sets [] ∙ ap (λ n. n + 1) are ∙ sym (one_more (map view xs) (view x)) ∙ ap length (sym e) in
      of_keys (keyed (map view xs) sets) (keyed (map view ys) new) (view x) [] long
      (λ j key at. subst (λ l. slice_get l j ≡ Some key) (sym e) (get_front (map view xs) (view x ∷ []) j key at))
      (map view xs ++ view x ∷ []) (sets ++ [] ∷ []) e pushed (λ key mark. mark_pushed (map view xs) sets (view x) key mark are)

  -- a key that was there already, put in once more, adds just the mark that it's there
  pub gains_old : (xs ys : List X) (sets : List (List ℕ)) (x : X) (n : ℕ) → length sets ≡ length (map view xs) →
      list_any (eq x) xs ≡ true → ys ≡ (if list_any (eq x) xs then xs else xs ++ x ∷ []) → slice_get (map view ys) n ≡ Some (view x) →
      GainsKeyedMarks (keyed (map view xs) sets) (keyed (map view ys) sets) (λ key mark. (key ≡ view x) × IsMarkIn [] mark)
  gains_old xs ys sets x n are there inserted at =
      let e = inserted_old xs ys x there inserted in
      of_keys (keyed (map view xs) sets) (keyed (map view ys) sets) (view x) [] (are ∙ ap length (sym e))
      (λ j key f. subst (λ l. slice_get l j ≡ Some key) (sym e) f) (map view xs) sets e refl
      (λ key mark. mark_kept (map view xs) sets (view x) key mark n (subst (λ l. slice_get l n ≡ Some (view x)) e at))

  apart : (xs : List X) (i j : ℕ) (x y : X) → IsDistinct eq xs → i < j → slice_get xs i ≡ Some x → slice_get xs j ≡ Some y →
      view x ≡ view y → ⊥
  apart xs i j x y d l e f h =
      let read : eq (get_or xs i x) (get_or xs j x) ≡ eq x y = ap (λ a. eq a (get_or xs j x)) (get_or_from_slice_get xs i x x e)
      ∙ ap (λ b. eq x b) (get_or_from_slice_get xs j y x f) in
      let both : true ≡ false = sym ((same x y).1 h) ∙ sym read ∙ apart_from_distinct eq xs i j x d l (slice_get_within xs j y f) in
      let w : ⊥ = cc in w

  -- a key stands at one place
  one_place : (xs : List X) (i j : ℕ) (x y : X) → IsDistinct eq xs → slice_get xs i ≡ Some x → slice_get xs j ≡ Some y →
      view x ≡ view y → i ≡ j
  one_place xs i j x y d e f h = ⊎_elim (λ z. z)
      (λ s. ⊎_elim (λ l. absurd (apart xs i j x y d l e f h)) (λ l. absurd (apart xs j i y x d l f e (sym h))) s)
      (cases_order i j)

  found_passes : (test : X → Bool) (xs : List X) (y : X) → find test xs ≡ Some y → test y ≡ true
  found_passes test [] y e = let w : ⊥ = cc in absurd w
  found_passes test (x ∷ xs) y e = go (test x) refl e (found_passes test xs y)
    where
      go : (b : Bool) → test x ≡ b → cond b (Some x) (find test xs) ≡ Some y → (find test xs ≡ Some y → test y ≡ true) →
          test y ≡ true
      go true h f rest = subst (λ z. test z ≡ true) (some_same x y f) h
      go false h f rest = rest f

  -- what is found as equal has the key
  pub found_key : (xs : List X) (x y : X) → find (eq x) xs ≡ Some y → view x ≡ view y
  found_key xs x y e = (same x y).0 (found_passes (eq x) xs y e)

  -- the marks of a key that stands at a place are those in its set there
  pub marks_there : (xs : List X) (sets : List (List ℕ)) (n : ℕ) (x y : X) → IsDistinct eq xs → slice_get xs n ≡ Some y →
      view x ≡ view y → (mark : Option ℕ) →
      IsMarkIn (set_of_number sets n) mark ↔ HasMarkAt (keyed (map view xs) sets) (view x) mark
  marks_there xs sets n x y d e h mark = (
    λ m. (n, stored_key xs n y x e h, m),
    λ (j, at, m).
        let u = at_mapped view xs j (view x) at in
        subst (λ i. IsMarkIn (set_of_number sets i) mark) (one_place xs j n u.0 y d u.1 e (u.2 ∙ h)) m,
  )

  -- a key that stands nowhere has none
  pub marks_nowhere : (xs : List X) (sets : List (List ℕ)) (x : X) → list_any (eq x) xs ≡ false → (mark : Option ℕ) →
      HasMarkAt (keyed (map view xs) sets) (view x) mark → ⊥
  marks_nowhere xs sets x none mark (j, at, m) =
      let there = there_any view eq same xs x (get_contains (map view xs) j (view x) at) in
      let both : true ≡ false = sym there ∙ none in
      let w : ⊥ = cc in w

-- tokens are joined into the set of the key with this number
pub gains_tokens : {K : Type 0} (old mid new : KeyedSets K) (own : K) (n : ℕ) (set_new tokens : List ℕ) →
    GainsKeyedMarks old mid (λ key mark. (key ≡ own) × IsMarkIn [] mark) → slice_get mid.keys n ≡ Some own →
    new.keys ≡ mid.keys → new.sets ≡ set mid.sets n set_new →
    ((k : ℕ) → has set_new k ≡ (has (set_of_number mid.sets n) k || has tokens k)) →
    GainsKeyedMarks old new (λ key mark. (key ≡ own) × IsMarkIn tokens mark)
gains_tokens old mid new own n set_new tokens first at e f says =
    let are : HaveSets mid = first.are in
    let within : n < length mid.sets = omega (arith, are, slice_get_within mid.keys n own at) in
    gains_as old new (λ key mark. ((key ≡ own) × IsMarkIn [] mark) ⊎ ((key ≡ own) × IsMarkIn tokens mark))
    (λ key mark. (key ≡ own) × IsMarkIn tokens mark)
    (λ key mark. (
      λ s. ⊎_elim
          (λ (z, m). (z, no_mark mark (IsMarkIn tokens mark) (λ w. subst (IsMarkIn tokens) (sym w) tt) m))
          (λ h. h) s,
      λ h. inr h,
    ))
    (gains_both old mid new (λ key mark. (key ≡ own) × IsMarkIn [] mark) (λ key mark. (key ≡ own) × IsMarkIn tokens mark) first
    (of_keys mid new own tokens
    (ap length f ∙ set_long mid.sets n set_new ∙ are ∙ ap length (sym e))
    (λ j key g. subst (λ l. slice_get l j ≡ Some key) (sym e) g) mid.keys (set mid.sets n set_new) e f
    (λ key mark. mark_joined mid.keys mid.sets own key mark n set_new tokens at within says)))

module _ {X K : Type 0} (Brings : X → K → Option ℕ → Type 0) where
  pub some_none : (old : KeyedSets K) → HaveSets old → GainsKeyedMarks old old (OfSome Brings [])
  some_none old are =
      gains_as old old (λ key mark. ⊥) (OfSome Brings [])
      (λ key mark. (λ (z : ⊥). absurd z, λ (x, c, b). no_element x c)) (gains_nothing old are)

  pub some_more : (old mid new : KeyedSets K) (xs : List X) (i : ℕ) (x : X) → i < length xs → x ≡ get_or xs i x →
      GainsKeyedMarks old mid (OfSome Brings (take i xs)) → GainsKeyedMarks mid new (Brings x) →
      GainsKeyedMarks old new (OfSome Brings (take (i + 1) xs))
  some_more old mid new xs i x h e g k =
      subst (λ l. GainsKeyedMarks old new (OfSome Brings l)) (sym (taken_one xs i x h e))
      (gains_as old new (λ key mark. OfSome Brings (take i xs) key mark ⊎ Brings x key mark) (OfSome Brings (take i xs ++ x ∷ []))
      (λ key mark. (
        λ s. ⊎_elim
            (λ (y, c, b). (y, Contains-append_left (take i xs) (x ∷ []) y c, b))
            (λ b. (x, Contains-append_right (take i xs) (x ∷ []) x (contains_here x []), b)) s,
        λ (y, c, b). ⊎_elim
            (λ d. inl (y, d, b))
            (λ d. ⊎_elim
            (λ (z : x ≡ y). inr (subst (λ w. Brings w key mark) (sym z) b))
            (λ f. absurd (no_element y f)) (contains_split x y [] d))
            (Contains-append_cases (take i xs) (x ∷ []) y c),
      ))
      (gains_both old mid new (OfSome Brings (take i xs)) (Brings x) g k))

  pub some_all : (old new : KeyedSets K) (xs : List X) (i : ℕ) → length xs ≤ i → GainsKeyedMarks old new (OfSome Brings (take i xs)) →
      GainsKeyedMarks old new (OfSome Brings xs)
  some_all old new xs i h g = subst (λ l. GainsKeyedMarks old new (OfSome Brings l)) (take_all i xs h) g

module _ {X K : Type 0} (Brings : ℕ → X → K → Option ℕ → Type 0) (xs : List X) where
  -- what the first places bring
  abbrev pub OfFirst : ℕ → K → Option ℕ → Type 0
  OfFirst i key mark = (n : ℕ) × (x : X) × (n < i) × (slice_get xs n ≡ Some x) × Brings n x key mark

  pub first_none : (old : KeyedSets K) → HaveSets old → GainsKeyedMarks old old (OfFirst 0)
  first_none old are =
      gains_as old old (λ key mark. ⊥) (OfFirst 0)
      (λ key mark. (λ (z : ⊥). absurd z, λ (n, x, h, e, b). absurd (omega (arith, h)))) (gains_nothing old are)

  cases_last : (a b : ℕ) → a < b + 1 → (a < b) ⊎ (b ≡ a)
  cases_last zero zero l = inr refl
  cases_last zero (suc b) l = inl (omega arith)
  cases_last (suc a) zero l = absurd (omega (arith, l))
  cases_last (suc a) (suc b) l = ⊎_elim (λ c. inl (omega (arith, c))) (λ c. inr (ap suc c)) (cases_last a b (omega (arith, l)))

  pub first_more : (old mid new : KeyedSets K) (i : ℕ) (x : X) → i < length xs → x ≡ get_or xs i x →
      GainsKeyedMarks old mid (OfFirst i) → GainsKeyedMarks mid new (Brings i x) → GainsKeyedMarks old new (OfFirst (i + 1))
  first_more old mid new i x h e g k =
      let at = get_at xs i x h e in
      gains_as old new (λ key mark. OfFirst i key mark ⊎ Brings i x key mark) (OfFirst (i + 1))
      (λ key mark. (
        λ s. ⊎_elim
            (λ (n, y, l, f, b). (n, y, omega (arith, l), f, b))
            (λ b. (i, x, omega arith, at, b)) s,
        λ (n, y, l, f, b). ⊎_elim
            (λ c. inl (n, y, c, f, b))
            (λ (z : i ≡ n).
            let same : y ≡ x = some_same y x (sym f ∙ ap (slice_get xs) (sym z) ∙ at) in
            inr (subst (λ w. Brings i w key mark) same (subst (λ j. Brings j y key mark) (sym z) b)))
            (cases_last n i l),
      ))
      (gains_both old mid new (OfFirst i) (Brings i x) g k)

  pub first_all : (old new : KeyedSets K) (i : ℕ) → length xs ≤ i → GainsKeyedMarks old new (OfFirst i) →
      GainsKeyedMarks old new (OfSomePlace Brings xs)
  first_all old new i h g =
      gains_as old new (OfFirst i) (OfSomePlace Brings xs)
      (λ key mark. (
        λ (n, x, l, e, b). (n, x, e, b),
        λ (n, x, e, b). (n, x, omega (arith, h, slice_get_within xs n x e), e, b),
      )) g

-- no keys
abbrev pub no_sets : {K : Type 0} → KeyedSets K
no_sets = record { keys = []; sets = [] }

pub are_no_sets : {K : Type 0} (all : KeyedSets K) → all.keys ≡ [] → all.sets ≡ [] → all ≡ no_sets
are_no_sets {K} all e f =
    let with_sets : List K → KeyedSets K = λ keys. keyed keys all.sets in
    let with_none : List (List ℕ) → KeyedSets K = λ sets. keyed [] sets in
    ap with_sets e ∙ ap with_none f

-- what is gained where no key was is all that there is
pub gained_marks : {K : Type 0} (old new : KeyedSets K) (Came : K → Option ℕ → Type 0) → old.keys ≡ [] → GainsKeyedMarks old new Came →
    (key : K) (mark : Option ℕ) → HasMarkAt new key mark ↔ Came key mark
gained_marks old new Came empty g key mark = (
  λ h. ⊎_elim
      (λ (j, e, m). let z : None ≡ Some key = subst (λ l. slice_get l j ≡ Some key) empty e in let w : ⊥ = cc in absurd w)
      (λ c. c) ((g.marks key mark).0 h),
  λ c. (g.marks key mark).1 (inr c),
)

-- what is lent brings what it is
pub gains_lent : {X K : Type 0} (Brings : X → K → Option ℕ → Type 0) (old new : KeyedSets K) (ps : List (Bor X)) →
    GainsKeyedMarks old new (OfSome (λ (p : Bor X). Brings p.now) ps) → GainsKeyedMarks old new (OfSome Brings (lent ps))
gains_lent {X = X} Brings old new ps g =
    gains_as old new (OfSome (λ (p : Bor X). Brings p.now) ps) (OfSome Brings (lent ps))
    (λ key mark. (
      λ (p, c, b). (p.now, map_has (λ (b : Bor X). b.now) ps p c, b),
      λ (p, c, b).
          let m = in_map (λ (b : Bor X). b.now) ps p c in
          (m.0, m.1, subst (λ q. Brings q key mark) (sym m.2) b),
    )) g
