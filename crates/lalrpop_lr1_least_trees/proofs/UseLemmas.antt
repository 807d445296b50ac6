-- Rules added at the names on their right sides: for the table of uses.
use Rattle.std.proofs.Common.{◌≡◌, ◌∙◌, ℕ, zero, suc, ◌+◌, ◌<◌, ◌≤◌, List, [], ◌∷◌, ◌++◌, length}
use Rattle.std.proofs.Common.{refl, sym, ap, subst, arith, Contains, set, get_or, ◌⊎◌, inl, inr, ⊎_elim, Vec, Global}
use Rattle.std.proofs.Common.{Some, slice_get}
use Rattle.std.specs.Prelude.{slice_index_or}
use Rattle.std.proofs.lemmas.Bool.{cases_lt}
use Rattle.std.proofs.lemmas.List.Elements.{Contains-append_cases, Contains-append_left, Contains-append_right}
use Rattle.std.proofs.lemmas.Option.{slice_get_within}
use Rattle.lalrpop_lr1_theory.proofs.ListLemmas.{contains_here, contains_split}
use Rattle.lalrpop_lr1_theory.proofs.StepLemmas.{some_same}
use Rattle.lalrpop_lr1_least_trees.specs.NumberedTrees.{NumberRule}
use Rattle.lalrpop_lr1_least_trees.specs.Searches.{AddsUses, AreUses, number_lists}
use Rattle.lalrpop_sets.proofs.AscendingListLemmas.{cases_eq}

lists_long : (lists : List (List ℕ)) (s : ℕ) (l : List ℕ) → length (set lists s l) ≡ length lists
lists_long [] s l = refl
lists_long (x ∷ lists) zero l = refl
lists_long (x ∷ lists) (suc s) l = ap suc (lists_long lists s l)

list_there : (lists : List (List ℕ)) (s : ℕ) (l : List ℕ) → s < length lists → slice_index_or (set lists s l) s [] ≡ l
list_there [] s l h = absurd (omega arith)
list_there (x ∷ lists) zero l h = refl
list_there (x ∷ lists) (suc s) l h = list_there lists s l (omega arith)

list_other : (lists : List (List ℕ)) (s t : ℕ) (l : List ℕ) → (t ≡ s → ⊥) → slice_index_or (set lists s l) t [] ≡
    slice_index_or lists t []
list_other [] s t l h = refl
list_other (x ∷ lists) zero zero l h = absurd (h refl)
list_other (x ∷ lists) zero (suc t) l h = refl
list_other (x ∷ lists) (suc s) zero l h = refl
list_other (x ∷ lists) (suc s) (suc t) l h = list_other lists s t l (λ k. h (ap suc k))

list_past : (lists : List (List ℕ)) (s : ℕ) → length lists ≤ s → slice_index_or lists s [] ≡ []
list_past [] s h = refl
list_past (x ∷ lists) zero h = absurd (omega arith)
list_past (x ∷ lists) (suc s) h = list_past lists s (omega arith)

-- a list changed in a list of vectors is one changed in what they hold
pub view_set : (lists : List (Vec ℕ Global)) (s : ℕ) (v : Vec ℕ Global) → number_lists (set lists s v) ≡ set
    (number_lists lists) s
    v.items
view_set [] s v = refl
view_set (x ∷ lists) zero v = refl
view_set (x ∷ lists) (suc s) v = ap (λ l. x.items ∷ l) (view_set lists s v)

pub view_read : (lists : List (Vec ℕ Global)) (s : ℕ) (v : Vec ℕ Global) → s < length lists → v ≡ get_or lists s v →
    slice_index_or (number_lists lists) s [] ≡ v.items
view_read [] s v h e = absurd (omega arith)
view_read (x ∷ lists) zero v h e = ap (λ (w : Vec ℕ Global). w.items) (sym e)
view_read (x ∷ lists) (suc s) v h e = view_read lists s v (omega arith) e

-- seen as lists of numbers, there are as many lists as before
pub view_long : (lists : List (Vec ℕ Global)) → length (number_lists lists) ≡ length lists
view_long [] = refl
view_long (x ∷ lists) = ap suc (view_long lists)

-- nothing was added yet
pub adds_none : (rule : ℕ) (uses : List (List ℕ)) → AddsUses rule [] uses uses
adds_none rule uses = record {
  count = refl;
  kept = λ s r c. c;
  added = λ s c h. absurd (omega (arith, c.1));
  only = λ s r c. inr c;
}

module _ (rule : ℕ) (xs : List ℕ) (old now : List (List ℕ)) (adds : AddsUses rule xs old now) (name : ℕ) where
  last : (s : ℕ) → Contains (name ∷ []) s → name ≡ s
  last s c = ⊎_elim (λ e. e) (λ d. absurd (omega (arith, d.1))) (contains_split name s [] c)

  -- a symbol that is no name
  pub adds_skip : length now ≤ name → AddsUses rule (xs ++ name ∷ []) old now
  adds_skip past = record {
    count = adds.count;
    kept = adds.kept;
    added = λ s c h. ⊎_elim (λ d. adds.added s d h) (λ d. let e = last s d in absurd (omega (arith, adds.count, h, e)))
        (Contains-append_cases xs (name ∷ []) s c);
    only = adds.only;
  }

  -- a name
  pub adds_more : (new : List (List ℕ)) → name < length now →
      new ≡ set now name (slice_index_or now name [] ++ rule ∷ []) → AddsUses rule (xs ++ name ∷ []) old new
  adds_more new within is = record {
    count = ap length is ∙ lists_long now name more ∙ adds.count;
    kept = λ s r c. stays s r (adds.kept s r c);
    added = λ s c h. ⊎_elim (λ d. stays s rule (adds.added s d h)) (λ d. subst (λ k. Contains (slice_index_or new k []) rule)
        (last s d) there)
        (Contains-append_cases xs (name ∷ []) s c);
    only = only;
  }
    where
      more : List ℕ
      more = slice_index_or now name [] ++ rule ∷ []

      here : slice_index_or new name [] ≡ slice_index_or now name [] ++ rule ∷ []
      here = ap (λ l. slice_index_or l name []) is ∙ list_there now name (slice_index_or now name [] ++ rule ∷ []) within

      other : (s : ℕ) → (s ≡ name → ⊥) → slice_index_or new s [] ≡ slice_index_or now s []
      other s n = ap (λ l. slice_index_or l s []) is ∙ list_other now name s (slice_index_or now name [] ++ rule ∷ []) n

      there : Contains (slice_index_or new name []) rule
      there = subst (λ l. Contains l rule) (sym here) (Contains-append_right (slice_index_or now name []) (rule ∷ []) rule
          (contains_here rule []))

      stays : (s r : ℕ) → Contains (slice_index_or now s []) r → Contains (slice_index_or new s []) r
      stays s r c = ⊎_elim
          (λ e. subst (λ k. Contains (slice_index_or new k []) r) (sym e) (subst (λ l. Contains l r) (sym here)
          (Contains-append_left (slice_index_or now name []) (rule ∷ []) r (subst (λ k. Contains (slice_index_or now k []) r) e c))))
          (λ n. subst (λ l. Contains l r) (sym (other s n)) c) (cases_eq s name)

      only : (s r : ℕ) → Contains (slice_index_or new s []) r → (r ≡ rule) ⊎ Contains (slice_index_or old s []) r
      only s r c = ⊎_elim
          (λ e. ⊎_elim (λ d. adds.only s r (subst (λ k. Contains (slice_index_or now k []) r) (sym e) d))
          (λ d. inl (sym (⊎_elim (λ h. h) (λ k. absurd (omega (arith, k.1))) (contains_split rule r [] d))))
          (Contains-append_cases (slice_index_or now name []) (rule ∷ []) r
          (subst (λ l. Contains l r) here (subst (λ k. Contains (slice_index_or new k []) r) e c))))
          (λ n. adds.only s r (subst (λ l. Contains l r) (other s n) c)) (cases_eq s name)

-- the uses on the right sides of the first rules
pub record AreFirstUses (rules : List NumberRule) (names count : ℕ) (uses : List (List ℕ)) : Type 0 where
  pub long : length uses ≡ names
  pub all : (r s : ℕ) (rule : NumberRule) → r < count → slice_get rules r ≡ Some rule → Contains rule.right s → s < names →
      Contains (slice_index_or uses s []) r
  pub within : (r s : ℕ) → Contains (slice_index_or uses s []) r → r < count

-- empty lists, one for each name, have the uses on the right sides of no rules yet
pub uses_start : (rules : List NumberRule) (names : ℕ) (uses : List (List ℕ)) → length uses ≡ names →
    ((s : ℕ) → slice_index_or uses s [] ≡ []) → AreFirstUses rules names 0 uses
uses_start rules names uses long empty = record {
  long = long;
  all = λ r s rule h. absurd (omega (arith, h));
  within = λ r s c. let d = subst (λ l. Contains l r) (empty s) c in absurd (omega (arith, d.1));
}

-- where to the uses of the first rules those of the next one are added, they are those of one rule more
pub uses_more : (rules : List NumberRule) (names count : ℕ) (uses new : List (List ℕ)) (rule : NumberRule) →
    slice_get rules count ≡ Some rule → AreFirstUses rules names count uses → AddsUses count rule.right uses new →
    AreFirstUses rules names (count + 1) new
uses_more rules names count uses new rule at first adds = record {
  long = adds.count ∙ first.long;
  all = λ r s other h there c below. all r s other h there c below (cases_lt r count);
  within = λ r s c. ⊎_elim (λ e. omega arith) (λ d. let l = first.within r s d in omega arith) (adds.only s r c);
}
  where
    all : (r s : ℕ) (other : NumberRule) → r < count + 1 → slice_get rules r ≡ Some other → Contains other.right s → s < names
        →
        (r < count) ⊎ (count ≤ r) → Contains (slice_index_or new s []) r
    all r s other h there c below (inl l) = adds.kept s r (first.all r s other l there c below)
    all r s other h there c below (inr l) =
        let e : r ≡ count = omega arith in
        let same = some_same other rule (sym there ∙ ap (slice_get rules) e ∙ at) in
        subst (λ k. Contains (slice_index_or new s []) k) (sym e)
        (adds.added s (subst (λ (o : NumberRule). Contains o.right s) same c) (omega (arith, below, first.long)))

-- the uses of the first rules, where these are all that there are, are the uses of the rules
pub uses_end : (rules : List NumberRule) (names count : ℕ) (uses : List (List ℕ)) → length rules ≤ count → count ≤ length
    rules →
    AreFirstUses rules names count uses → AreUses rules names uses
uses_end rules names count uses h g first = record {
  count = first.long;
  all = λ r s rule at c below. first.all r s rule (omega (arith, slice_get_within rules r rule at)) at c below;
  within = λ r s c. let l = first.within r s c in omega arith;
}

-- a number that is pushed onto one of the lists
pub view_pushed : (lists : List (Vec ℕ Global)) (s : ℕ) (was now : Vec ℕ Global) (x : ℕ) → s < length lists → was ≡ get_or
    lists s was →
    now.items ≡ was.items ++ x ∷ [] → number_lists (set lists s now) ≡ set (number_lists lists) s
    (slice_index_or (number_lists lists) s [] ++ x ∷ [])
view_pushed lists s was now x h e is =
    view_set lists s now ∙ ap (set (number_lists lists) s) (is ∙ ap (λ l. l ++ x ∷ []) (sym (view_read lists s was h e)))
