-- Classes of states stay classes of a table while some are joined and others come.
use Rattle.std.proofs.Common.{◌≡◌, ◌∙◌, ◌⊎◌, ◌<◌, ◌+◌, ◌||◌, ◌==◌, ℕ, Bool, true, false, List, [], ◌∷◌, map, length, refl, sym, ap, subst, suc}
use Rattle.std.proofs.Common.{inl, inr, ⊎_elim, arith, Contains, Err, Ok, Option, Result, Some, None, get_or, slice_get, length-append}
use Rattle.std.specs.Prelude.{if◌then◌else◌}
use Rattle.std.specs.BTreeMap.{insert_entry}
use Rattle.std.proofs.lemmas.List.Elements.{Contains-push_cases}
use Rattle.std.proofs.lemmas.Option.{get_or_from_slice_get, slice_get_within}
use Rattle.lalrpop_lr1_theory.proofs.ListLemmas.{get_contains}
use Rattle.lalrpop_lr1_theory.proofs.StepLemmas.{some_same}
use Rattle.lalrpop_lr1_core.proofs.MemberLemmas.{in_map}
use Rattle.lalrpop_lr1_core.specs.declared.state_index.StateIndex.{StateIndex}
use Rattle.lalrpop_lane_tables.specs.MergeClasses.{AreClassesOfSome, DontFit, FittingAnswer, JoinAnswer, NoneFitsBefore, class_key_of}
use Rattle.lalrpop_lane_tables.specs.MergeViews.{AreClasses}
use Rattle.lalrpop_lane_tables.specs.ReachedStates.{index_cmp}
use Rattle.lalrpop_lane_tables.specs.UnifiedClasses.{AddsClass, ClassEntry, HaveSameCount, UnifiesClasses, joined_entry}
use Rattle.lalrpop_lane_tables.specs.declared.merge_classes.MergeFault.{MergeFault}
use Rattle.lalrpop_lane_tables.specs.declared.unify_tables.StateSet.{StateSet}
use Rattle.lalrpop_lane_tables.proofs.KeyLemmas.{index_exact}
use Rattle.lalrpop_lane_tables.proofs.PutLemmas.{found_there}
use Rattle.lalrpop_lane_tables.proofs.RowLemmas.{index_self, put_from}

-- a state's key is of the table, and all classes have as many columns
pub key_below : (sets : List (StateIndex × StateSet)) (entries : List ClassEntry) (n : StateIndex) (key : StateSet) →
    AreClassesOfSome sets entries → class_key_of sets n ≡ Some key → key.index < length entries
key_below sets entries n key h at = h.1.keys n key (found_there index_cmp index_exact index_self sets n key at)

pub same_count : (sets : List (StateIndex × StateSet)) (entries : List ClassEntry) (a b : ℕ) → AreClassesOfSome sets entries →
    HaveSameCount entries a b
same_count sets entries a b h = λ one other at_one at_other.
    h.1.columns (at_one.0, one) (get_contains entries a (at_one.0, one) at_one.1)
    ∙ sym (h.1.columns (at_other.0, other) (get_contains entries b (at_other.0, other) at_other.1))

map_long : (f : ClassEntry → ClassEntry) (xs : List ClassEntry) → length (map f xs) ≡ length xs
map_long f [] = refl
map_long f (x ∷ xs) = ap suc (map_long f xs)

-- two classes are joined
pub unified_classes : (count : ℕ) (sets : List (StateIndex × StateSet)) (old new : List ClassEntry) (a b : ℕ) → AreClasses count sets old →
    UnifiesClasses old a b new → AreClasses count sets new
unified_classes count sets old new a b h (inl w) = subst (λ (es : List ClassEntry). AreClasses count sets es) (sym w.1) h
unified_classes count sets old new a b h (inr j) = subst (λ (es : List ClassEntry). AreClasses count sets es) (sym j.joined) (record {
  keys = λ n key there. let z = h.keys n key there in
      let long = map_long (joined_entry j.one.0 j.other.0 j.columns) old in omega (arith, z, long);
  columns = λ e there.
      let x = in_map (joined_entry j.one.0 j.other.0 j.columns) old e there in
      subst (λ (y : ClassEntry). length y.1 ≡ count) x.2
      (go (x.0.0 == j.one.0 || x.0.0 == j.other.0) x.0 (h.columns x.0 x.1));
})
  where
    joined : length j.columns ≡ count
    joined = j.gathers.count ∙ h.columns j.one (get_contains old a j.one j.at_one)

    go : (b : Bool) (x : ClassEntry) → length x.1 ≡ count → length (if b then (j.one.0, j.columns) else x).1 ≡ count
    go true x e = joined
    go false x e = e

-- a class comes, for a state
pub classes_with : (count : ℕ) (sets : List (StateIndex × StateSet)) (old new : List ClassEntry) (columns : List (List ℕ)) (n : StateIndex)
    (key : StateSet) → AreClasses count sets old → AddsClass old columns key.index new → length columns ≡ count →
    AreClasses count (insert_entry index_cmp sets n key) new
classes_with count sets old new columns n key h adds long =
    let more : length new ≡ length old + 1 = ap length adds.added ∙ length-append old ((adds.class, columns) ∷ []) in record {
      keys = λ m k there. ⊎_elim
          (λ a. let z = h.keys m k a in omega (arith, z, more))
          (λ b. subst (λ (s : StateSet). s.index < length new) b.1 (omega (arith, adds.key, more)))
          (put_from index_cmp index_exact sets n key m k there);
      columns = λ e there. ⊎_elim
          (λ a. h.columns e a)
          (λ b. subst (λ (f : ClassEntry). length f.1 ≡ count) b long)
          (Contains-push_cases old (adds.class, columns) e (subst (λ (es : List ClassEntry). Contains es e) adds.added there));
    }

-- a class comes, for no state
pub classes_more : (count : ℕ) (sets : List (StateIndex × StateSet)) (old new : List ClassEntry) (columns : List (List ℕ)) (k : ℕ) →
    AreClasses count sets old → AddsClass old columns k new → length columns ≡ count → AreClasses count sets new
classes_more count sets old new columns k h adds long =
    let more : length new ≡ length old + 1 = ap length adds.added ∙ length-append old ((adds.class, columns) ∷ []) in record {
      keys = λ m key there. let z = h.keys m key there in omega (arith, z, more);
      columns = λ e there. ⊎_elim
          (λ a. h.columns e a)
          (λ b. subst (λ (f : ClassEntry). length f.1 ≡ count) b long)
          (Contains-push_cases old (adds.class, columns) e (subst (λ (es : List ClassEntry). Contains es e) adds.added there));
    }

-- whatever comes of joining the classes of two states, or those of a state and of the first copy that fits
pub join_classes : (count : ℕ) (sets : List (StateIndex × StateSet)) (old : List ClassEntry) (n m : StateIndex) (new : List ClassEntry)
    (r : Result Bool MergeFault) → AreClasses count sets old → JoinAnswer sets old n m new r → AreClasses count sets new
join_classes count sets old n m new (Ok true) h j = unified_classes count sets old new j.one.index j.other.index h j.joins
join_classes count sets old n m new (Ok false) h j = subst (λ (es : List ClassEntry). AreClasses count sets es) (sym j.1) h
join_classes count sets old n m new (Err fault) h j = subst (λ (es : List ClassEntry). AreClasses count sets es) (sym j.1) h

pub fitting_classes : (count : ℕ) (sets : List (StateIndex × StateSet)) (old : List ClassEntry) (n original : StateIndex)
    (copies : List (StateIndex × StateIndex)) (new : List ClassEntry) (r : Result (Option ℕ) MergeFault) → AreClasses count sets old →
    FittingAnswer sets old n original copies new r → AreClasses count sets new
fitting_classes count sets old n original copies new (Ok (Some place)) h f =
    unified_classes count sets old new f.joins.one.index f.joins.other.index h f.joins.joins
fitting_classes count sets old n original copies new (Ok None) h f = subst (λ (es : List ClassEntry). AreClasses count sets es) (sym f.1) h
fitting_classes count sets old n original copies new (Err fault) h f = subst (λ (es : List ClassEntry). AreClasses count sets es) (sym f.1) h

-- the place of a copy that fits is one of the places
pub place_within : (sets : List (StateIndex × StateSet)) (old : List ClassEntry) (n original : StateIndex)
    (copies : List (StateIndex × StateIndex)) (new : List ClassEntry) (found : Option ℕ) (place : ℕ) → found ≡ Some place →
    FittingAnswer sets old n original copies new (Ok found) → place < length copies
place_within sets old n original copies new None place e f = let w : ⊥ = cc in absurd w
place_within sets old n original copies new (Some k) place e f =
    subst (λ (j : ℕ). j < length copies) (some_same k place e) (slice_get_within copies k (f.copy, original) f.at)

-- one place more at which no copy fits
place_of : (j n : ℕ) → j < n + 1 → (j < n) ⊎ (j ≡ n)
place_of j n h = grind arith

pub none_fits_more : (sets : List (StateIndex × StateSet)) (entries : List ClassEntry) (n original : StateIndex)
    (copies : List (StateIndex × StateIndex)) (place : ℕ) (d : StateIndex × StateIndex) →
    NoneFitsBefore sets entries n original copies place →
    ((get_or copies place d).1 ≡ original → DontFit sets entries n (get_or copies place d).0) →
    NoneFitsBefore sets entries n original copies (place + 1)
none_fits_more sets entries n original copies place d before here = λ k copy l at. ⊎_elim
    (λ b. before k copy b at)
    (λ e.
    let same : get_or copies place d ≡ (copy, original) =
    get_or_from_slice_get copies place (copy, original) d (ap (slice_get copies) (sym e) ∙ at) in
    subst (λ (m : StateIndex). DontFit sets entries n m) (ap (λ (q : StateIndex × StateIndex). q.0) same)
    (here (ap (λ (q : StateIndex × StateIndex). q.1) same)))
    (place_of k place l)

-- the classes of two states don't fit where they weren't joined
pub not_joined : (sets : List (StateIndex × StateSet)) (old : List ClassEntry) (n m : StateIndex) (new : List ClassEntry) (b : Bool) →
    b ≡ false → JoinAnswer sets old n m new (Ok b) → DontFit sets old n m × (new ≡ old)
not_joined sets old n m new true e h = let w : ⊥ = cc in absurd w
not_joined sets old n m new false e h = h
