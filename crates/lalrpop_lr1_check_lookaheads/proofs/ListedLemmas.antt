-- Listed items by their keys: for asking whether a state has an item, and for the items that have moved.
use Rattle.std.proofs.Common.{◌≡◌, ◌∙◌, ℕ, ◌+◌, ◌<◌, ◌≤◌, Bool, true, false, List, [], ◌∷◌, ◌++◌}
use Rattle.std.proofs.Common.{length, take, map, get_or}
use Rattle.std.proofs.Common.{refl, sym, ap, subst, arith, Some, slice_get, nat_lt}
use Rattle.std.specs.Bool.{Decides}
use Rattle.std.specs.Prelude.{nat_eq, filter, if◌then◌else◌}
use Rattle.std.specs.Cmp.Derive.{both_true}
use Rattle.std.proofs.lemmas.Bool.{le-ltb, ltb-false}
use Rattle.std.proofs.lemmas.Bool.Decides.{Decides-eqb}
use Rattle.lalrpop_grammar_repr.specs.contracts.production.ProductionPartialEq.TheImpl as productions
use Rattle.lalrpop_lr1_theory.proofs.ListLemmas.{get_split}
use Rattle.lalrpop_lr1_theory.proofs.StepLemmas.{some_same}
use Rattle.lalrpop_lr1_core.specs.Dots.{has_moved}
use Rattle.lalrpop_lr1_core.specs.declared.item.Item.{Item}
use Rattle.lalrpop_lr1_core.specs.declared.state.State.{State}
use Rattle.lalrpop_lr1_check_lookaheads.specs.ListTests.{GainsElements, HaveSameElements}
use Rattle.lalrpop_lr1_check_lookaheads.specs.ListedItems.{AreKernels, ItemKey, item_key, key_at, key_of_item, moved_keys}
use Rattle.lalrpop_lr1_check_lookaheads.specs.contracts.parts.listed.ListedItemPartialEq.TheImpl as items
use Rattle.lalrpop_lr1_check_lookaheads.specs.declared.parts.listed.ListedItem.{ListedItem}
use Rattle.lalrpop_grammar_repr.proofs.EqualLemmas.{both_parts, same_productions}
use Rattle.lalrpop_lr1_check_lookaheads.proofs.GainLemmas.{taken_one}
use Rattle.std.proofs.Common.{zero, suc}
use Rattle.std.proofs.Common.{⊎_elim, inl, inr}
use Rattle.std.proofs.lemmas.List.Elements.{Contains-append_cases, Contains-append_left, Contains-append_right}

-- listed items that compare as equal have one key
pub same_items : (a b : ListedItem) → Decides ((items.ghosts).eq a b) (item_key a ≡ item_key b)
same_items a b = (
  λ e.
      let p = both_parts (nat_eq a.state b.state) _ e in
      let q = both_parts ((productions.ghosts).eq a.production.now b.production.now) (nat_eq a.dot b.dot) p.1 in
      ap (λ n. key_at n a.production.now a.dot) ((Decides-eqb a.state b.state).0 p.0)
      ∙ ap (λ x. key_at b.state x a.dot) ((same_productions a.production.now b.production.now).0 q.0)
      ∙ ap (λ i. key_at b.state b.production.now i) ((Decides-eqb a.dot b.dot).0 q.1),
  λ e. both_true ((Decides-eqb a.state b.state).1 (ap (λ (k : ItemKey). k.state) e))
      (both_true ((same_productions a.production.now b.production.now).1 (ap (λ (k : ItemKey). k.production) e))
      ((Decides-eqb a.dot b.dot).1 (ap (λ (k : ItemKey). k.dot) e))),
)

-- the same elements with more of them
pub same_more : {X : Type 0} (old new xs ys : List X) → HaveSameElements old xs → GainsElements old new ys →
    HaveSameElements new (xs ++ ys)
same_more old new xs ys h a x = (
  λ c. ⊎_elim (λ d. Contains-append_left xs ys x ((h x).0 d)) (λ d. Contains-append_right xs ys x d) ((a x).0 c),
  λ c. (a x).1 (⊎_elim (λ d. inl ((h x).1 d)) (λ d. inr d) (Contains-append_cases xs ys x c)),
)

module _ {L : Type 0} (n : ℕ) where
  -- an item that has moved, and one that hasn't
  pub moved_yes : (item : Item L) → 0 < item.index → moved_keys n (item ∷ []) ≡ key_of_item n item ∷ []
  moved_yes item h = go (nat_lt 0 item.index) refl
    where
      go : (b : Bool) → nat_lt 0 item.index ≡ b →
          map (key_of_item n) (if b then item ∷ [] else []) ≡ key_of_item n item ∷ []
      go true e = refl
      go false e = absurd (omega (arith, ltb-false 0 item.index e, h))

  pub moved_no : (item : Item L) → item.index ≤ 0 → moved_keys n (item ∷ []) ≡ []
  moved_no item h = go (nat_lt 0 item.index) refl
    where
      go : (b : Bool) → nat_lt 0 item.index ≡ b → map (key_of_item n) (if b then item ∷ [] else []) ≡ []
      go true e = let both : true ≡ false = sym e ∙ le-ltb 0 item.index h in let w : ⊥ = cc in absurd w
      go false e = refl

  moved_both : (xs ys : List (Item L)) → moved_keys n (xs ++ ys) ≡ moved_keys n xs ++ moved_keys n ys
  moved_both [] ys = refl
  moved_both (x ∷ xs) ys = go (has_moved x) (moved_both xs ys)
    where
      go : (b : Bool) → moved_keys n (xs ++ ys) ≡ moved_keys n xs ++ moved_keys n ys →
          map (key_of_item n) (if b then x ∷ filter has_moved (xs ++ ys) else filter has_moved (xs ++ ys))
          ≡ map (key_of_item n) (if b then x ∷ filter has_moved xs else filter has_moved xs) ++ moved_keys n ys
      go true rec = ap (λ l. key_of_item n x ∷ l) rec
      go false rec = rec

  pub moved_taken : (items : List (Item L)) (i : ℕ) (x : Item L) → i < length items → x ≡ get_or items i x →
      moved_keys n (take (i + 1) items) ≡ moved_keys n (take i items) ++ moved_keys n (x ∷ [])
  moved_taken items i x h e = ap (moved_keys n) (taken_one items i x h e) ∙ moved_both (take i items) (x ∷ [])

pub one_at : {X : Type 0} (x y : X) (j : ℕ) → slice_get (x ∷ []) j ≡ Some y → (j ≡ 0) × (x ≡ y)
one_at x y zero e = (refl, some_same x y e)
one_at x y (suc j) e = let z : ⊥ = cc in absurd z

mapped_end : {X Y : Type 0} (f : X → Y) (xs : List X) (x : X) → map f (xs ++ x ∷ []) ≡ map f xs ++ f x ∷ []
mapped_end f [] x = refl
mapped_end f (y ∷ xs) x = ap (λ l. f y ∷ l) (mapped_end f xs x)

long_mapped : {X Y : Type 0} (f : X → Y) (xs : List X) → length (map f xs) ≡ length xs
long_mapped f [] = refl
long_mapped f (x ∷ xs) = ap suc (long_mapped f xs)

-- the kernels of one state more
pub kernels_more : {X L : Type 0} (f : X → List ItemKey) (ks new : List X) (k : X) (states : List (State L)) (i : ℕ)
    (state : State L) → AreKernels (map f ks) states → length ks ≡ i → new ≡ ks ++ k ∷ [] →
    slice_get states i ≡ Some state → HaveSameElements (f k) (moved_keys i state.items.vec) → AreKernels (map f new) states
kernels_more {X} {L} f ks new k states i state h n e at own m kernel st f_at at_m =
    ⊎_elim (λ g. h m kernel st g at_m)
    (λ g. let r = one_at (f k) kernel g.0 g.2 in last (omega (arith, g.1, r.0, long_mapped f ks, n)) r.1)
    (get_split (map f ks) (f k ∷ []) m kernel
    (subst (λ l. slice_get l m ≡ Some kernel) (ap (map f) e ∙ mapped_end f ks k) f_at))
  where
    last : m ≡ i → f k ≡ kernel → HaveSameElements kernel (moved_keys m st.items.vec)
    last z w =
        let s : state ≡ st = some_same state st (sym at ∙ subst (λ j. slice_get states j ≡ Some st) z at_m) in
        subst (λ l. HaveSameElements l (moved_keys m st.items.vec)) w
        (subst (λ (u : State L). HaveSameElements (f k) (moved_keys m u.items.vec)) s
        (subst (λ j. HaveSameElements (f k) (moved_keys j state.items.vec)) (sym z) own))
