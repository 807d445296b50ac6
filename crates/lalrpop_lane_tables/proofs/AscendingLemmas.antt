-- Maps from states stay in order where something is pushed.
use Rattle.std.proofs.Common.{◌≡◌, ◌∙◌, ◌↔◌, ◌<◌, Bool, true, false, cond, List, [], ◌∷◌, Option, Some, None, refl, sym, ap, subst, arith, IsTrue, IsFalse}
use Rattle.std.specs.BTreeMap.{insert_entry, is_at}
use Rattle.std.specs.Cmp.{nat_cmp_is}
use Rattle.std.specs.List.{AllByRecursion}
use Rattle.std.specs.List.Sorted.{IsStrictlySortedBy}
use Rattle.std.specs.Map.{keys_of, lookup, set_value}
use Rattle.std.specs.Option.{MatchOption}
use Rattle.std.specs.Ordering.{match_ordering}
use Rattle.std.specs.declared.cmp.Ordering.{Ordering}
use Rattle.std.specs.declared.cmp.Ordering.TheVariants.{Less, Equal, Greater}
use Rattle.std.proofs.lemmas.Cmp.{ranked}
use Rattle.lalrpop_lr1_core.specs.declared.state_index.StateIndex.{StateIndex}
use Rattle.lalrpop_sets.specs.Collections.{Puts, SameEntries}
use Rattle.lalrpop_lane_tables.specs.ReachedStates.{index_cmp}

less_is : (a b : StateIndex) → index_cmp a b ≡ Less → a.0 < b.0
less_is a b e = ranked a.0 b.0 Less (sym e)

is_less : (a b : StateIndex) → a.0 < b.0 → index_cmp a b ≡ Less
is_less a b h = sym (nat_cmp_is a.0 b.0 Less h)

greater_is : (a b : StateIndex) → index_cmp a b ≡ Greater → b.0 < a.0
greater_is a b e = ranked a.0 b.0 Greater (sym e)

-- what is before a state that is before all of a list
all_before : (k e : StateIndex) (ks : List StateIndex) → index_cmp k e ≡ Less → AllByRecursion (λ y. index_cmp e y ≡ Less) ks →
    AllByRecursion (λ y. index_cmp k y ≡ Less) ks
all_before k e [] less all = tt
all_before k e (x ∷ ks) less all =
    (is_less k x (omega (arith, less_is k e less, less_is e x all.0)), all_before k e ks less all.1)

module _ {C : Type 0} where
  all_inserted : (P : StateIndex → Type 0) (es : List (StateIndex × C)) (k : StateIndex) (c : C) → AllByRecursion P (keys_of es) → P k →
      AllByRecursion P (keys_of (insert_entry index_cmp es k c))
  all_inserted P [] k c all p = (p, tt)
  all_inserted P (e ∷ es) k c all p = go (index_cmp k e.0) (all_inserted P es k c all.1 p)
    where
      go : (o : Ordering) → AllByRecursion P (keys_of (insert_entry index_cmp es k c)) →
          AllByRecursion P (keys_of (match_ordering o ((k, c) ∷ e ∷ es) ((e.0, c) ∷ es) (e ∷ insert_entry index_cmp es k c)))
      go Less rest = (p, all)
      go Equal rest = all
      go Greater rest = (all.0, rest)

  insert_ascends : (es : List (StateIndex × C)) (k : StateIndex) (c : C) → IsStrictlySortedBy index_cmp (keys_of es) →
      IsStrictlySortedBy index_cmp (keys_of (insert_entry index_cmp es k c))
  unfolding IsStrictlySortedBy
  insert_ascends [] k c s = (tt, tt)
  insert_ascends (e ∷ es) k c s = go (index_cmp k e.0) refl (insert_ascends es k c s.1)
    where
      go : (o : Ordering) → index_cmp k e.0 ≡ o → IsStrictlySortedBy index_cmp (keys_of (insert_entry index_cmp es k c)) →
          IsStrictlySortedBy index_cmp (keys_of (match_ordering o ((k, c) ∷ e ∷ es) ((e.0, c) ∷ es) (e ∷ insert_entry index_cmp es k c)))
      go Less is rest = ((is, all_before k e.0 (keys_of es) is s.0), s)
      go Equal is rest = s
      go Greater is rest =
          (all_inserted (λ y. index_cmp e.0 y ≡ Less) es k c s.0 (is_less e.0 k (greater_is k e.0 is)), rest)

  set_keys : (test : StateIndex → Bool) (es : List (StateIndex × C)) (d : C) → keys_of (set_value test es d) ≡ keys_of es
  set_keys test [] d = refl
  set_keys test (e ∷ es) d = go (test e.0) (set_keys test es d)
    where
      go : (b : Bool) → keys_of (set_value test es d) ≡ keys_of es →
          keys_of (cond b ((e.0, d) ∷ es) (e ∷ set_value test es d)) ≡ keys_of (e ∷ es)
      go true rest = refl
      go false rest = ap (λ l. e.0 ∷ l) rest

  -- a push keeps the order
  pub puts_ascend : {X : Type 0} (nothing : C → Type 0) (S : C → C → Type 0) (pushes : C → X → C → Type 0)
      (old new : List (StateIndex × C)) (key : StateIndex) (item : X) (changed : Bool) →
      Puts index_cmp nothing S pushes old key item changed new → IsStrictlySortedBy index_cmp (keys_of old) →
      IsStrictlySortedBy index_cmp (keys_of new)
  puts_ascend nothing S pushes old new key item changed p s = go (lookup (is_at (index_cmp key)) old) p
    where
      go : (o : Option C) →
          MatchOption o
          (IsTrue changed × ((e : C) × (c : C) × nothing e × pushes e item c × (new ≡ insert_entry index_cmp old key c)))
          (λ c. (d : C) × pushes c item d × (IsFalse changed ↔ S c d) × (new ≡ set_value (is_at (index_cmp key)) old d)) →
          IsStrictlySortedBy index_cmp (keys_of new)
      go None q =
          subst (λ (l : List (StateIndex × C)). IsStrictlySortedBy index_cmp (keys_of l)) (sym q.1.4) (insert_ascends old key q.1.1 s)
      go (Some c) q =
          subst (λ (l : List (StateIndex × C)). IsStrictlySortedBy index_cmp (keys_of l)) (sym q.3)
          (subst (IsStrictlySortedBy index_cmp) (sym (set_keys (is_at (index_cmp key)) old q.0)) s)

  -- and maps that stand for the same have the same keys
  pub same_ascend : (S : C → C → Type 0) (old new : List (StateIndex × C)) → SameEntries S old new →
      IsStrictlySortedBy index_cmp (keys_of old) → IsStrictlySortedBy index_cmp (keys_of new)
  same_ascend S old new same s = subst (IsStrictlySortedBy index_cmp) (keys old new same) s
    where
      keys : (es fs : List (StateIndex × C)) → SameEntries S es fs → keys_of es ≡ keys_of fs
      keys [] [] h = refl
      keys [] (f ∷ fs) h = absurd h
      keys (e ∷ es) [] h = absurd h
      keys (e ∷ es) (f ∷ fs) h = ap (λ k. k ∷ keys_of es) h.0.0 ∙ ap (λ l. f.0 ∷ l) (keys es fs h.1)
