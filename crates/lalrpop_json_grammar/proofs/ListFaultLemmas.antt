-- Reading a list from the front tells its first fault; for the readers of all lists.
use Rattle.std.proofs.Common.{◌≡◌, ℕ, zero, suc, ◌+◌, ◌^◌, ◌<◌, ◌≤◌, ◌∷◌}
use Rattle.std.proofs.Common.{Some, None, Result, Ok, Err}
use Rattle.std.proofs.Common.{refl, ap, sym, ◌∙◌, inl, inr, ◌⊎◌, subst, arith}
use Rattle.serde_json.specs.Data.{Data, null, boolean, number, string, array, object, Items, no_items, item, depth, items_depth}
use Rattle.serde_json.specs.Find.{as_array, at, get_item}
use Rattle.lalrpop_json_values.specs.declared.fault.Fault.{Fault}
use Rattle.lalrpop_json_values.specs.declared.fault.FaultKind.TheVariants as fault
use Rattle.lalrpop_json_values.specs.declared.fault.Step.TheVariants as step
use Rattle.lalrpop_json_values.specs.Gives.{◌>>=◌, here, within}
use Rattle.lalrpop_json_values.specs.Lists.{list_at, list_from}
use Rattle.lalrpop_json_grammar.specs.Faults.{IsFaultOfValue, inside}
use Rattle.lalrpop_json_grammar.specs.Order.{AreItemsInOrder, FaultComesBefore, HasKeysInOrder}
use Rattle.lalrpop_json_grammar.specs.Wanted.{Wanted}
use Rattle.lalrpop_json_grammar.proofs.OrderLemmas.{IsNotBefore, index_less, inside_after, step_before}
use Rattle.lalrpop_json_grammar.proofs.FieldLemmas.{Tells, TellsOf, tells_same, tells_then}

-- which faults an item has, by its index
abbrev ItemFaults : Type 1
ItemFaults = ℕ → Data → Fault → Type 0

-- a fault of an item, from an index on
abbrev FaultFrom : ItemFaults → ℕ → Items → Fault → Type 0
FaultFrom F i no_items f = ⊥
FaultFrom F i (item d ds) f = ((g : Fault) × F i d g × (f ≡ inside (step.Index i) g)) ⊎ FaultFrom F (i + 1) ds f

fault_index : (F : ItemFaults) (i : ℕ) (ds : Items) (f : Fault) → FaultFrom F i ds f
    → (k : ℕ) × (g : Fault) × (i ≤ k) × (f ≡ inside (step.Index k) g)
fault_index F i no_items f h = absurd h
fault_index F i (item d ds) f (inl h) = (i, h.0, omega arith, h.2)
fault_index F i (item d ds) f (inr h) =
    let rest = fault_index F (i + 1) ds f h in (rest.0, rest.1, omega (arith, rest.2), rest.3)

module _ (F : ItemFaults) (i : ℕ) (d : Data) (ds : Items) where
  behind : (f g : Fault) → FaultFrom F (i + 1) ds g → FaultComesBefore (inside (step.Index i) f) g
  behind f g h =
      let at = fault_index F (i + 1) ds g h in
      rw at.3 (step_before (step.Index i) (step.Index at.0) f at.1 (index_less i at.0 (omega (arith, at.2))))

  rest_tells : {A : Type 0} (r : Result A Fault) → ((q : Fault) → F i d q → ⊥)
      → TellsOf (AreItemsInOrder ds) (FaultFrom F (i + 1) ds) r
      → TellsOf (AreItemsInOrder (item d ds)) (FaultFrom F i (item d ds)) r
  rest_tells (Ok x) none h = λ f q. by f q
    where
      by : (f : Fault) → FaultFrom F i (item d ds) f → ⊥
      by f (inl own) = none own.0 own.1
      by f (inr rest) = h f rest
  rest_tells (Err f) none h = (inr h.0, λ order g q. by order g q)
    where
      by : AreItemsInOrder (item d ds) → (g : Fault) → FaultFrom F i (item d ds) g → IsNotBefore f g
      by order g (inl own) = absurd (none own.0 own.1)
      by order g (inr rest) = h.1 order.1 g rest

  own_tells : {A B : Type 0} (r : Result A Fault) (cont : A → Result B Fault) → TellsOf (HasKeysInOrder d) (F i d) r
      → ((x : A) → TellsOf (AreItemsInOrder ds) (FaultFrom F (i + 1) ds) (cont x))
      → TellsOf (AreItemsInOrder (item d ds)) (FaultFrom F i (item d ds)) (within (step.Index i) r >>= cont)
  own_tells (Ok x) cont h rest = rest_tells (cont x) h (rest x)
  own_tells (Err f) cont h rest = (inl (f, h.0, refl), λ order g q. by order g q)
    where
      by : AreItemsInOrder (item d ds) → (g : Fault) → FaultFrom F i (item d ds) g → IsNotBefore (inside (step.Index i) f) g
      by order g (inl own) = rw own.2 (inside_after (step.Index i) f own.0 (h.1 order.0 own.0 own.1))
      by order g (inr rest) = inr (behind f g rest)

from_tells : {A : Type 0} (F : ItemFaults) (read : ℕ → Data → Result A Fault) (i : ℕ) (ds : Items)
    → ((j : ℕ) (e : Data) → depth e < suc (items_depth ds) → TellsOf (HasKeysInOrder e) (F j e) (read j e))
    → TellsOf (AreItemsInOrder ds) (FaultFrom F i ds) (list_from read i ds)
from_tells F read i no_items h = λ f q. q
from_tells F read i (item d ds) h =
    let rest = from_tells F read (i + 1) ds (λ j e below. h j e (omega (arith, below))) in
    own_tells F i d ds (read i d) _ (h i d (omega arith))
    λ x. tells_then (AreItemsInOrder ds) (FaultFrom F (i + 1) ds) (λ xs. x ∷ xs) (list_from read (i + 1) ds) rest

-- ---- an item by its index

to_from : (F : ItemFaults) (i j k : ℕ) (ds : Items) (e : Data) (f g : Fault) → get_item j ds ≡ Some e → k ≡ i + j → F k e g
    → f ≡ inside (step.Index k) g → FaultFrom F i ds f
to_from F i j k no_items e f g at is h same = absurd (cc)
to_from F i zero k (item d ds) e f g at is h same =
    let here_is : d ≡ e = cc in
    let index : k ≡ i = omega (arith, is) in
    inl (g, subst (λ x. F x d g) index (subst (λ x. F k x g) (sym here_is) h), same ∙ ap (λ x. inside (step.Index x) g) index)
to_from F i (suc j) k (item d ds) e f g at is h same = inr (to_from F (i + 1) j k ds e f g at (omega (arith, is)) h same)

abbrev AtIndex : ItemFaults → ℕ → Items → Fault → Type 0
AtIndex F i ds f =
    (j : ℕ) × (k : ℕ) × (e : Data) × (g : Fault) × (get_item j ds ≡ Some e) × (k ≡ i + j) × F k e g
    × (f ≡ inside (step.Index k) g)

of_from : (F : ItemFaults) (i : ℕ) (ds : Items) (f : Fault) → FaultFrom F i ds f → AtIndex F i ds f
of_from F i no_items f h = absurd h
of_from F i (item d ds) f (inl h) = (zero, i, d, h.0, refl, omega arith, h.1, h.2)
of_from F i (item d ds) f (inr h) =
    let r = of_from F (i + 1) ds f h in (suc r.0, r.1, r.2, r.3, r.4, omega (arith, r.5), r.6, r.7)

-- ---- lists

array_none : (w : Wanted) (d : Data) → as_array d ≡ None → (g : Fault) → IsFaultOfValue (Wanted.list w) d g
    → IsNotBefore (here fault.WrongShape) g
array_none w null none g (IsFaultOfValue.wrong_shape a b) = inl b
array_none w null none g (IsFaultOfValue.in_list i e q at h is) = absurd (cc)
array_none w (boolean x) none g (IsFaultOfValue.wrong_shape a b) = inl b
array_none w (boolean x) none g (IsFaultOfValue.in_list i e q at h is) = absurd (cc)
array_none w (number x) none g (IsFaultOfValue.wrong_shape a b) = inl b
array_none w (number x) none g (IsFaultOfValue.in_list i e q at h is) = absurd (cc)
array_none w (string x) none g (IsFaultOfValue.wrong_shape a b) = inl b
array_none w (string x) none g (IsFaultOfValue.in_list i e q at h is) = absurd (cc)
array_none w (array x) none g h = absurd (cc)
array_none w (object x) none g (IsFaultOfValue.wrong_shape a b) = inl b
array_none w (object x) none g (IsFaultOfValue.in_list i e q at h is) = absurd (cc)

items_tell : {A : Type 0} (w : Wanted) (ds : Items) (r : Result A Fault)
    → TellsOf (AreItemsInOrder ds) (FaultFrom (λ i. IsFaultOfValue w) 0 ds) r
    → Tells (Wanted.list w) (array ds) r
items_tell w ds r h =
    tells_same (AreItemsInOrder ds) (FaultFrom (λ i. IsFaultOfValue w) 0 ds) (IsFaultOfValue (Wanted.list w) (array ds)) r to from h
  where
    to : (f : Fault) → FaultFrom (λ i. IsFaultOfValue w) 0 ds f → IsFaultOfValue (Wanted.list w) (array ds) f
    to f q =
        let at = of_from (λ i. IsFaultOfValue w) 0 ds f q in
        let index : at.1 ≡ at.0 = omega (arith, at.5) in
        IsFaultOfValue.in_list at.0 at.2 at.3 at.4 at.6 (at.7 ∙ ap (λ x. inside (step.Index x) at.3) index)

    from : (f : Fault) → IsFaultOfValue (Wanted.list w) (array ds) f → FaultFrom (λ i. IsFaultOfValue w) 0 ds f
    from f (IsFaultOfValue.wrong_shape a b) = absurd (cc)
    from f (IsFaultOfValue.in_list i e g at h is) = to_from (λ i. IsFaultOfValue w) 0 i i ds e f g at (omega arith) h is

-- where reading tells the faults of the elements, each by itself, reading the list tells those of the list
pub list_tells : {A : Type 0} (w : Wanted) (d : Data) (read : Data → Result A Fault)
    → ((e : Data) → depth e < depth d → Tells w e (read e)) → Tells (Wanted.list w) d (list_at (λ i. read) d)
unfolding list_at
list_tells w null read h = (IsFaultOfValue.wrong_shape refl refl, λ order. array_none w null refl)
list_tells w (boolean b) read h = (IsFaultOfValue.wrong_shape refl refl, λ order. array_none w (boolean b) refl)
list_tells w (number n) read h = (IsFaultOfValue.wrong_shape refl refl, λ order. array_none w (number n) refl)
list_tells w (string s) read h = (IsFaultOfValue.wrong_shape refl refl, λ order. array_none w (string s) refl)
list_tells w (array ds) read h =
    items_tell w ds _ (from_tells (λ i. IsFaultOfValue w) (λ i. read) 0 ds λ i e below. h e below)
list_tells w (object ms) read h = (IsFaultOfValue.wrong_shape refl refl, λ order. array_none w (object ms) refl)

-- ---- the alternatives of a rule

-- an alternative is one of the first 2 ^ 32 and has a fault, or it isn't
abbrev pub AlternativeFault : Wanted → ℕ → Data → Fault → Type 0
AlternativeFault w i d f = ((i < 2 ^ 32) × IsFaultOfValue w d f) ⊎ ((2 ^ 32 ≤ i) × (f ≡ here fault.WrongShape))

alternatives_none : (w : Wanted) (d : Data) → as_array d ≡ None → (g : Fault) → IsFaultOfValue (Wanted.alternatives w) d g
    → IsNotBefore (here fault.WrongShape) g
alternatives_none w null none g (IsFaultOfValue.wrong_shape a b) = inl b
alternatives_none w null none g (IsFaultOfValue.in_alternatives i e q at low h is) = absurd (cc)
alternatives_none w null none g (IsFaultOfValue.too_many i e at high is) = absurd (cc)
alternatives_none w (boolean x) none g (IsFaultOfValue.wrong_shape a b) = inl b
alternatives_none w (boolean x) none g (IsFaultOfValue.in_alternatives i e q at low h is) = absurd (cc)
alternatives_none w (boolean x) none g (IsFaultOfValue.too_many i e at high is) = absurd (cc)
alternatives_none w (number x) none g (IsFaultOfValue.wrong_shape a b) = inl b
alternatives_none w (number x) none g (IsFaultOfValue.in_alternatives i e q at low h is) = absurd (cc)
alternatives_none w (number x) none g (IsFaultOfValue.too_many i e at high is) = absurd (cc)
alternatives_none w (string x) none g (IsFaultOfValue.wrong_shape a b) = inl b
alternatives_none w (string x) none g (IsFaultOfValue.in_alternatives i e q at low h is) = absurd (cc)
alternatives_none w (string x) none g (IsFaultOfValue.too_many i e at high is) = absurd (cc)
alternatives_none w (array x) none g h = absurd (cc)
alternatives_none w (object x) none g (IsFaultOfValue.wrong_shape a b) = inl b
alternatives_none w (object x) none g (IsFaultOfValue.in_alternatives i e q at low h is) = absurd (cc)
alternatives_none w (object x) none g (IsFaultOfValue.too_many i e at high is) = absurd (cc)

alternatives_tell_all : {A : Type 0} (w : Wanted) (ds : Items) (r : Result A Fault)
    → TellsOf (AreItemsInOrder ds) (FaultFrom (AlternativeFault w) 0 ds) r
    → Tells (Wanted.alternatives w) (array ds) r
alternatives_tell_all w ds r h =
    tells_same (AreItemsInOrder ds) (FaultFrom (AlternativeFault w) 0 ds) (IsFaultOfValue (Wanted.alternatives w) (array ds)) r
    (λ f q. to f (of_from (AlternativeFault w) 0 ds f q)) from h
  where
    by_place : (f : Fault) (j k : ℕ) (e : Data) (g : Fault) → get_item j ds ≡ Some e → k ≡ j → AlternativeFault w k e g
        → f ≡ inside (step.Index k) g
        → IsFaultOfValue (Wanted.alternatives w) (array ds) f
    by_place f j k e g at index (inl h) is =
        IsFaultOfValue.in_alternatives j e g at (omega (arith, index, h.0)) h.1 (is ∙ ap (λ x. inside (step.Index x) g) index)
    by_place f j k e g at index (inr h) is =
        IsFaultOfValue.too_many j e at (omega (arith, index, h.0))
        (is ∙ ap (λ x. inside (step.Index x) g) index ∙ ap (inside (step.Index j)) h.1)

    to : (f : Fault) → AtIndex (AlternativeFault w) 0 ds f → IsFaultOfValue (Wanted.alternatives w) (array ds) f
    to f at = by_place f at.0 at.1 at.2 at.3 at.4 (omega (arith, at.5)) at.6 at.7

    from : (f : Fault) → IsFaultOfValue (Wanted.alternatives w) (array ds) f → FaultFrom (AlternativeFault w) 0 ds f
    from f (IsFaultOfValue.wrong_shape a b) = absurd (cc)
    from f (IsFaultOfValue.in_alternatives i e g at low h is) =
        to_from (AlternativeFault w) 0 i i ds e f g at (omega arith) (inl (low, h)) is
    from f (IsFaultOfValue.too_many i e at high is) =
        to_from (AlternativeFault w) 0 i i ds e f (here fault.WrongShape) at (omega arith) (inr (high, refl)) is

-- where reading tells the faults of each alternative at its index, reading the list tells those of the list
pub alternatives_tell : {A : Type 0} (w : Wanted) (d : Data) (read : ℕ → Data → Result A Fault)
    → ((i : ℕ) (e : Data) → depth e < depth d → TellsOf (HasKeysInOrder e) (AlternativeFault w i e) (read i e))
    → Tells (Wanted.alternatives w) d (list_at read d)
unfolding list_at
alternatives_tell w null read h = (IsFaultOfValue.wrong_shape refl refl, λ order. alternatives_none w null refl)
alternatives_tell w (boolean b) read h = (IsFaultOfValue.wrong_shape refl refl, λ order. alternatives_none w (boolean b) refl)
alternatives_tell w (number n) read h = (IsFaultOfValue.wrong_shape refl refl, λ order. alternatives_none w (number n) refl)
alternatives_tell w (string s) read h = (IsFaultOfValue.wrong_shape refl refl, λ order. alternatives_none w (string s) refl)
alternatives_tell w (array ds) read h =
    alternatives_tell_all w ds _ (from_tells (AlternativeFault w) read 0 ds λ i e below. h i e below)
alternatives_tell w (object ms) read h = (IsFaultOfValue.wrong_shape refl refl, λ order. alternatives_none w (object ms) refl)
