-- Reading an object field by field tells its first fault; for the readers of all forms.
use Rattle.std.proofs.Common.{◌≡◌, ℕ, ◌<◌, List, [], ◌∷◌, Option, Some, Result, Ok, Err, true}
use Rattle.std.proofs.Common.{refl, sym, ◌∙◌, inl, inr, ◌⊎◌, subst}
use Rattle.std.specs.Ordering.{match_ordering, nat_cmp}
use Rattle.std.specs.Cmp.Lexicographic.{slice_cmp}
use Rattle.std.proofs.Common.{Ordering, Less, Equal, Greater}
use Rattle.serde_json.specs.Data.{Data, null, boolean, number, string, array, object, Members, no_members, member, depth}
use Rattle.serde_json.specs.Find.{get, get_member}
use Rattle.lalrpop_json_values.specs.declared.fault.Fault.{Fault}
use Rattle.lalrpop_json_values.specs.declared.fault.Step.TheVariants as step
use Rattle.lalrpop_json_values.specs.declared.key.Key.{Key}
use Rattle.lalrpop_json_values.specs.Gives.{◌>>=◌, required_value, within}
use Rattle.lalrpop_json_values.specs.Key.{key_text}
use Rattle.lalrpop_json_values.specs.Objects.{field_at}
use Rattle.lalrpop_json_values.specs.Objects.{member_at}
use Rattle.lalrpop_json_values.proofs.NestingLemmas.{below_member}
use Rattle.lalrpop_json_grammar.specs.Faults.{IsFaultOfValue, IsAmong, inside}
use Rattle.lalrpop_json_grammar.specs.Order.{AreMembersInOrder, FaultComesBefore, HasKeysInOrder}
use Rattle.lalrpop_json_grammar.specs.Telling.{keys_of_layout}
use Rattle.lalrpop_json_grammar.specs.Wanted.{Layout, Wanted}
use Rattle.lalrpop_json_grammar.proofs.OrderLemmas.{IsNotBefore, are_in_order, before_all, inside_after, is_before_all}
use Rattle.lalrpop_json_grammar.proofs.OrderLemmas.{order_head, order_tail, step_before}

-- A reading against the faults that there are: it goes well where there is none, else it tells one of them, and under the premise
-- the first.
abbrev pub TellsOf : {A : Type 0} → Type 0 → (Fault → Type 0) → Result A Fault → Type 0
TellsOf P F (Ok x) = (f : Fault) → F f → ⊥
TellsOf P F (Err f) = F f × (P → (g : Fault) → F g → IsNotBefore f g)

-- the same, of all faults at a place
abbrev pub Tells : {A : Type 0} → Wanted → Data → Result A Fault → Type 0
Tells w d r = TellsOf (HasKeysInOrder d) (IsFaultOfValue w d) r

-- what is made of what was read changes no fault
pub tells_then : {A B : Type 0} (P : Type 0) (F : Fault → Type 0) (make : A → B) (r : Result A Fault) → TellsOf P F r
    → TellsOf P F (r >>= λ x. Ok (make x))
tells_then P F make (Ok x) h = h
tells_then P F make (Err f) h = h

-- the same faults by another name
pub tells_same : {A : Type 0} (P : Type 0) (F G : Fault → Type 0) (r : Result A Fault) → ((f : Fault) → F f → G f)
    → ((f : Fault) → G f → F f) → TellsOf P F r → TellsOf P G r
tells_same P F G (Ok x) to from h = λ f g. h f (from f g)
tells_same P F G (Err e) to from h = (to e h.0, λ p g fault. h.1 p g (from g fault))

-- ---- what stands at a key

by_order : (r : Ordering) (d e : Data) (o : Option Data) → (o ≡ Some e → HasKeysInOrder e)
    → match_ordering r o (Some d) o ≡ Some e
    → HasKeysInOrder d → HasKeysInOrder e
by_order Less d e o rest h first = rest h
by_order Equal d e o rest h first = let same : d ≡ e = cc in subst HasKeysInOrder same first
by_order Greater d e o rest h first = rest h

-- the members of an object in order are in order
members_in : (k : List ℕ) (ms : Members) (e : Data) → get_member k ms ≡ Some e → AreMembersInOrder ms → HasKeysInOrder e
members_in k no_members e h o = absurd (cc)
members_in k (member l d ms) e h o =
    by_order (slice_cmp nat_cmp k l) d e (get_member k ms) (λ rest. members_in k ms e rest o.1) h o.0

-- what stands at a key of a value in order is in order
pub in_order_at : (k : List ℕ) (d e : Data) → get k d ≡ Some e → HasKeysInOrder d → HasKeysInOrder e
in_order_at k null e h o = absurd (cc)
in_order_at k (boolean b) e h o = absurd (cc)
in_order_at k (number n) e h o = absurd (cc)
in_order_at k (string s) e h o = absurd (cc)
in_order_at k (array ds) e h o = absurd (cc)
in_order_at k (object ms) e h o = members_in k ms e h o.1

required : {A : Type 0} (o : Option A) (x : A) → o ≡ Some x → required_value o ≡ Ok x
required o x e = rw e refl

pub below_key : (k : Key) (d e : Data) → get (key_text k) d ≡ Some e → depth e < depth d
unfolding member_at
below_key k d e h = below_member k d e (required (get (key_text k) d) e h)

-- ---- field by field

-- a fault of what stands at a key of the layout
abbrev pub FieldFault : Layout → Data → Fault → Type 0
FieldFault [] d f = ⊥
FieldFault (m ∷ ms) d f =
    ((e : Data) × (g : Fault) × (get (key_text m.0) d ≡ Some e) × IsFaultOfValue m.1 e g × (f ≡ inside (step.Key m.0) g))
    ⊎ FieldFault ms d f

-- a value stands at each key
abbrev pub AreThere : List Key → Data → Type 0
AreThere [] d = Unit {0}
AreThere (k ∷ ks) d = ((e : Data) × (get (key_text k) d ≡ Some e)) × AreThere ks d

-- a reading of these fields in turn, where the keys are there
pub record TellsFields {A : Type 0} (form : Layout) (d : Data) (r : Result A Fault) : Type 0 where
  pub tells : are_in_order (keys_of_layout form) ≡ true → AreThere (keys_of_layout form) d
      → TellsOf (HasKeysInOrder d) (FieldFault form d) r

-- where all fields are read
pub done : {A : Type 0} {d : Data} {x : A} → TellsFields [] d (Ok x)
done = record { tells = λ order there f h. h }

field_key : (form : Layout) (d : Data) (f : Fault) → FieldFault form d f
    → (k : Key) × (g : Fault) × IsAmong (keys_of_layout form) k × (f ≡ inside (step.Key k) g)
field_key [] d f h = absurd h
field_key (m ∷ ms) d f (inl h) = (m.0, h.1, inl refl, h.4)
field_key (m ∷ ms) d f (inr h) = let rest = field_key ms d f h in (rest.0, rest.1, inr rest.2, rest.3)

some_same : {A : Type 0} (o : Option A) (x y : A) → o ≡ Some x → o ≡ Some y → x ≡ y
some_same {A = A} o x y a b = let e : ◌≡◌ {A = Option A} (Some x) (Some y) = sym a ∙ b in cc

module _ (k : Key) (w : Wanted) (form : Layout) (d e : Data) (there : get (key_text k) d ≡ Some e)
    (before : is_before_all k (keys_of_layout form) ≡ true) where
  behind : (f g : Fault) → FieldFault form d g → FaultComesBefore (inside (step.Key k) f) g
  behind f g h =
      let at = field_key form d g h in
      rw at.3 (step_before (step.Key k) (step.Key at.0) f at.1 (before_all k (keys_of_layout form) before at.0 at.2))

  own : (g : Fault)
      → (x : Data) × (q : Fault) × (get (key_text k) d ≡ Some x) × IsFaultOfValue w x q × (g ≡ inside (step.Key k) q)
      → (q : Fault) × IsFaultOfValue w e q × (g ≡ inside (step.Key k) q)
  own g h = (h.1, subst (λ x. IsFaultOfValue w x h.1) (some_same (get (key_text k) d) h.0 e h.2 there) h.3, h.4)

  rest_tells : {B : Type 0} (r : Result B Fault) → ((q : Fault) → IsFaultOfValue w e q → ⊥)
      → TellsOf (HasKeysInOrder d) (FieldFault form d) r
      → TellsOf (HasKeysInOrder d) (FieldFault ((k, w) ∷ form) d) r
  rest_tells (Ok y) none h = λ f fault. by f fault
    where
      by : (f : Fault) → FieldFault ((k, w) ∷ form) d f → ⊥
      by f (inl own_fault) = let q = own f own_fault in none q.0 q.1
      by f (inr rest) = h f rest
  rest_tells (Err f) none h = (inr h.0, λ order g fault. by order g fault)
    where
      by : HasKeysInOrder d → (g : Fault) → FieldFault ((k, w) ∷ form) d g → IsNotBefore f g
      by order g (inl own_fault) = let q = own g own_fault in absurd (none q.0 q.1)
      by order g (inr rest) = h.1 order g rest

  own_tells : {A B : Type 0} (r : Result A Fault) (cont : A → Result B Fault) → Tells w e r
      → ((x : A) → TellsOf (HasKeysInOrder d) (FieldFault form d) (cont x))
      → TellsOf (HasKeysInOrder d) (FieldFault ((k, w) ∷ form) d) (within (step.Key k) r >>= cont)
  own_tells (Ok x) cont h rest = rest_tells (cont x) h (rest x)
  own_tells (Err f) cont h rest = (inl (e, f, there, h.0, refl), λ order g fault. by order g fault)
    where
      by : HasKeysInOrder d → (g : Fault) → FieldFault ((k, w) ∷ form) d g → IsNotBefore (inside (step.Key k) f) g
      by order g (inl own_fault) =
          let q = own g own_fault in
          rw q.2 (inside_after (step.Key k) f q.0 (h.1 (in_order_at (key_text k) d e there order) q.0 q.1))
      by order g (inr rest) = inr (behind f g rest)

  field_is : {A B : Type 0} (read : Data → Result A Fault) (cont : A → Result B Fault)
      → (field_at k read d >>= cont) ≡ (within (step.Key k) (read e) >>= cont)
  unfolding field_at
  field_is read cont = rw there refl

-- one field, and then the others
pub field : {A B : Type 0} {k : Key} {w : Wanted} {form : Layout} {d : Data} (read : Data → Result A Fault)
    (cont : A → Result B Fault) → ((e : Data) → depth e < depth d → Tells w e (read e))
    → ((x : A) → TellsFields form d (cont x)) → TellsFields ((k, w) ∷ form) d (field_at k read d >>= cont)
field {k = k} {w = w} {form = form} {d = d} read cont tells rest = record { tells = λ order there. by order there }
  where
    by : are_in_order (k ∷ keys_of_layout form) ≡ true → AreThere (k ∷ keys_of_layout form) d
        → TellsOf (HasKeysInOrder d) (FieldFault ((k, w) ∷ form) d) (field_at k read d >>= cont)
    by order there =
        let before = order_head k (keys_of_layout form) order in
        let e = there.0.0 in
        let found = there.0.1 in
        rw (field_is k w form d e found before read cont)
        (own_tells k w form d e found before (read e) cont (tells e (below_key k d e found))
        λ x. (rest x).tells (order_tail k (keys_of_layout form) order) there.1)
