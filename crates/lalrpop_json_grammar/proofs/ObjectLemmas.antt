-- Reading the keys of an object tells its first fault; for the readers of all forms.
use Rattle.std.proofs.Common.{◌≡◌, ℕ, List, [], ◌∷◌, Option, Some, None, Result, Ok, Err, Bool, true, false}
use Rattle.std.proofs.Common.{refl, ap, sym, ◌∙◌, cond, inl, inr, ◌⊎◌, is_some, subst}
use Rattle.std.proofs.Common.{Ordering, Less, Equal, Greater}
use Rattle.std.specs.Prelude.{⊤}
use Rattle.std.specs.Str.{bytes_eq}
use Rattle.std.specs.Ordering.{match_ordering, nat_cmp}
use Rattle.std.specs.Cmp.Lexicographic.{same_text, slice_cmp}
use Rattle.serde_json.specs.Data.{Data, null, boolean, number, string, array, object, Members, no_members, member}
use Rattle.serde_json.specs.Find.{get, get_member, as_object}
use Rattle.lalrpop_json_values.specs.declared.fault.Fault.{Fault}
use Rattle.lalrpop_json_values.specs.declared.fault.FaultKind.TheVariants as fault
use Rattle.lalrpop_json_values.specs.declared.fault.Step.TheVariants as step
use Rattle.lalrpop_json_values.specs.declared.key.Key.{Key}
use Rattle.lalrpop_json_values.specs.Gives.{◌>>=◌, here}
use Rattle.lalrpop_json_values.specs.Key.{key_text}
use Rattle.lalrpop_json_values.specs.Objects.{are_named, first_missing, first_unknown, is_listed, keys_at, keys_fault, names}
use Rattle.lalrpop_json_grammar.specs.Faults.{IsFaultIn, IsFaultOfValue, IsAmong, inside}
use Rattle.lalrpop_json_grammar.specs.Order.{AreRising, HasKeysInOrder, text_order}
use Rattle.lalrpop_json_grammar.specs.Telling.{keys_of_layout}
use Rattle.lalrpop_json_grammar.specs.Wanted.{Layout, Wanted}
use Rattle.lalrpop_json_grammar.proofs.OrderLemmas.{IsNotBefore, all_before, are_in_order, before_all, order_head, order_tail}
use Rattle.lalrpop_json_grammar.proofs.OrderLemmas.{text_itself}
use Rattle.lalrpop_json_grammar.proofs.NamedLemmas.{head_named, member_stands, named_rising, rising_named}
use Rattle.lalrpop_json_grammar.proofs.FieldLemmas.{AreThere, FieldFault, TellsFields, TellsOf, tells_same}

-- ---- an object with just these keys

found_by : (r : Ordering) (d : Data) (o : Option Data) → (r ≡ Equal) ⊎ ((e : Data) × (o ≡ Some e))
    → (e : Data) × (match_ordering r o (Some d) o ≡ Some e)
found_by Less d o (inl h) = absurd (cc)
found_by Less d o (inr h) = h
found_by Equal d o h = (d, refl)
found_by Greater d o (inl h) = absurd (cc)
found_by Greater d o (inr h) = h

-- what is a name of an object has a value there
named_found : (l : List ℕ) (ms : Members) → IsAmong (names ms) l → (e : Data) × (get_member l ms ≡ Some e)
named_found l no_members h = absurd h
named_found l (member m d ms) (inl e) =
    found_by (slice_cmp nat_cmp l m) d (get_member l ms) (inl (ap (λ x. text_order l x) (sym e) ∙ text_itself l))
named_found l (member m d ms) (inr h) = found_by (slice_cmp nat_cmp l m) d (get_member l ms) (inr (named_found l ms h))

named_stands : (ks : List Key) (ls : List (List ℕ)) → are_named ks ls ≡ true → (k : Key) → IsAmong ks k
    → IsAmong ls (key_text k)
named_stands [] ls h k s = absurd s
named_stands (m ∷ ms) [] h k s = absurd (cc)
named_stands (m ∷ ms) (l ∷ ls) h k (inl e) =
    let first = head_named (bytes_eq (key_text m) l) (are_named ms ls) h in
    inl (ap key_text e ∙ same_text (key_text m) l (sym first.0))
named_stands (m ∷ ms) (l ∷ ls) h k (inr s) =
    let first = head_named (bytes_eq (key_text m) l) (are_named ms ls) h in
    inr (named_stands ms ls first.1 k s)

or_true : (b : Bool) → cond b true true ≡ true
or_true true = refl
or_true false = refl

named_listed : (ks : List Key) (ls : List (List ℕ)) → are_named ks ls ≡ true → (l : List ℕ) → IsAmong ls l
    → is_listed ks l ≡ true
named_listed ks [] h l s = absurd s
named_listed [] (m ∷ ls) h l s = absurd (cc)
named_listed (k ∷ ks) (m ∷ ls) h l (inl e) =
    let first = head_named (bytes_eq (key_text k) m) (are_named ks ls) h in
    rw e (rw first.0 refl)
named_listed (k ∷ ks) (m ∷ ls) h l (inr s) =
    let first = head_named (bytes_eq (key_text k) m) (are_named ks ls) h in
    rw (named_listed ks ls first.1 l s) (or_true (bytes_eq (key_text k) l))

all_there : (ks : List Key) (d : Data) → ((k : Key) → IsAmong ks k → (e : Data) × (get (key_text k) d ≡ Some e)) → AreThere ks d
all_there [] d h = tt
all_there (k ∷ ks) d h = (h k (inl refl), all_there ks d (λ l s. h l (inr s)))

there_not : (ks : List Key) (d : Data) → AreThere ks d → (k : Key) → IsAmong ks k → get (key_text k) d ≡ None → ⊥
there_not [] d h k s none = s
there_not (m ∷ ms) d h k (inl e) none =
    let found : get (key_text k) d ≡ Some h.0.0 = ap (λ x. get (key_text x) d) e ∙ h.0.1 in absurd (cc)
there_not (m ∷ ms) d h k (inr s) none = there_not ms d h.1 k s none

-- ---- the first missing key

abbrev IsFirstMissing : List Key → Data → Option Key → Type 0
IsFirstMissing ks d None = (k : Key) → IsAmong ks k → get (key_text k) d ≡ None → ⊥
IsFirstMissing ks d (Some k) =
    IsAmong ks k × (get (key_text k) d ≡ None)
    × (are_in_order ks ≡ true → (l : Key) → IsAmong ks l → get (key_text l) d ≡ None → (l ≡ k)
    ⊎ (text_order (key_text k) (key_text l) ≡ Less))

missing_further : (k : Key) (ks : List Key) (d e : Data) (o : Option Key) → get (key_text k) d ≡ Some e → IsFirstMissing ks d o
    → IsFirstMissing (k ∷ ks) d o
missing_further k ks d e None found h = λ l s none. by l s none
  where
    by : (l : Key) → IsAmong (k ∷ ks) l → get (key_text l) d ≡ None → ⊥
    by l (inl same) none = let there : get (key_text l) d ≡ Some e = ap (λ x. get (key_text x) d) same ∙ found in absurd (cc)
    by l (inr s) none = h l s none
missing_further k ks d e (Some m) found h = (inr h.0, h.1, λ order l s none. by order l s none)
  where
    by : are_in_order (k ∷ ks) ≡ true → (l : Key) → IsAmong (k ∷ ks) l → get (key_text l) d ≡ None → (l ≡ m)
        ⊎ (text_order (key_text m) (key_text l) ≡ Less)
    by order l (inl same) none =
        let there : get (key_text l) d ≡ Some e = ap (λ x. get (key_text x) d) same ∙ found in absurd (cc)
    by order l (inr s) none = h.2 (order_tail k ks order) l s none

missing_step : (k : Key) (ks : List Key) (d : Data) (o : Option Data) → get (key_text k) d ≡ o
    → IsFirstMissing ks d (first_missing ks d)
    → IsFirstMissing (k ∷ ks) d (cond (is_some o) (first_missing ks d) (Some k))
missing_step k ks d (Some e) found h = missing_further k ks d e (first_missing ks d) found h
missing_step k ks d None none h = (inl refl, none, λ order l s gone. by order l s)
  where
    by : are_in_order (k ∷ ks) ≡ true → (l : Key) → IsAmong (k ∷ ks) l → (l ≡ k)
        ⊎ (text_order (key_text k) (key_text l) ≡ Less)
    by order l (inl e) = inl e
    by order l (inr s) = inr (before_all k ks (order_head k ks order) l s)

first_missing_is : (ks : List Key) (d : Data) → IsFirstMissing ks d (first_missing ks d)
first_missing_is [] d = λ k s none. s
first_missing_is (k ∷ ks) d = missing_step k ks d (get (key_text k) d) refl (first_missing_is ks d)

-- ---- the first unknown key

abbrev IsFirstUnknown : List Key → List (List ℕ) → Option (List ℕ) → Type 0
IsFirstUnknown ks ls None = (l : List ℕ) → IsAmong ls l → is_listed ks l ≡ false → ⊥
IsFirstUnknown ks ls (Some l) =
    IsAmong ls l × (is_listed ks l ≡ false)
    × (AreRising ls → (m : List ℕ) → IsAmong ls m → is_listed ks m ≡ false → (m ≡ l) ⊎ (text_order l m ≡ Less))

unknown_further : (ks : List Key) (l : List ℕ) (ls : List (List ℕ)) (o : Option (List ℕ)) → is_listed ks l ≡ true
    → IsFirstUnknown ks ls o → IsFirstUnknown ks (l ∷ ls) o
unknown_further ks l ls None listed h = λ m s none. by m s none
  where
    by : (m : List ℕ) → IsAmong (l ∷ ls) m → is_listed ks m ≡ false → ⊥
    by m (inl same) none = let there : is_listed ks m ≡ true = ap (is_listed ks) same ∙ listed in absurd (cc)
    by m (inr s) none = h m s none
unknown_further ks l ls (Some n) listed h = (inr h.0, h.1, λ order m s none. by order m s none)
  where
    by : AreRising (l ∷ ls) → (m : List ℕ) → IsAmong (l ∷ ls) m → is_listed ks m ≡ false
        → (m ≡ n) ⊎ (text_order n m ≡ Less)
    by order m (inl same) none = let there : is_listed ks m ≡ true = ap (is_listed ks) same ∙ listed in absurd (cc)
    by order m (inr s) none = h.2 order.1 m s none

unknown_step : (ks : List Key) (l : List ℕ) (ls : List (List ℕ)) (b : Bool) → is_listed ks l ≡ b
    → IsFirstUnknown ks ls (first_unknown ks ls)
    → IsFirstUnknown ks (l ∷ ls) (cond b (first_unknown ks ls) (Some l))
unknown_step ks l ls true e h = unknown_further ks l ls (first_unknown ks ls) e h
unknown_step ks l ls false e h = (inl refl, e, λ order m s none. by order m s)
  where
    by : AreRising (l ∷ ls) → (m : List ℕ) → IsAmong (l ∷ ls) m → (m ≡ l) ⊎ (text_order l m ≡ Less)
    by order m (inl same) = inl same
    by order m (inr s) = inr (all_before l ls order.0 m s)

first_unknown_is : (ks : List Key) (ls : List (List ℕ)) → IsFirstUnknown ks ls (first_unknown ks ls)
first_unknown_is ks [] = λ l s none. s
first_unknown_is ks (l ∷ ls) = unknown_step ks l ls (is_listed ks l) refl (first_unknown_is ks ls)

-- ---- the keys, and then the fields

-- a fault of a value of this form
abbrev pub FormFault : Layout → Data → Fault → Type 0
FormFault form d f =
    ((as_object d ≡ None) × (f ≡ here fault.WrongShape)) ⊎ ((ms : Members) × (d ≡ object ms) × IsFaultIn form d f)

no_object : (P : Type 0) (form : Layout) (d : Data) → as_object d ≡ None
    → FormFault form d (here fault.WrongShape) × (P → (g : Fault) → FormFault form d g → IsNotBefore (here fault.WrongShape) g)
no_object P form d none = (inl (none, refl), λ p g h. by g h)
  where
    by : (g : Fault) → FormFault form d g → IsNotBefore (here fault.WrongShape) g
    by g (inl h) = inl h.1
    by g (inr h) = let is : as_object d ≡ Some h.0 = ap as_object h.1 in absurd (cc)

stands_in_keys : (form : Layout) (k : Key) (w : Wanted) → IsAmong form (k, w) → IsAmong (keys_of_layout form) k
stands_in_keys [] k w s = s
stands_in_keys (m ∷ ms) k w (inl e) = inl (ap (λ x. x.0) e)
stands_in_keys (m ∷ ms) k w (inr s) = inr (stands_in_keys ms k w s)

to_field : (form : Layout) (d : Data) (f : Fault) (k : Key) (w : Wanted) (e : Data) (g : Fault) → IsAmong form (k, w)
    → get (key_text k) d ≡ Some e → IsFaultOfValue w e g → f ≡ inside (step.Key k) g → FieldFault form d f
to_field [] d f k w e g s found h is = absurd s
to_field (m ∷ ms) d f k w e g (inl same) found h is =
    inl (
      e,
      g,
      subst (λ x. get (key_text x.0) d ≡ Some e) same found,
      subst (λ x. IsFaultOfValue x.1 e g) same h,
      subst (λ x. f ≡ inside (step.Key x.0) g) same is,
    )
to_field (m ∷ ms) d f k w e g (inr s) found h is = inr (to_field ms d f k w e g s found h is)

abbrev AtKey : Layout → Data → Fault → Type 0
AtKey form d f =
    (k : Key) × (w : Wanted) × (e : Data) × (g : Fault) × IsAmong form (k, w) × (get (key_text k) d ≡ Some e) × IsFaultOfValue w e g
    × (f ≡ inside (step.Key k) g)

from_field : (form : Layout) (d : Data) (f : Fault) → FieldFault form d f → AtKey form d f
from_field [] d f h = absurd h
from_field (m ∷ ms) d f (inl h) = (m.0, m.1, h.0, h.1, inl refl, h.2, h.3, h.4)
from_field (m ∷ ms) d f (inr h) = let at = from_field ms d f h in (at.0, at.1, at.2, at.3, inr at.4, at.5, at.6, at.7)

module _ (form : Layout) (ms : Members) where
  at_field : (f : Fault) → FieldFault form (object ms) f → IsFaultIn form (object ms) f
  at_field f h = let at = from_field form (object ms) f h in IsFaultIn.at_key at.0 at.1 at.2 at.3 at.4 at.5 at.6 at.7

  only_fields : are_in_order (keys_of_layout form) ≡ true → are_named (keys_of_layout form) (names ms) ≡ true
      → AreThere (keys_of_layout form) (object ms) → (f : Fault)
      → IsFaultIn form (object ms) f
      → FieldFault form (object ms) f
  only_fields order named there f (IsFaultIn.missing k s none e) = absurd (there_not (keys_of_layout form) (object ms) there k s none)
  only_fields order named there f (IsFaultIn.unknown ns l same s none e) =
      let is : ms ≡ ns = cc in
      let listed = named_listed (keys_of_layout form) (names ms) named l (rw is s) in
      absurd (cc)
  only_fields order named there f (IsFaultIn.disordered ns same wild e) =
      let is : ms ≡ ns = cc in
      let rising = named_rising (keys_of_layout form) (names ms) order named in
      absurd (wild (subst (λ x. AreRising (names x)) is rising))
  only_fields order named there f (IsFaultIn.at_key k w e g s found h is) = to_field form (object ms) f k w e g s found h is

  -- just these keys, in order
  named_tells : {A : Type 0} (r : Result A Fault) → are_in_order (keys_of_layout form) ≡ true
      → are_named (keys_of_layout form) (names ms) ≡ true → TellsFields form (object ms) r
      → TellsOf (HasKeysInOrder (object ms)) (FormFault form (object ms)) r
  named_tells r order named tells =
      let there = all_there (keys_of_layout form) (object ms) (λ k s. named_found (key_text k) ms
      (named_stands (keys_of_layout form) (names ms) named k s)) in
      tells_same (HasKeysInOrder (object ms)) (FieldFault form (object ms)) (FormFault form (object ms)) r
      (λ f h. inr (ms, refl, at_field f h))
      (λ f h. back there f h)
      (tells.tells order there)
    where
      back : AreThere (keys_of_layout form) (object ms) → (f : Fault) → FormFault form (object ms) f
          → FieldFault form (object ms) f
      back there f (inl h) = let none : ◌≡◌ {A = Option Members} (Some ms) None = h.0 in absurd (cc)
      back there f (inr h) = only_fields order named there f h.2

  -- a key is missing
  missing_first : are_in_order (keys_of_layout form) ≡ true → (k : Key)
      → IsFirstMissing (keys_of_layout form) (object ms) (Some k)
      → (g : Fault) → IsFaultIn form (object ms) g → IsNotBefore (here (fault.MissingKey k)) g
  missing_first order k first g (IsFaultIn.missing l s none e) = by (first.2 order l s none)
    where
      by : (l ≡ k) ⊎ (text_order (key_text k) (key_text l) ≡ Less) → IsNotBefore (here (fault.MissingKey k)) g
      by (inl same) = inl (e ∙ ap (λ x. here (fault.MissingKey x)) same)
      by (inr less) = inr (rw e (rw less refl))
  missing_first order k first g (IsFaultIn.unknown ns l same s none e) = inr (rw e refl)
  missing_first order k first g (IsFaultIn.disordered ns same wild e) = inr (rw e refl)
  missing_first order k first g (IsFaultIn.at_key l w e q s found h same) = inr (rw same refl)

  -- none is missing, and one is unknown
  unknown_first : IsFirstMissing (keys_of_layout form) (object ms) None → (l : List ℕ)
      → IsFirstUnknown (keys_of_layout form) (names ms) (Some l) → AreRising (names ms) → (g : Fault) → IsFaultIn form (object ms) g
      → IsNotBefore (here (fault.UnknownKey l)) g
  unknown_first all l first rising g (IsFaultIn.missing k s none e) = absurd (all k s none)
  unknown_first all l first rising g (IsFaultIn.unknown ns m same s none e) =
      let names_are : ms ≡ ns = cc in by (first.2 rising m (rw names_are s) none)
    where
      by : (m ≡ l) ⊎ (text_order l m ≡ Less) → IsNotBefore (here (fault.UnknownKey l)) g
      by (inl equal) = inl (e ∙ ap (λ x. here (fault.UnknownKey x)) equal)
      by (inr less) = inr (rw e (rw less refl))
  unknown_first all l first rising g (IsFaultIn.disordered ns same wild e) = inr (rw e refl)
  unknown_first all l first rising g (IsFaultIn.at_key k w e q s found h same) = inr (rw same refl)

  -- none is missing and none unknown
  disorder_first : IsFirstMissing (keys_of_layout form) (object ms) None
      → IsFirstUnknown (keys_of_layout form) (names ms) None → (g : Fault) → IsFaultIn form (object ms) g
      → IsNotBefore (here fault.WrongShape) g
  disorder_first all none g (IsFaultIn.missing k s gone e) = absurd (all k s gone)
  disorder_first all none g (IsFaultIn.unknown ns m same s gone e) =
      let names_are : ms ≡ ns = cc in absurd (none m (rw names_are s) gone)
  disorder_first all none g (IsFaultIn.disordered ns same wild e) = inl e
  disorder_first all none g (IsFaultIn.at_key k w e q s found h same) = inr (rw same refl)

  in_object : (f : Fault) → ((g : Fault) → IsFaultIn form (object ms) g → IsNotBefore f g) → (g : Fault)
      → FormFault form (object ms) g → IsNotBefore f g
  in_object f h g (inl other) = let none : ◌≡◌ {A = Option Members} (Some ms) None = other.0 in absurd (cc)
  in_object f h g (inr fault) = h g fault.2

  -- a value in order that lacks no key and has no unknown one has just the form's keys
  is_wild : are_in_order (keys_of_layout form) ≡ true → are_named (keys_of_layout form) (names ms) ≡ false
      → IsFirstMissing (keys_of_layout form) (object ms) None
      → IsFirstUnknown (keys_of_layout form) (names ms) None → AreRising (names ms) → ⊥
  is_wild order other all none rising =
      let named = rising_named (keys_of_layout form) (names ms) order rising
      (λ k s. stands k (get_member (key_text k) ms) refl (all k s))
      (λ l s. listed l (is_listed (keys_of_layout form) l) refl (none l s)) in
      absurd (cc)
    where
      stands : (k : Key) (o : Option Data) → get_member (key_text k) ms ≡ o
          → (get (key_text k) (object ms) ≡ None → ⊥)
          → IsAmong (names ms) (key_text k)
      stands k None is not_none = absurd (not_none is)
      stands k (Some e) is not_none = member_stands (key_text k) ms e is

      listed : (l : List ℕ) (b : Bool) → is_listed (keys_of_layout form) l ≡ b
          → (is_listed (keys_of_layout form) l ≡ false → ⊥)
          → is_listed (keys_of_layout form) l ≡ true
      listed l true is not_false = is
      listed l false is not_false = absurd (not_false is)

  -- other keys
  unnamed_tells : (order : are_in_order (keys_of_layout form) ≡ true) → are_named (keys_of_layout form) (names ms) ≡ false
      → (o : Option Key) → IsFirstMissing (keys_of_layout form) (object ms) o
      → (u : Option (List ℕ)) → IsFirstUnknown (keys_of_layout form) (names ms) u
      → FormFault form (object ms) (here (keys_fault o u)) × (HasKeysInOrder (object ms) → (g : Fault) → FormFault form (object ms) g
      → IsNotBefore (here (keys_fault o u)) g)
  unnamed_tells order other (Some k) missing u unknown = (
    inr (ms, refl, IsFaultIn.missing k missing.0 missing.1 refl),
    λ rising. in_object (here (fault.MissingKey k)) (missing_first order k missing),
  )
  unnamed_tells order other None missing (Some l) unknown = (
    inr (ms, refl, IsFaultIn.unknown ms l refl unknown.0 unknown.1 refl),
    λ rising. in_object (here (fault.UnknownKey l)) (unknown_first missing l unknown rising.0),
  )
  unnamed_tells order other None missing None unknown = (
    inr (ms, refl, IsFaultIn.disordered ms refl (is_wild order other missing unknown) refl),
    λ rising. in_object (here fault.WrongShape) (disorder_first missing unknown),
  )

  keyed_tells : {A : Type 0} (r : Result A Fault) (b : Bool) → are_named (keys_of_layout form) (names ms) ≡ b
      → are_in_order (keys_of_layout form) ≡ true → TellsFields form (object ms) r
      → TellsOf (HasKeysInOrder (object ms)) (FormFault form (object ms))
      (cond b (Ok tt) (Err (here (keys_fault (first_missing (keys_of_layout form) (object ms))
      (first_unknown (keys_of_layout form) (names ms))))) >>= λ (u : ⊤). r)
  keyed_tells r true named order tells = named_tells r order named tells
  keyed_tells r false other order tells =
      unnamed_tells order other (first_missing (keys_of_layout form) (object ms))
      (first_missing_is (keys_of_layout form) (object ms))
      (first_unknown (keys_of_layout form) (names ms))
      (first_unknown_is (keys_of_layout form) (names ms))

-- the keys of a form, and then its fields
pub object_tells : {A : Type 0} (form : Layout) (d : Data) (r : Result A Fault) → are_in_order (keys_of_layout form) ≡ true
    → TellsFields form d r → TellsOf (HasKeysInOrder d) (FormFault form d) (keys_at (keys_of_layout form) d >>= λ (u : ⊤). r)
unfolding keys_at
object_tells form null r order tells = no_object (HasKeysInOrder null) form null refl
object_tells form (boolean b) r order tells = no_object (HasKeysInOrder (boolean b)) form (boolean b) refl
object_tells form (number n) r order tells = no_object (HasKeysInOrder (number n)) form (number n) refl
object_tells form (string s) r order tells = no_object (HasKeysInOrder (string s)) form (string s) refl
object_tells form (array ds) r order tells = no_object (HasKeysInOrder (array ds)) form (array ds) refl
object_tells form (object ms) r order tells = keyed_tells form ms r (are_named (keys_of_layout form) (names ms)) refl order tells
