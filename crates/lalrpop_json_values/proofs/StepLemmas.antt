-- Steps of a reading that went well, for the laws of the format.
use Rattle.std.proofs.Common.{◌≡◌, ℕ, List, [], ◌∷◌, Option, Some, None, Result, Ok, Err, Bool, true, false, cond, refl, ap}
use Rattle.std.specs.Prelude.{⊤}
use Rattle.std.specs.Str.{bytes_eq}
use Rattle.std.specs.Cmp.Lexicographic.{same_text}
use Rattle.serde_json.specs.Data.{Data, null, boolean, number, string, array, object, Members, no_members, member}
use Rattle.lalrpop_json_values.specs.declared.fault.Fault.{Fault}
use Rattle.lalrpop_json_values.specs.declared.fault.Step.{Step}
use Rattle.lalrpop_json_values.specs.declared.key.Key.{Key}
use Rattle.lalrpop_json_values.specs.Gives.{◌>>=◌, required_value, within}
use Rattle.lalrpop_json_values.specs.Key.{key_text}
use Rattle.lalrpop_json_values.specs.Objects.{are_named, keys_at, names}

-- where two readings in turn go well, the first gives what the second goes on with
pub bind_ok : {A B : Type 0} (r : Result A Fault) (f : A → Result B Fault) (y : B) → (r >>= f) ≡ Ok y → (x : A) × (r ≡ Ok x)
    × (f x ≡ Ok y)
bind_ok (Ok x) f y e = (x, refl, e)
bind_ok (Err g) f y e = absurd (cc)

-- one part of an object or a list
pub part_ok : {A B : Type 0} (s : Step) (r : Result A Fault) (f : A → Result B Fault) (y : B) → (within s r >>= f) ≡ Ok y → (x : A)
    × (r ≡ Ok x) × (f x ≡ Ok y)
part_ok s (Ok x) f y e = (x, refl, e)
part_ok s (Err g) f y e = absurd (cc)

-- the same, handed on
pub part : {A B C : Type 0} (s : Step) (r : Result A Fault) (f : A → Result B Fault) (y : B) → (within s r >>= f) ≡ Ok y
    → ((x : A) → r ≡ Ok x → f x ≡ Ok y → C) → C
part s (Ok x) f y e next = next x refl e
part s (Err g) f y e next = absurd (cc)

-- where a check goes well, its test holds and it gives what was checked
pub guard_ok : {A : Type 0} (b : Bool) (d : Fault) (x y : A) → cond b (Ok x) (Err d) ≡ Ok y → (b ≡ true) × (x ≡ y)
guard_ok true d x y e = (refl, cc)
guard_ok false d x y e = absurd (cc)

-- what has to be there and is read was there
pub required_ok : {A : Type 0} (o : Option A) (x : A) → required_value o ≡ Ok x → o ≡ Some x
required_ok None x e = absurd (cc)
required_ok (Some y) x e = let same : y ≡ x = cc in ap Some same

-- two readings that go well and are equal give the same
pub ok_same : {A : Type 0} (x y : A) → ◌≡◌ {A = Result A Fault} (Ok x) (Ok y) → x ≡ y
ok_same x y e = cc

-- ---- objects

-- a value for each key
abbrev pub Fields : List Key → Type 0
Fields [] = Unit {0}
Fields (k ∷ ks) = Data × Fields ks

-- the members with these keys and these values
abbrev pub filled : (ks : List Key) → Fields ks → Members
filled [] fields = no_members
filled (k ∷ ks) fields = member (key_text k) fields.0 (filled ks fields.1)

named_step : (k : Key) (ks : List Key) (l : List ℕ) (d : Data) (ms : Members) (b : Bool) → b ≡ bytes_eq (key_text k) l
    → (are_named ks (names ms) ≡ true → (fields : Fields ks) × (ms ≡ filled ks fields))
    → cond b (are_named ks (names ms)) false ≡ true → (fields : Fields (k ∷ ks)) × (member l d ms ≡ filled (k ∷ ks) fields)
named_step k ks l d ms true e rest h =
    let more = rest h in
    let named : key_text k ≡ l = same_text (key_text k) l e in
    ((d, more.0), rw (named, more.1) refl)
named_step k ks l d ms false e rest h = absurd (cc)

named_filled : (ks : List Key) (ms : Members) → are_named ks (names ms) ≡ true → (fields : Fields ks) × (ms ≡ filled ks fields)
named_filled [] no_members h = (tt, refl)
named_filled [] (member l d ms) h = absurd (cc)
named_filled (k ∷ ks) no_members h = absurd (cc)
named_filled (k ∷ ks) (member l d ms) h = named_step k ks l d ms (bytes_eq (key_text k) l) refl (named_filled ks ms) h

-- an object that has the keys has a value at each and nothing else
pub keys_ok : (ks : List Key) (d : Data) (u : ⊤) → keys_at ks d ≡ Ok u → (fields : Fields ks) × (d ≡ object (filled ks fields))
unfolding keys_at
keys_ok ks null u e = absurd (cc)
keys_ok ks (boolean b) u e = absurd (cc)
keys_ok ks (number n) u e = absurd (cc)
keys_ok ks (string s) u e = absurd (cc)
keys_ok ks (array ds) u e = absurd (cc)
keys_ok ks (object ms) u e =
    let named = guard_ok (are_named ks (names ms)) _ tt u e in
    let got = named_filled ks ms named.0 in
    (got.0, ap object got.1)

-- a reading that begins with the keys of an object
pub object_ok : {B : Type 0} (ks : List Key) (f : Data → Result B Fault) (P : Data → B → Type 0)
    → ((fields : Fields ks) (y : B) → f (object (filled ks fields)) ≡ Ok y → P (object (filled ks fields)) y)
    → (d : Data) (y : B) → (keys_at ks d >>= λ _. f d) ≡ Ok y → P d y
object_ok ks f P next d y e =
    let keyed = bind_ok (keys_at ks d) (λ _. f d) y e in
    let fields = keys_ok ks d keyed.0 keyed.1 in
    rw fields.1 (next fields.0 y (rw fields.1 at keyed.2))
