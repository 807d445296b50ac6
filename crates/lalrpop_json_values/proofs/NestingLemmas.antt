-- Values inside values: for the readers that call each other, and the laws of what they read.
use Rattle.std.proofs.Common.{◌≡◌, ℕ, zero, suc, ◌+◌, ◌<◌, ◌≤◌, max, List, [], ◌∷◌, length, get_or, Option}
use Rattle.std.proofs.Common.{Some, None, Ok, arith, refl, ap, Ordering, Less, Equal, Greater}
use Rattle.std.specs.Ordering.{nat_cmp, match_ordering}
use Rattle.std.specs.Cmp.Lexicographic.{slice_cmp}
use Rattle.serde_json.specs.Data.{Data, null, boolean, number, string, array, object, Items, no_items, item, Members, no_members, member}
use Rattle.serde_json.specs.Data.{depth, items_depth, members_depth}
use Rattle.serde_json.specs.Find.{get, get_member, as_array}
use Rattle.lalrpop_json_document.specs.DocumentViews.{view, items_view}
use Rattle.lalrpop_json_document.specs.declared.value.JsonValue.{JsonValue}
use Rattle.lalrpop_json_values.specs.declared.fault.Step.TheVariants as step
use Rattle.lalrpop_json_values.specs.declared.key.Key.{Key}
use Rattle.lalrpop_json_values.specs.Gives.{◌>>=◌, required_value, within}
use Rattle.lalrpop_json_values.specs.Key.{key_text}
use Rattle.lalrpop_json_values.specs.Lists.{list_at, list_from}
use Rattle.lalrpop_json_values.specs.Nested.{Reader, to_depth, nested_reader, AgreeBelow, IsInward}
use Rattle.lalrpop_json_values.specs.Objects.{field_at, member_at}
use Rattle.lalrpop_json_values.proofs.StepLemmas.{required_ok}

-- ---- depth

by_order : (o : Ordering) (d e : Data) (found : Option Data) (n : ℕ) → (found ≡ Some e → depth e ≤ n)
    → match_ordering o found (Some d) found ≡ Some e → depth e ≤ max (depth d) n
by_order Less d e found n below h = omega (arith, below h)
by_order Equal d e found n below h = let same : d ≡ e = cc in omega (arith, ap depth same)
by_order Greater d e found n below h = omega (arith, below h)

depth-get_member : (k : List ℕ) (ms : Members) (e : Data) → get_member k ms ≡ Some e → depth e ≤ members_depth ms
depth-get_member k no_members e h = absurd (cc)
depth-get_member k (member l d ms) e h =
    by_order (slice_cmp nat_cmp k l) d e (get_member k ms) (members_depth ms) (depth-get_member k ms e) h

-- a value at a key is less deep
below_get : (k : List ℕ) (d e : Data) → get k d ≡ Some e → depth e < depth d
below_get k null e h = absurd (cc)
below_get k (boolean b) e h = absurd (cc)
below_get k (number n) e h = absurd (cc)
below_get k (string s) e h = absurd (cc)
below_get k (array ds) e h = absurd (cc)
below_get k (object ms) e h = omega (arith, depth-get_member k ms e h)

-- the value at a key of the format is less deep than the object
pub below_member : (k : Key) (d e : Data) → member_at k d ≡ Ok e → depth e < depth d
unfolding member_at
below_member k d e h = below_get (key_text k) d e (required_ok (get (key_text k) d) e h)

-- so is one of a list
pub below_items : (vs : List JsonValue) (i : ℕ) (v : JsonValue) → i < length vs
    → depth (view (get_or vs i v)) < suc (items_depth (items_view vs))
below_items [] i v h = absurd (omega arith)
below_items (x ∷ vs) zero v h = omega arith
below_items (x ∷ vs) (suc i) v h = omega (arith, below_items vs i v (omega arith))

-- the depth of a list is one more than that of what it holds
pub below_array : (d : Data) (ds : Items) → as_array d ≡ Some ds → depth d ≡ suc (items_depth ds)
below_array null ds e = absurd (cc)
below_array (boolean b) ds e = absurd (cc)
below_array (number n) ds e = absurd (cc)
below_array (string s) ds e = absurd (cc)
below_array (array xs) ds e = let same : xs ≡ ds = cc in ap (λ x. suc (items_depth x)) same
below_array (object ms) ds e = absurd (cc)

pub ruleset nesting = (below_member, below_array)

-- ---- parts of a form rest on what stands inside alone

module _ {A : Type 0} (f g : Reader A) where
  found_same : (k : Key) (o : Option Data) → ((e : Data) → o ≡ Some e → f e ≡ g e)
      → (required_value o >>= λ e. within (step.Key k) (f e)) ≡ (required_value o >>= λ e. within (step.Key k) (g e))
  found_same k None same = refl
  found_same k (Some e) same = ap (within (step.Key k)) (same e refl)

  -- readers that agree below a value read the same at a key of it
  pub field_same : (k : Key) (d : Data) → AgreeBelow d f g → field_at k f d ≡ field_at k g d
  unfolding field_at
  field_same k d same = found_same k (get (key_text k) d) λ e h. same e (below_get (key_text k) d e h)

  pub from_same : (i : ℕ) (ds : Items) → ((e : Data) → depth e < suc (items_depth ds) → f e ≡ g e)
      → list_from (λ _. f) i ds ≡ list_from (λ _. g) i ds
  from_same i no_items same = refl
  from_same i (item d ds) same =
      let first : f d ≡ g d = same d (omega arith) in
      let rest : list_from (λ _. f) (i + 1) ds ≡ list_from (λ _. g) (i + 1) ds =
      from_same (i + 1) ds (λ e h. same e (omega (arith, h))) in
      rw (first, rest) refl

  pub list_same : (d : Data) → AgreeBelow d f g → list_at (λ _. f) d ≡ list_at (λ _. g) d
  unfolding list_at
  list_same null same = refl
  list_same (boolean b) same = refl
  list_same (number n) same = refl
  list_same (string s) same = refl
  list_same (array ds) same = from_same 0 ds same
  list_same (object ms) same = refl

  -- what agrees below a value agrees below one that is less deep
  pub agree_inside : (d e : Data) → depth e < depth d → AgreeBelow d f g → AgreeBelow e f g
  agree_inside d e h same x below = same x (omega (arith, h, below))

-- readers that agree below a value read the same list at a key of it
pub listed_same : {A : Type 0} (f g : Reader A) (k : Key) (d : Data) → AgreeBelow d f g
    → field_at k (list_at (λ _. f)) d ≡ field_at k (list_at (λ _. g)) d
listed_same f g k d same = field_same (list_at (λ _. f)) (list_at (λ _. g)) k d λ e h. list_same f g e (agree_inside f g d e h same)

-- ---- a form handed to itself

module _ {A : Type 0} (form : Reader A → Reader A) (inward : IsInward form) where
  deep_enough : (n m : ℕ) (d : Data) → depth d < n → depth d < m → to_depth form n d ≡ to_depth form m d
  deep_enough zero m d h k = absurd (omega arith)
  deep_enough (suc n) zero d h k = absurd (omega arith)
  deep_enough (suc n) (suc m) d h k =
      inward (to_depth form n) (to_depth form m) d λ e below. deep_enough n m e (omega (arith, h, below)) (omega (arith, k, below))

  -- a nested reader reads a value by its form, and what stands inside by itself
  pub nested_opened : (d : Data) → nested_reader form d ≡ form (nested_reader form) d
  unfolding nested_reader
  nested_opened d = inward (to_depth form (depth d)) (nested_reader form) d λ e below. deep_enough (depth d) (suc (depth e)) e below
      (omega arith)

-- what a form takes where what stands inside is taken, it takes
module _ {A : Type 0} (form : Reader A → Reader A) (P : Data → A → Type 0)
    (takes : (read : Reader A) → ((d : Data) (x : A) → read d ≡ Ok x → P d x) → (d : Data) (x : A) → form read d ≡ Ok x
    → P d x) where
  deep_takes : (n : ℕ) (d : Data) (x : A) → to_depth form n d ≡ Ok x → P d x
  deep_takes zero d x e = absurd (cc)
  deep_takes (suc n) d x e = takes (to_depth form n) (deep_takes n) d x e

  -- P holds of what a nested reader reads, where the form hands P on from inside
  pub nested_takes : (d : Data) (x : A) → nested_reader form d ≡ Ok x → P d x
  unfolding nested_reader
  nested_takes d x e = deep_takes (suc (depth d)) d x e
