-- The longest run of underscores in the strings of a value, one value after another: for the functions that find it.
use Rattle.std.proofs.Common.{◌≡◌, ℕ, zero, suc, ◌+◌, ◌<◌, ◌≤◌, max, List, [], ◌∷◌, length, drop}
use Rattle.std.proofs.Common.{get_or, Some, None, arith, refl, ap, add-one, drop-cons, Bor, ◌∙◌}
use Rattle.serde_json.specs.Data.{Data, null, boolean, number, string, array, object, Items, Members, depth, items_depth, members_depth}
use Rattle.serde_json.specs.Find.{as_array, as_object, as_str}
use Rattle.lalrpop_json_document.specs.DocumentViews.{view, items_view, members_view}
use Rattle.lalrpop_json_document.specs.declared.value.JsonValue.{JsonValue}
use Rattle.lalrpop_json_values.specs.Prefix.{longest_of, longest_run}
use Rattle.lalrpop_json_values.specs.Strings.{strings, items_strings, members_strings}
use Rattle.lalrpop_json_values.proofs.NestingLemmas.{below_array}
use Rattle.lalrpop_json_values.proofs.PrefixRunLemmas.{longest_of-append}

-- ---- by the shape of a value

pub of_string : (d : Data) (t : List ℕ) → as_str d ≡ Some t → longest_of (strings d) ≡ longest_run t
of_string null t e = absurd (cc)
of_string (boolean b) t e = absurd (cc)
of_string (number n) t e = absurd (cc)
of_string (string s) t e = let same : s ≡ t = cc in omega (arith, ap longest_run same)
of_string (array ds) t e = absurd (cc)
of_string (object ms) t e = absurd (cc)

pub of_array : (d : Data) (ds : Items) → as_array d ≡ Some ds → strings d ≡ items_strings ds
of_array null ds e = absurd (cc)
of_array (boolean b) ds e = absurd (cc)
of_array (number n) ds e = absurd (cc)
of_array (string s) ds e = absurd (cc)
of_array (array es) ds e = let same : es ≡ ds = cc in ap items_strings same
of_array (object ms) ds e = absurd (cc)

pub of_object : (d : Data) (ms : Members) → as_object d ≡ Some ms → strings d ≡ members_strings ms
of_object null ms e = absurd (cc)
of_object (boolean b) ms e = absurd (cc)
of_object (number n) ms e = absurd (cc)
of_object (string s) ms e = absurd (cc)
of_object (array ds) ms e = absurd (cc)
of_object (object ns) ms e = let same : ns ≡ ms = cc in ap members_strings same

pub of_none : (d : Data) → as_str d ≡ None → as_array d ≡ None → as_object d ≡ None → longest_of (strings d) ≡ 0
of_none null e f g = refl
of_none (boolean b) e f g = refl
of_none (number n) e f g = refl
of_none (string s) e f g = absurd (cc)
of_none (array ds) e f g = absurd (cc)
of_none (object ms) e f g = absurd (cc)

pub below_object : (d : Data) (ms : Members) → as_object d ≡ Some ms → depth d ≡ suc (members_depth ms)
below_object null ms e = absurd (cc)
below_object (boolean b) ms e = absurd (cc)
below_object (number n) ms e = absurd (cc)
below_object (string s) ms e = absurd (cc)
below_object (array ds) ms e = absurd (cc)
below_object (object ns) ms e = let same : ns ≡ ms = cc in ap (λ x. suc (members_depth x)) same

-- ---- where the loops stand

abbrev Member : Type 0
Member = Bor (List ℕ) × JsonValue

-- where a loop stands: the longest run so far and the longest in the rest give that of all
abbrev pub IsSoFar : List (List ℕ) → ℕ → List (List ℕ) → Type 0
IsSoFar all longest rest = max longest (longest_of rest) ≡ longest_of all

pub so_far_starts : (all : List (List ℕ)) → IsSoFar all 0 all
so_far_starts all = omega arith

-- a loop over a list goes on behind a value, whose longest run counts
pub item_more : (vs : List JsonValue) (longest n m i : ℕ) (v : JsonValue) → i < length vs → n ≡ longest_of (strings (view (get_or vs i v)))
    → m ≡ max n longest → IsSoFar (items_strings (items_view vs)) longest (items_strings (items_view (drop i vs)))
    → IsSoFar (items_strings (items_view vs)) m (items_strings (items_view (drop (i + 1) vs)))
item_more vs longest n m i v h e larger at =
    let here : longest_of (items_strings (items_view (drop i vs))) ≡ max n (longest_of (items_strings (items_view (drop (i + 1) vs)))) =
    simp (drop-cons vs i v h, add-one, longest_of-append) (rw (← e) refl) in
    omega (arith, here, at, larger)

-- and a loop over members behind a member's value
pub member_more : (ms list : List Member) (longest n larger i : ℕ) (m : Member) → list ≡ ms
    → i < length list → m ≡ get_or list i m → n ≡ longest_of (strings (view m.1)) → larger ≡ max n longest
    → IsSoFar (members_strings (members_view ms)) longest (members_strings (members_view (drop i ms)))
    → IsSoFar (members_strings (members_view ms)) larger (members_strings (members_view (drop (i + 1) ms)))
member_more ms list longest n larger i m whole h is e greater at =
    let within : i < length ms = omega (arith, ap length whole) in
    let value = ap (λ (x : Member). longest_of (strings (view x.1))) (is ∙ ap (λ (l : List Member). get_or l i m) whole) in
    let here : longest_of (members_strings (members_view (drop i ms)))
    ≡ max n (longest_of (members_strings (members_view (drop (i + 1) ms)))) =
    simp (drop-cons ms i m within, add-one, longest_of-append) (rw (← value, ← e) refl) in
    omega (arith, here, at, greater)

-- a value in a list is no deeper than what the list holds
pub below_values : (vs : List JsonValue) (i : ℕ) (v : JsonValue) → i < length vs
    → depth (view (get_or vs i v)) ≤ items_depth (items_view vs)
below_values [] i v h = absurd (omega arith)
below_values (x ∷ vs) zero v h = omega arith
below_values (x ∷ vs) (suc i) v h = omega (arith, below_values vs i v (omega arith))

member_below : (ms : List Member) (i : ℕ) (m : Member) → i < length ms
    → depth (view (get_or ms i m).1) ≤ members_depth (members_view ms)
member_below [] i m h = absurd (omega arith)
member_below (x ∷ ms) zero m h = omega arith
member_below (x ∷ ms) (suc i) m h = omega (arith, member_below ms i m (omega arith))

-- and a member's value no deeper than what the object holds
pub below_members : (ms list : List Member) (i : ℕ) (m : Member) → list ≡ ms → i < length list
    → m ≡ get_or list i m → depth (view m.1) ≤ members_depth (members_view ms)
below_members ms list i m whole h is =
    let value = ap (λ (x : Member). depth (view x.1)) (is ∙ ap (λ (l : List Member). get_or l i m) whole) in
    omega (arith, value, member_below ms i m (omega (arith, ap length whole)))

pub ruleset string_runs =
    (of_string, of_array, of_object, of_none, below_array, below_object, longest_of-append, so_far_starts)
