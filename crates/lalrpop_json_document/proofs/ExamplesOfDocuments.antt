-- Computed examples of the data that the values of a document stand for.
use Prim.Native.String.{String}
use Rattle.std.proofs.Common.{◌≡◌, ◌∙◌, ℕ, List, [], ◌∷◌, Some, true, false, Bor, Global, Vec, ap, refl, rules}
use Rattle.std.specs.Prelude.{codes}
use Rattle.serde_json.specs.Data.{Items, null, boolean, array, object, no_items, item, no_members, member}
use Rattle.serde_json.specs.Find.{get_member}
use Rattle.lalrpop_json_document.specs.DocumentViews.{items_view, members_view, view}
use Rattle.lalrpop_json_document.specs.declared.value.JsonValue.{JsonValue, Null, Bool, Array, Object, the_lemmas}

abbrev Member : Type 0
Member = Bor (List ℕ) × JsonValue

abbrev named : String → Bor (List ℕ)
named name = record { ref_ptr = (0, 0); now = codes name }

null_seen : view Null ≡ null
null_seen = search (rules, the_lemmas)

true_seen : view (Bool true) ≡ boolean true
true_seen = search (rules, the_lemmas)

false_seen : view (Bool false) ≡ boolean false
false_seen = search (rules, the_lemmas)

array_seen : (v : Vec JsonValue Global) → view (Array v) ≡ array (items_view v.items)
array_seen v = search (rules, the_lemmas)

object_seen : (m : Vec Member Global) → view (Object m) ≡ object (members_view m.items)
object_seen m = search (rules, the_lemmas)

-- {}
without_members : (m : Vec Member Global) → m.items ≡ [] → view (Object m) ≡ object no_members
without_members m is = object_seen m ∙ ap (λ ms. object (members_view ms)) is

-- {"kind":true,"span":null}
two_members : (m : Vec Member Global) → m.items ≡ (named "kind", Bool true) ∷ (named "span", Null) ∷ []
    → view (Object m) ≡ object (member (codes "kind") (boolean true) (member (codes "span") null no_members))
two_members m is = object_seen m ∙ ap (λ ms. object (members_view ms)) is ∙ rw (true_seen, null_seen) refl

-- {"items":[null,false]}
list_within : (m : Vec Member Global) (v : Vec JsonValue Global) → m.items ≡ (named "items", Array v) ∷ []
    → v.items ≡ Null ∷ Bool false ∷ []
    → view (Object m) ≡ object (member (codes "items") (array (item null (item (boolean false) no_items))) no_members)
list_within m v is within =
    object_seen m ∙ ap (λ ms. object (members_view ms)) is ∙ rw (array_seen v, within, null_seen, false_seen) refl

-- an object is no list, not even one without members
no_list : (m : Vec Member Global) (ds : Items) → view (Object m) ≡ array ds → ⊥
no_list m ds e =
    let seen = object_seen m in
    cc

-- the first value at a key is found, so that members which were only lined up would not have a doubled key's last value
first_found : get_member (codes "a") (members_view ((named "a", Bool true) ∷ (named "a", Bool false) ∷ [])) ≡ Some (boolean true)
first_found = rw true_seen refl

last_not_found : get_member (codes "a") (members_view ((named "a", Bool true) ∷ (named "a", Bool false) ∷ [])) ≡ Some (boolean false) → ⊥
last_not_found e =
    let found = first_found in
    cc
