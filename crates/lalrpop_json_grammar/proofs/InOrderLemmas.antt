-- What is read of a JSON text has each key of an object once, in byte order.
use Rattle.std.proofs.Common.{◌≡◌, ℕ, List, [], ◌∷◌, Option, Some, None, refl, ap, ◌∙◌, subst}
use Rattle.std.proofs.Common.{Ordering, Less, Equal, Greater}
use Rattle.std.specs.Prelude.{option_map, option_and_then}
use Rattle.std.specs.List.{AllByRecursion}
use Rattle.std.specs.Ordering.{match_ordering, ordering_reverse}
use Rattle.std.specs.Cmp.Lexicographic.{nat_list_cmp_total}
use Rattle.json.specs.Json as json
use Rattle.json.specs.Lex.{tokens}
use Rattle.serde_json.specs.Data.{Data, null, boolean, number, string, array, object, Items, no_items, item, Members}
use Rattle.serde_json.specs.Data.{no_members, member, put}
use Rattle.serde_json.specs.Read.{max_depth, number_of, of_items, of_json, of_members}
use Rattle.lalrpop_json_values.specs.Objects.{names}
use Rattle.lalrpop_json_grammar.specs.FaultLaws.{ReadValuesAreInOrder}
use Rattle.lalrpop_json_grammar.specs.Order.{AreItemsInOrder, AreMembersInOrder, AreRising, HasKeysInOrder, text_order}

-- ---- one member put in

abbrev IsBehind : List ℕ → List ℕ → Type 0
IsBehind l m = text_order l m ≡ Less

all_put : (P : List ℕ → Type 0) (k : List ℕ) (d : Data) (ms : Members) → P k → AllByRecursion P (names ms)
    → AllByRecursion P (names (put k d ms))
all_put P k d no_members h all = (h, tt)
all_put P k d (member l e ms) h all = by (text_order k l) (all_put P k d ms h all.1)
  where
    by : (o : Ordering) → AllByRecursion P (names (put k d ms))
        → AllByRecursion P (names (match_ordering o (member k d (member l e ms)) (member l d ms) (member l e (put k d ms))))
    by Less rest = (h, all)
    by Equal rest = all
    by Greater rest = (all.0, rest)

all_further : (k l : List ℕ) (ls : List (List ℕ)) → text_order k l ≡ Less → AllByRecursion (IsBehind l) ls
    → AllByRecursion (IsBehind k) ls
all_further k l [] h all = tt
all_further k l (m ∷ ms) h all = (nat_list_cmp_total.trans k l m h all.0, all_further k l ms h all.1)

turned : (k l : List ℕ) → text_order k l ≡ Greater → text_order l k ≡ Less
turned k l e = nat_list_cmp_total.antisymm l k ∙ ap ordering_reverse e

rising_put : (k : List ℕ) (d : Data) (ms : Members) → AreRising (names ms) → AreRising (names (put k d ms))
rising_put k d no_members h = (tt, tt)
rising_put k d (member l e ms) h = by (text_order k l) refl (rising_put k d ms h.1)
  where
    by : (o : Ordering) → text_order k l ≡ o → AreRising (names (put k d ms))
        → AreRising (names (match_ordering o (member k d (member l e ms)) (member l d ms) (member l e (put k d ms))))
    by Less is rest = ((is, all_further k l (names ms) is h.0), h)
    by Equal is rest = h
    by Greater is rest = (all_put (IsBehind l) k d ms (turned k l is) h.0, rest)

members_put : (k : List ℕ) (d : Data) (ms : Members) → HasKeysInOrder d → AreMembersInOrder ms → AreMembersInOrder (put k d ms)
members_put k d no_members h all = (h, tt)
members_put k d (member l e ms) h all = by (text_order k l) (members_put k d ms h all.1)
  where
    by : (o : Ordering) → AreMembersInOrder (put k d ms)
        → AreMembersInOrder (match_ordering o (member k d (member l e ms)) (member l d ms) (member l e (put k d ms)))
    by Less rest = (h, all)
    by Equal rest = (h, all.1)
    by Greater rest = (all.0, rest)

-- ---- what is read

mapped : {A B : Type 0} (f : A → B) (o : Option A) (y : B) → option_map f o ≡ Some y → (x : A) × (o ≡ Some x) × (f x ≡ y)
mapped f None y e = absurd (cc)
mapped f (Some x) y e = (x, refl, cc)

went_on : {A B : Type 0} (f : A → Option B) (o : Option A) (y : B) → option_and_then f o ≡ Some y
    → (x : A) × (o ≡ Some x) × (f x ≡ Some y)
went_on f None y e = absurd (cc)
went_on f (Some x) y e = (x, refl, e)

mutual
  json_in_order : (j : json.Json) (d : Data) → of_json j ≡ Some d → HasKeysInOrder d
  json_in_order json.null d e = let same : null ≡ d = cc in subst HasKeysInOrder same tt
  json_in_order (json.boolean b) d e = let same : boolean b ≡ d = cc in subst HasKeysInOrder same tt
  json_in_order (json.number s) d e = let got = mapped number (number_of s) d e in subst HasKeysInOrder got.2 tt
  json_in_order (json.string s) d e = let same : string s ≡ d = cc in subst HasKeysInOrder same tt
  json_in_order (json.array js) d e =
      let got = mapped array (of_items js) d e in subst HasKeysInOrder got.2 (items_in_order js got.0 got.1)
  json_in_order (json.object ms) d e =
      let got = mapped object (of_members ms no_members) d e in
      subst HasKeysInOrder got.2 (members_in_order ms no_members got.0 tt tt got.1)

  items_in_order : (js : json.Items) (ds : Items) → of_items js ≡ Some ds → AreItemsInOrder ds
  items_in_order json.no_items ds e = let same : no_items ≡ ds = cc in subst AreItemsInOrder same tt
  items_in_order (json.item j js) ds e =
      let first = went_on (λ d. option_map (item d) (of_items js)) (of_json j) ds e in
      let rest = mapped (item first.0) (of_items js) ds first.2 in
      subst AreItemsInOrder rest.2 (json_in_order j first.0 first.1, items_in_order js rest.0 rest.1)

  members_in_order : (js : json.Members) (found ms : Members) → AreRising (names found) → AreMembersInOrder found
      → of_members js found ≡ Some ms → AreRising (names ms) × AreMembersInOrder ms
  members_in_order json.no_members found ms rising all e =
      let same : found ≡ ms = cc in
      (subst (λ x. AreRising (names x)) same rising, subst AreMembersInOrder same all)
  members_in_order (json.member k j js) found ms rising all e =
      let first = went_on (λ d. of_members js (put k d found)) (of_json j) ms e in
      members_in_order js (put k first.0 found) ms (rising_put k first.0 found rising)
      (members_put k first.0 found (json_in_order j first.0 first.1) all) first.2

-- each object in what is read of a JSON text has each key once, in byte order
pub read_in_order : ReadValuesAreInOrder
read_in_order text d e =
    let got = went_on of_json (option_and_then (λ p. json.if_last p.0 p.1) (json.value max_depth (tokens text))) d e in
    json_in_order got.0 d got.2
