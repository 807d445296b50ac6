-- What the first token of a value says about it: for the reader of a value.
use Rattle.std.proofs.Common.{◌≡◌, ℕ, ◌-◌, ◌<◌, List, [], ◌∷◌, length, Bool, Some, None, option_map, refl, ap, ◌∙◌}
use Rattle.json.specs.Token.{Token}
use Rattle.json.specs.Json as json
use Rattle.json.specs.Json.{items, members, parse_map, value}
use Rattle.json.proofs.Grammar.{value-begin_array, value-begin_object, value_is}
use Rattle.serde_json.specs.Data.{Num, null, boolean, number, string, array, object, Items, Members, no_members}
use Rattle.serde_json.specs.Read.{converted, number_of, of_items, of_json, of_members}
use Rattle.lalrpop_json_document.specs.TokenData.{items_data, members_data, value_data}
use Rattle.lalrpop_json_document.proofs.ConvertedLemmas.{converted_around, converted_map}

module _ (depth : ℕ) (ts rest : List Token) where
  pub nothing_read : ts ≡ [] → value_data depth ts ≡ None
  nothing_read is = rw is (rw value_is)

  pub null_read : ts ≡ Token.null ∷ rest → value_data depth ts ≡ Some (null, rest)
  null_read is = rw is (rw value_is)

  pub flag_read : (b : Bool) → ts ≡ Token.boolean b ∷ rest → value_data depth ts ≡ Some (boolean b, rest)
  flag_read b is = rw is (rw value_is)

  pub string_read : (s : List ℕ) → ts ≡ Token.string s ∷ rest → value_data depth ts ≡ Some (string s, rest)
  string_read s is = rw is (rw value_is)

  pub number_read : (s : List ℕ) (n : Num) → ts ≡ Token.number s ∷ rest → number_of s ≡ Some n
      → value_data depth ts ≡ Some (number n, rest)
  number_read s n is e = rw is (rw value_is (rw e))

  pub number_refused : (s : List ℕ) → ts ≡ Token.number s ∷ rest → number_of s ≡ None → value_data depth ts ≡ None
  number_refused s is e = rw is (rw value_is (rw e))

  -- lists

  array_around : ts ≡ Token.begin_array ∷ rest → 0 < depth → value_data depth ts ≡ parse_map array (items_data (depth - 1) rest)
  array_around is some =
      let inside = items (value (depth - 1)) (length rest) rest in
      ap (value_data depth) is ∙ ap (converted of_json) (value-begin_array depth rest some)
      ∙ converted_around json.array of_json (λ js. option_map array (of_items js)) (λ js. refl) inside
      ∙ converted_map of_items array inside

  pub array_read : (behind : List Token) (ds : Items) → ts ≡ Token.begin_array ∷ rest → 0 < depth
      → items_data (depth - 1) rest ≡ Some (ds, behind) → value_data depth ts ≡ Some (array ds, behind)
  array_read behind ds is some e = array_around is some ∙ ap (parse_map array) e

  pub array_refused : ts ≡ Token.begin_array ∷ rest → 0 < depth → items_data (depth - 1) rest ≡ None → value_data depth ts ≡ None
  array_refused is some e = array_around is some ∙ ap (parse_map array) e

  pub array_too_deep : ts ≡ Token.begin_array ∷ rest → depth ≡ 0 → value_data depth ts ≡ None
  array_too_deep is none = rw (is, none) (rw value_is)

  -- objects

  object_around : ts ≡ Token.begin_object ∷ rest → 0 < depth
      → value_data depth ts ≡ parse_map object (members_data (depth - 1) rest)
  object_around is some =
      let inside = members (value (depth - 1)) (length rest) rest in
      let of_all = λ (ms : json.Members). of_members ms no_members in
      ap (value_data depth) is ∙ ap (converted of_json) (value-begin_object depth rest some)
      ∙ converted_around json.object of_json (λ ms. option_map object (of_all ms)) (λ ms. refl) inside
      ∙ converted_map of_all object inside

  pub object_read : (behind : List Token) (ms : Members) → ts ≡ Token.begin_object ∷ rest → 0 < depth
      → members_data (depth - 1) rest ≡ Some (ms, behind) → value_data depth ts ≡ Some (object ms, behind)
  object_read behind ms is some e = object_around is some ∙ ap (parse_map object) e

  pub object_refused : ts ≡ Token.begin_object ∷ rest → 0 < depth → members_data (depth - 1) rest ≡ None
      → value_data depth ts ≡ None
  object_refused is some e = object_around is some ∙ ap (parse_map object) e

  pub object_too_deep : ts ≡ Token.begin_object ∷ rest → depth ≡ 0 → value_data depth ts ≡ None
  object_too_deep is none = rw (is, none) (rw value_is)
