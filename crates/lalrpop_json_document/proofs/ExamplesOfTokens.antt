-- Computed examples of what tokens say as data.
use Prim.Native.String.{String}
use Rattle.std.proofs.Common.{◌≡◌, ℕ, List, [], ◌∷◌, Some, None, refl}
use Rattle.std.specs.Prelude.{codes}
use Rattle.std.specs.Float.Numeral.{scan_numeral}
use Rattle.json.specs.Token.{Token}
use Rattle.json.specs.Json.{items, members, value}
use Rattle.serde_json.specs.Data.{Data, array, object, number, unsigned, no_items, item, no_members, member}
use Rattle.serde_json.specs.Read.{number_of}
use Rattle.lalrpop_json_document.specs.TokenData.{value_data}

-- a member of an object whose value is a number
abbrev numbered : String → String → List Token → List Token
numbered key digits rest = Token.key (codes key) ∷ Token.number (codes digits) ∷ rest

abbrev whole : ℕ → Data
whole n = number (unsigned n)

-- {"b":1,"a":2,"b":3}: the keys in order, and the last value of the doubled one
doubled_key : value_data 1 (Token.begin_object ∷ numbered "b" "1" (numbered "a" "2" (numbered "b" "3" (Token.end_object ∷ []))))
    ≡ Some (object (member (codes "a") (whole 2) (member (codes "b") (whole 3) no_members)), [])
unfolding value items members number_of scan_numeral
doubled_key = refl

-- {"a":1,"a":2}: each key once, though the second is no smaller than the first
side_by_side : value_data 1 (Token.begin_object ∷ numbered "a" "1" (numbered "a" "2" (Token.end_object ∷ [])))
    ≡ Some (object (member (codes "a") (whole 2) no_members), [])
unfolding value items members number_of scan_numeral
side_by_side = refl

-- [1,2], and what is left behind it
two_items : value_data 1 (Token.begin_array ∷ Token.number (codes "1") ∷ Token.number (codes "2") ∷ Token.end_array ∷ Token.null ∷ [])
    ≡ Some (array (item (whole 1) (item (whole 2) no_items)), Token.null ∷ [])
unfolding value items members number_of scan_numeral
two_items = refl

-- [[]] is nested two deep
two_deep : value_data 2 (Token.begin_array ∷ Token.begin_array ∷ Token.end_array ∷ Token.end_array ∷ [])
    ≡ Some (array (item (array no_items) no_items), [])
unfolding value items members
two_deep = refl

too_deep : value_data 1 (Token.begin_array ∷ Token.begin_array ∷ Token.end_array ∷ Token.end_array ∷ []) ≡ None
unfolding value items members
too_deep = refl
