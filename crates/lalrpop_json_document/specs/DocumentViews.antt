-- The data that a value of a document stands for: those of `serde_json`'s values.
use Rattle.std.specs.Prelude.{ℕ, List, [], ◌∷◌, map}
use Rattle.std.specs.Borrow.{Bor}
use Rattle.serde_json.specs.Data.{Data, null, boolean, number, string, array, object, Items, Members, no_members, member}
use Rattle.serde_json.specs.View.{items_of, number_view}
use Rattle.lalrpop_json_document.specs.declared.value.JsonValue.{JsonValue, fold-JsonValue}
use Rattle.lalrpop_json_document.specs.declared.value.JsonValue.TheOpen.{JsonValue-F}

-- members, each value inside already seen as its data
abbrev pub members_of : List (Bor (List ℕ) × Data) → Members
members_of [] = no_members
members_of (m ∷ ms) = member m.0.now m.1 (members_of ms)

-- one level, with each value inside already seen as its data
abbrev pub view_step : JsonValue-F Data → Data
view_step JsonValue-F.Null = null
view_step (JsonValue-F.Bool b) = boolean b
view_step (JsonValue-F.Number x) = number (number_view x)
view_step (JsonValue-F.String s) = string s.now
view_step (JsonValue-F.Array v) = array (items_of v.items)
view_step (JsonValue-F.Object m) = object (members_of m.items)

-- the data of a value
abbrev pub view : JsonValue → Data
view = fold-JsonValue Data view_step

-- those of a list's values
abbrev pub items_view : List JsonValue → Items
items_view vs = items_of (map view vs)

-- those of an object's members
abbrev pub members_view : List (Bor (List ℕ) × JsonValue) → Members
members_view ms = members_of (map (λ m. (m.0, view m.1)) ms)
