-- What tokens say, as data, with the tokens that are left behind it.
use Rattle.std.specs.Prelude.{ℕ, List, length, Option}
use Rattle.json.specs.Token.{Token}
use Rattle.json.specs.Json.{items, members, value}
use Rattle.serde_json.specs.Data.{Data, Items, Members, no_members}
use Rattle.serde_json.specs.Read.{converted, of_items, of_json, of_members}

-- a value, nested no deeper than `depth`
abbrev pub value_data : ℕ → List Token → Option (Data × List Token)
value_data depth ts = converted of_json (value depth ts)

-- a list from behind its bracket on, with values nested no deeper than `depth`
abbrev pub items_data : ℕ → List Token → Option (Items × List Token)
items_data depth ts = converted of_items (items (value depth) (length ts) ts)

-- the rest of an object, its members put among those that were found before
abbrev pub members_behind : ℕ → Members → List Token → Option (Members × List Token)
members_behind depth found ts = converted (λ ms. of_members ms found) (members (value depth) (length ts) ts)

-- an object from behind its brace on, with values nested no deeper than `depth`
abbrev pub members_data : ℕ → List Token → Option (Members × List Token)
members_data depth ts = members_behind depth no_members ts
