-- The strings of a JSON value, in order: those of its lists and members, without the keys.
use Rattle.std.specs.Prelude.{ℕ, List, [], ◌∷◌, ◌++◌}
use Rattle.serde_json.specs.Data.{Data, null, boolean, number, string, array, object, Items, no_items, item, Members, no_members, member}

abbrev mutual
  pub strings : Data → List (List ℕ)
  strings null = []
  strings (boolean b) = []
  strings (number n) = []
  strings (string s) = s ∷ []
  strings (array ds) = items_strings ds
  strings (object ms) = members_strings ms

  pub items_strings : Items → List (List ℕ)
  items_strings no_items = []
  items_strings (item d ds) = strings d ++ items_strings ds

  pub members_strings : Members → List (List ℕ)
  members_strings no_members = []
  members_strings (member k d ms) = strings d ++ members_strings ms
