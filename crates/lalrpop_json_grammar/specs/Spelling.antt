-- The one JSON value of a grammar, and the texts of a grammar.
use Rattle.std.specs.Prelude.{ℕ, List, [], ◌∷◌}
use Rattle.serde_json.specs.Data.{Data, string}
use Rattle.lalrpop_grammar.specs.declared.grammar.Grammar.{Grammar}
use Rattle.lalrpop_json_values.specs.declared.key.Key.{Key}
use Rattle.lalrpop_json_values.specs.declared.key.Key.TheVariants as key
use Rattle.lalrpop_json_values.specs.Spelled.{list_json, object_of, span_json}
use Rattle.lalrpop_json_symbols.specs.Spelling.{attribute_json}
use Rattle.lalrpop_json_items.specs.Spelling.{item_json}
use Rattle.lalrpop_json_values.specs.Strings.{strings}

-- up to the items
abbrev pub first_members : Grammar → List (Key × Data)
first_members g =
    (key.Attributes, list_json attribute_json g.attributes) ∷ (key.Items, list_json item_json g.items) ∷ []

-- the prefix isn't written
abbrev pub spelling : Grammar → Data
spelling g =
    object_of ((key.Attributes, list_json attribute_json g.attributes) ∷ (key.Items, list_json item_json g.items)
    ∷ (key.Parameters, string g.parameters) ∷ (key.Span, span_json g.span)
    ∷ (key.TypeParameters, string g.type_parameters) ∷ (key.WhereClauses, string g.where_clauses) ∷ [])

-- the strings of its spelling; beside the texts that are written there stand words and signs, which have no underscore
abbrev pub texts_of : Grammar → List (List ℕ)
texts_of g = strings (spelling g)
