-- How grammars are read.
use Rattle.std.specs.Prelude.{[], ◌∷◌, Result, Ok}
use Rattle.lalrpop_json_grammar.specs.declared.grammar.Heading.{Heading}
use Rattle.serde_json.specs.Data.{Data}
use Rattle.lalrpop_grammar.specs.declared.grammar.Grammar.{Grammar}
use Rattle.lalrpop_json_values.specs.declared.fault.Fault.{Fault}
use Rattle.lalrpop_json_values.specs.declared.key.Key.TheVariants as key
use Rattle.lalrpop_json_values.specs.Gives.{◌>>=◌}
use Rattle.lalrpop_json_values.specs.Lists.{list_at}
use Rattle.lalrpop_json_values.specs.Objects.{field_at, keys_at}
use Rattle.lalrpop_json_values.specs.Scalars.{span_at, text_at}
use Rattle.lalrpop_json_symbols.specs.Attributes.{attribute_at}
use Rattle.lalrpop_json_items.specs.Items.{item_at}
use Rattle.lalrpop_json_values.specs.Prefix.{longest_of, prefix_past}
use Rattle.lalrpop_json_values.specs.Strings.{strings}

-- what stands at the head of a grammar, and its place in the text
unfoldable pub heading_at : Data → Result Heading Fault
heading_at d = do
  parameters ← field_at key.Parameters text_at d
  span ← field_at key.Span span_at d
  type_parameters ← field_at key.TypeParameters text_at d
  where_clauses ← field_at key.WhereClauses text_at d
  Ok (record {
    parameters = parameters;
    span = span;
    type_parameters = type_parameters;
    where_clauses = where_clauses;
  })

-- the prefix is longer than each run of underscores in the value's strings
unfoldable pub grammar_at : Data → Result Grammar Fault
grammar_at d = do
  _ ← keys_at (key.Attributes ∷ key.Items ∷ key.Parameters ∷ key.Span ∷ key.TypeParameters ∷ key.WhereClauses ∷ []) d
  attributes ← field_at key.Attributes (list_at (λ _. attribute_at)) d
  listed ← field_at key.Items (list_at (λ _. item_at)) d
  parameters ← field_at key.Parameters text_at d
  span ← field_at key.Span span_at d
  type_parameters ← field_at key.TypeParameters text_at d
  where_clauses ← field_at key.WhereClauses text_at d
  Ok (record {
    prefix = prefix_past (longest_of (strings d));
    span = span;
    parameters = parameters;
    type_parameters = type_parameters;
    where_clauses = where_clauses;
    attributes = attributes;
    items = listed;
  })
