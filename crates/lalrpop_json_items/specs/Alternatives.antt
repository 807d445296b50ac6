-- How the alternatives of a rule are read.
use Rattle.std.specs.Prelude.{ℕ, ◌^◌, List, [], ◌∷◌, Result, Ok, Err, Option, Some, None, is_some, nat_lt, if◌then◌else◌}
use Rattle.serde_json.specs.Find.{as_null, as_str}
use Rattle.lalrpop_grammar_symbols.specs.declared.span.Span.{Span}
use Rattle.lalrpop_grammar_symbols.specs.declared.symbol.Symbol.{Symbol}
use Rattle.lalrpop_grammar.specs.declared.alternative.ActionKind.{ActionKind}
use Rattle.lalrpop_grammar.specs.declared.alternative.ActionKind.TheVariants as actions
use Rattle.lalrpop_grammar.specs.declared.alternative.Alternative.{Alternative}
use Rattle.lalrpop_grammar.specs.declared.condition.Condition.{Condition}
use Rattle.lalrpop_grammar.specs.declared.condition.ConditionOp.{ConditionOp}
use Rattle.lalrpop_grammar.specs.declared.condition.ConditionOp.TheVariants as tests
use Rattle.lalrpop_grammar.specs.declared.origin.Origin.{Origin}
use Rattle.lalrpop_grammar.specs.declared.origin.Origin.TheVariants as origins
use Rattle.lalrpop_grammar.specs.declared.types.attribute.Attribute.{Attribute}
use Rattle.serde_json.specs.Data.{Data}
use Rattle.lalrpop_json_values.specs.declared.fault.Fault.{Fault}
use Rattle.lalrpop_json_values.specs.declared.fault.FaultKind.TheVariants as fault
use Rattle.lalrpop_json_values.specs.declared.form.Form.{Form}
use Rattle.lalrpop_json_values.specs.declared.form.Form.TheVariants as form
use Rattle.lalrpop_json_values.specs.declared.key.Key.{Key}
use Rattle.lalrpop_json_values.specs.declared.key.Key.TheVariants as key
use Rattle.lalrpop_json_values.specs.declared.word.Word.TheVariants as word
use Rattle.lalrpop_json_values.specs.Forms.{form_by_key}
use Rattle.lalrpop_json_values.specs.Gives.{◌>>=◌, here, required_value}
use Rattle.lalrpop_json_values.specs.Lists.{list_at}
use Rattle.lalrpop_json_values.specs.Objects.{field_at, keys_at}
use Rattle.lalrpop_json_values.specs.Scalars.{as_some, is_word, name_at, optional, span_at, text_at}
use Rattle.lalrpop_json_symbols.specs.Attributes.{attribute_at}
use Rattle.lalrpop_json_symbols.specs.Symbols.{symbol_at}

-- ---- actions

unfoldable pub user_at : Data → Result ActionKind Fault
user_at d = do
  _ ← keys_at (key.User ∷ []) d
  text ← field_at key.User text_at d
  Ok (actions.User text)

unfoldable pub fallible_at : Data → Result ActionKind Fault
fallible_at d = do
  _ ← keys_at (key.Fallible ∷ []) d
  text ← field_at key.Fallible text_at d
  Ok (actions.Fallible text)

abbrev pub action_rows : List (Key × Form)
action_rows = (key.Fallible, form.Fallible) ∷ (key.User, form.User) ∷ []

abbrev pub action_by : Option Form → Data → Result ActionKind Fault
action_by (Some form.Fallible) d = fallible_at d
action_by (Some form.User) d = user_at d
action_by _ d = Err (here fault.WrongShape)

unfoldable pub action_at : Data → Result (Option ActionKind) Fault
action_at d = if is_some (as_null d) then Ok None else as_some (action_by (form_by_key action_rows d) d)

-- ---- conditions

abbrev pub test_of : List ℕ → Result ConditionOp Fault
test_of t =
    if is_word word.Equals t then Ok tests.Equals
    else (if is_word word.Differs t then Ok tests.NotEquals
    else (if is_word word.Matches t then Ok tests.Match
    else (if is_word word.MatchesNot t then Ok tests.NotMatch
    else Err (here fault.WrongShape))))

unfoldable pub test_at : Data → Result ConditionOp Fault
test_at d = do
  t ← required_value (as_str d)
  test_of t

unfoldable pub condition_at : Data → Result Condition Fault
condition_at d = do
  _ ← keys_at (key.Lhs ∷ key.Op ∷ key.Rhs ∷ key.Span ∷ []) d
  lhs ← field_at key.Lhs name_at d
  op ← field_at key.Op test_at d
  rhs ← field_at key.Rhs text_at d
  span ← field_at key.Span span_at d
  Ok (record { span = span; lhs = record { 0 = lhs }; rhs = rhs; op = op })

-- ---- alternatives

-- a rule's alternatives are counted up to 2 ^ 32
abbrev pub place_at : ℕ → Result ℕ Fault
place_at i = if nat_lt i (2 ^ 32) then Ok i else Err (here fault.WrongShape)

abbrev pub written_origin : List ℕ → ℕ → Origin
written_origin rule place = origins.Alternative (record { 0 = rule }) [] place

-- what an alternative does, and its attributes
unfoldable pub action_and_attributes_at : Data → Result (Option ActionKind × List Attribute) Fault
action_and_attributes_at d = do
  action ← field_at key.Action action_at d
  attributes ← field_at key.Attributes (list_at (λ _. attribute_at)) d
  Ok (action, attributes)

-- when an alternative is there, its symbols and its place in the text
unfoldable pub condition_and_symbols_at : Data → Result (Option Condition × List Symbol × Span) Fault
condition_and_symbols_at d = do
  condition ← field_at key.Condition (optional condition_at) d
  expr ← field_at key.Expr (list_at (λ _. symbol_at)) d
  span ← field_at key.Span span_at d
  Ok (condition, expr, span)

unfoldable pub alternative_at_place : List ℕ → ℕ → Data → Result Alternative Fault
alternative_at_place rule place d = do
  _ ← keys_at (key.Action ∷ key.Attributes ∷ key.Condition ∷ key.Expr ∷ key.Span ∷ []) d
  action ← field_at key.Action action_at d
  attributes ← field_at key.Attributes (list_at (λ _. attribute_at)) d
  condition ← field_at key.Condition (optional condition_at) d
  expr ← field_at key.Expr (list_at (λ _. symbol_at)) d
  span ← field_at key.Span span_at d
  Ok (record {
    span = span;
    expr = expr;
    condition = condition;
    action = action;
    attributes = attributes;
    origin = written_origin rule place;
  })

-- the alternative at a place of a rule
unfoldable pub alternative_at : List ℕ → ℕ → Data → Result Alternative Fault
alternative_at rule i d = do
  place ← place_at i
  alternative_at_place rule place d

abbrev pub alternatives_at : List ℕ → Data → Result (List Alternative) Fault
alternatives_at rule = list_at (alternative_at rule)
