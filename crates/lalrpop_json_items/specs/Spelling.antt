-- The one JSON value of an item of a grammar.
use Rattle.std.specs.Prelude.{List, [], ◌∷◌, Option, Some, None}
use Rattle.serde_json.specs.Data.{Data, null, string}
use Rattle.lalrpop_grammar_symbols.specs.declared.names.NonterminalString.{NonterminalString}
use Rattle.lalrpop_grammar.specs.declared.alternative.ActionKind.{ActionKind}
use Rattle.lalrpop_grammar.specs.declared.alternative.ActionKind.TheVariants as actions
use Rattle.lalrpop_grammar.specs.declared.alternative.Alternative.{Alternative}
use Rattle.lalrpop_grammar.specs.declared.condition.Condition.{Condition}
use Rattle.lalrpop_grammar.specs.declared.condition.ConditionOp.{ConditionOp}
use Rattle.lalrpop_grammar.specs.declared.condition.ConditionOp.TheVariants as tests
use Rattle.lalrpop_grammar.specs.declared.extern_token.AssociatedType.{AssociatedType}
use Rattle.lalrpop_grammar.specs.declared.extern_token.Conversion.{Conversion}
use Rattle.lalrpop_grammar.specs.declared.extern_token.EnumToken.{EnumToken}
use Rattle.lalrpop_grammar.specs.declared.extern_token.ExternToken.{ExternToken}
use Rattle.lalrpop_grammar.specs.declared.grammar.GrammarItem.{GrammarItem}
use Rattle.lalrpop_grammar.specs.declared.grammar.GrammarItem.TheVariants as items
use Rattle.lalrpop_grammar.specs.declared.match_token.MatchContents.{MatchContents}
use Rattle.lalrpop_grammar.specs.declared.match_token.MatchItem.{MatchItem}
use Rattle.lalrpop_grammar.specs.declared.match_token.MatchItem.TheVariants as entries
use Rattle.lalrpop_grammar.specs.declared.match_token.MatchMapping.{MatchMapping}
use Rattle.lalrpop_grammar.specs.declared.match_token.MatchMapping.TheVariants as maps
use Rattle.lalrpop_grammar.specs.declared.match_token.MatchToken.{MatchToken}
use Rattle.lalrpop_grammar.specs.declared.nonterminal.NonterminalData.{NonterminalData}
use Rattle.lalrpop_grammar.specs.declared.nonterminal.Visibility.{Visibility}
use Rattle.lalrpop_grammar.specs.declared.nonterminal.Visibility.TheVariants as visible
use Rattle.lalrpop_json_values.specs.declared.key.Key.{Key}
use Rattle.lalrpop_json_values.specs.declared.key.Key.TheVariants as key
use Rattle.lalrpop_json_values.specs.declared.word.Word.TheVariants as word
use Rattle.lalrpop_json_values.specs.Spelled.{list_json, object_of, option_json, span_json, word_json}
use Rattle.lalrpop_json_symbols.specs.Spelling.{attribute_json, literal_json, symbol_json, terminal_json, type_json}

-- ---- alternatives

-- a lookaround action has none
abbrev pub action_json : Option ActionKind → Data
action_json None = null
action_json (Some (actions.User t)) = object_of ((key.User, string t) ∷ [])
action_json (Some (actions.Fallible t)) = object_of ((key.Fallible, string t) ∷ [])
action_json (Some actions.Lookahead) = null
action_json (Some actions.Lookbehind) = null

abbrev pub test_json : ConditionOp → Data
test_json tests.Equals = word_json word.Equals
test_json tests.NotEquals = word_json word.Differs
test_json tests.Match = word_json word.Matches
test_json tests.NotMatch = word_json word.MatchesNot

abbrev pub condition_json : Condition → Data
condition_json c = object_of
    ((key.Lhs, string c.lhs.0) ∷ (key.Op, test_json c.op) ∷ (key.Rhs, string c.rhs) ∷ (key.Span, span_json c.span) ∷ [])

-- up to the condition
abbrev pub first_alternative_members : Alternative → List (Key × Data)
first_alternative_members a =
    (key.Action, action_json a.action) ∷ (key.Attributes, list_json attribute_json a.attributes)
    ∷ (key.Condition, option_json condition_json a.condition) ∷ []

abbrev pub alternative_json : Alternative → Data
alternative_json a =
    object_of ((key.Action, action_json a.action) ∷ (key.Attributes, list_json attribute_json a.attributes)
    ∷ (key.Condition, option_json condition_json a.condition) ∷ (key.Expr, list_json symbol_json a.expr) ∷
    (key.Span, span_json a.span) ∷ [])

-- ---- rules

abbrev pub visibility_json : Visibility → Data
visibility_json visible.Pub = word_json word.Pub
visibility_json visible.Priv = word_json word.Priv
visibility_json (visible.PubIn path) = object_of ((key.PubIn, string path) ∷ [])

abbrev pub parameter_json : NonterminalString → Data
parameter_json n = string n.0

-- up to the name
abbrev pub first_rule_members : NonterminalData → List (Key × Data)
first_rule_members r =
    (key.Alternatives, list_json alternative_json r.alternatives) ∷ (key.Args, list_json parameter_json r.args)
    ∷ (key.Attributes, list_json attribute_json r.attributes) ∷ (key.Kind, word_json word.Rule) ∷ (key.Name, string r.name.0) ∷ []

abbrev pub rule_json : NonterminalData → Data
rule_json r =
    object_of ((key.Alternatives, list_json alternative_json r.alternatives) ∷ (key.Args, list_json parameter_json r.args)
    ∷ (key.Attributes, list_json attribute_json r.attributes) ∷ (key.Kind, word_json word.Rule) ∷ (key.Name, string r.name.0)
    ∷ (key.Span, span_json r.span) ∷ (key.DeclaredType, option_json type_json r.type_decl)
    ∷ (key.Visibility, visibility_json r.visibility) ∷ [])

-- ---- match blocks

abbrev pub mapping_json : MatchMapping → Data
mapping_json maps.Skip = word_json word.Skip
mapping_json (maps.Terminal t) = terminal_json t

abbrev pub entry_json : MatchItem → Data
entry_json (entries.CatchAll s) = object_of ((key.CatchAll, span_json s) ∷ [])
entry_json (entries.Unmapped l s) = object_of ((key.Literal, literal_json l) ∷ (key.Map, null) ∷ (key.Span, span_json s) ∷ [])
entry_json (entries.Mapped l m s) =
    object_of ((key.Literal, literal_json l) ∷ (key.Map, mapping_json m) ∷ (key.Span, span_json s) ∷ [])

abbrev pub contents_json : MatchContents → Data
contents_json c = list_json entry_json c.items

abbrev pub match_json : MatchToken → Data
match_json b = object_of
    ((key.Contents, list_json contents_json b.contents) ∷ (key.Kind, word_json word.Match) ∷ (key.Span, span_json b.span) ∷ [])

-- ---- extern blocks

abbrev pub associated_json : AssociatedType → Data
associated_json a = object_of ((key.Name, string a.name) ∷ (key.DeclaredType, string a.type_text) ∷ [])

abbrev pub conversion_json : Conversion → Data
conversion_json c = object_of ((key.From, terminal_json c.from) ∷ (key.To, string c.to) ∷ [])

abbrev pub enum_json : EnumToken → Data
enum_json e = object_of ((key.Conversions, list_json conversion_json e.conversions) ∷ (key.DeclaredType, string e.type_text) ∷ [])

abbrev pub extern_json : ExternToken → Data
extern_json b =
    object_of ((key.Associated, list_json associated_json b.associated_types) ∷ (key.Enum, option_json enum_json b.enum_token)
    ∷ (key.Kind, word_json word.Extern) ∷ (key.Span, span_json b.span) ∷ [])

-- ---- items

-- a tokenizer's entries have none
abbrev pub item_json : GrammarItem → Data
item_json (items.Nonterminal r) = rule_json r
item_json (items.MatchToken block) = match_json block
item_json (items.ExternToken block) = extern_json block
item_json (items.InternToken entries) = null
item_json (items.Use text) = object_of ((key.Kind, word_json word.Use) ∷ (key.Text, string text) ∷ [])
