-- The format of grammars and of trees, as a table.
use Rattle.std.specs.Prelude.{List, [], ◌∷◌}
use Rattle.lalrpop_json_values.specs.declared.key.Key.TheVariants as key
use Rattle.lalrpop_json_values.specs.declared.word.Word.{Word}
use Rattle.lalrpop_json_values.specs.declared.word.Word.TheVariants as word
use Rattle.lalrpop_json_grammar.specs.Wanted.{Forms, Layout, Component, Wanted}

-- a list of one component
abbrev pub list_of_component : Component → Wanted
list_of_component p = Wanted.list (Wanted.component p)

-- `null`, or a component
abbrev pub optional_component : Component → Wanted
optional_component p = Wanted.optional (Wanted.component p)

-- this very word
abbrev pub kind_is : Word → Wanted
kind_is w = Wanted.word (w ∷ [])

-- ---- literals and attributes

abbrev pub quoted_layout : Layout
quoted_layout = (key.Quoted, Wanted.text) ∷ []

abbrev pub regex_layout : Layout
regex_layout = (key.Regex, Wanted.text) ∷ []

abbrev pub bare_layout : Layout
bare_layout = (key.Bare, Wanted.name) ∷ []

abbrev pub equal_layout : Layout
equal_layout = (key.Equal, Wanted.text) ∷ []

abbrev pub paren_layout : Layout
paren_layout = (key.Paren, list_of_component Component.attribute) ∷ []

abbrev pub attribute_layout : Layout
attribute_layout = (key.Arg, optional_component Component.argument) ∷ (key.Id, Wanted.name) ∷ (key.Span, Wanted.span) ∷ []

-- ---- symbols

abbrev pub id_layout : Layout
id_layout = (key.Kind, kind_is word.Id) ∷ (key.Name, Wanted.name) ∷ (key.Span, Wanted.span) ∷ []

abbrev pub literal_layout : Layout
literal_layout =
    (key.Kind, kind_is word.Terminal) ∷ (key.Span, Wanted.span) ∷ (key.Terminal, Wanted.component Component.literal) ∷ []

abbrev pub group_layout : Layout
group_layout = (key.Expr, list_of_component Component.symbol) ∷ (key.Kind, kind_is word.Group) ∷ (key.Span, Wanted.span) ∷ []

abbrev pub macro_layout : Layout
macro_layout =
    (key.Args, list_of_component Component.symbol) ∷ (key.Kind, kind_is word.Macro) ∷ (key.Name, Wanted.name)
    ∷ (key.Span, Wanted.span) ∷ []

abbrev pub repeat_layout : Layout
repeat_layout =
    (key.Kind, kind_is word.Repeat) ∷ (key.Op, Wanted.word (word.Star ∷ word.Plus ∷ word.Question ∷ []))
    ∷ (key.Span, Wanted.span) ∷ (key.Symbol, Wanted.component Component.symbol) ∷ []

abbrev pub choose_layout : Layout
choose_layout = (key.Kind, kind_is word.Choose) ∷ (key.Span, Wanted.span) ∷ (key.Symbol, Wanted.component Component.symbol) ∷ []

abbrev pub named_layout : Layout
named_layout =
    (key.Kind, kind_is word.Named) ∷ (key.Mutable, Wanted.flag) ∷ (key.Name, Wanted.name) ∷ (key.Span, Wanted.span)
    ∷ (key.Symbol, Wanted.component Component.symbol) ∷ []

-- `@L`, `@R` and `!`
abbrev pub look_layout : Word → Layout
look_layout w = (key.Kind, kind_is w) ∷ (key.Span, Wanted.span) ∷ []

abbrev pub symbol_forms : List (Word × Layout)
symbol_forms =
    (word.Id, id_layout) ∷ (word.Terminal, literal_layout) ∷ (word.Group, group_layout) ∷ (word.Macro, macro_layout)
    ∷ (word.Repeat, repeat_layout) ∷ (word.Choose, choose_layout) ∷ (word.Named, named_layout)
    ∷ (word.Lookahead, look_layout word.Lookahead) ∷ (word.Lookbehind, look_layout word.Lookbehind)
    ∷ (word.Error, look_layout word.Error) ∷ []

-- ---- types

abbrev pub tuple_layout : Layout
tuple_layout = (key.Tuple, list_of_component Component.type) ∷ []

abbrev pub nominal_layout : Layout
nominal_layout = (key.Args, list_of_component Component.type) ∷ (key.Path, Wanted.text) ∷ []

abbrev pub id_type_layout : Layout
id_type_layout = (key.Id, Wanted.name) ∷ []

abbrev pub of_symbol_layout : Layout
of_symbol_layout = (key.Symbol, Wanted.component Component.symbol) ∷ []

abbrev pub ref_layout : Layout
ref_layout =
    (key.Lifetime, Wanted.optional Wanted.text) ∷ (key.Mutable, Wanted.flag) ∷ (key.Ref, Wanted.component Component.type) ∷ []

abbrev pub opaque_layout : Layout
opaque_layout = (key.Text, Wanted.text) ∷ []

abbrev pub type_forms : List Layout
type_forms = tuple_layout ∷ nominal_layout ∷ id_type_layout ∷ of_symbol_layout ∷ ref_layout ∷ opaque_layout ∷ []

-- ---- alternatives

abbrev pub user_layout : Layout
user_layout = (key.User, Wanted.text) ∷ []

abbrev pub fallible_layout : Layout
fallible_layout = (key.Fallible, Wanted.text) ∷ []

abbrev pub condition_layout : Layout
condition_layout =
    (key.Lhs, Wanted.name) ∷ (key.Op, Wanted.word (word.Equals ∷ word.Differs ∷ word.Matches ∷ word.MatchesNot ∷ []))
    ∷ (key.Rhs, Wanted.text) ∷ (key.Span, Wanted.span) ∷ []

abbrev pub alternative_layout : Layout
alternative_layout =
    (key.Action, optional_component Component.action) ∷ (key.Attributes, list_of_component Component.attribute)
    ∷ (key.Condition, optional_component Component.condition) ∷ (key.Expr, list_of_component Component.symbol)
    ∷ (key.Span, Wanted.span) ∷ []

-- ---- items

abbrev pub pub_in_layout : Layout
pub_in_layout = (key.PubIn, Wanted.text) ∷ []

abbrev pub rule_layout : Layout
rule_layout =
    (key.Alternatives, Wanted.alternatives (Wanted.component Component.alternative)) ∷ (key.Args, Wanted.list Wanted.name)
    ∷ (key.Attributes, list_of_component Component.attribute) ∷ (key.Kind, kind_is word.Rule) ∷ (key.Name, Wanted.name)
    ∷ (key.Span, Wanted.span) ∷ (key.DeclaredType, optional_component Component.type)
    ∷ (key.Visibility, Wanted.word_or (word.Pub ∷ word.Priv ∷ []) (Wanted.component Component.visibility)) ∷ []

abbrev pub catch_all_layout : Layout
catch_all_layout = (key.CatchAll, Wanted.span) ∷ []

abbrev pub entry_layout : Layout
entry_layout =
    (key.Literal, Wanted.component Component.literal)
    ∷ (key.Map, Wanted.optional (Wanted.word_or (word.Skip ∷ []) (Wanted.component Component.terminal))) ∷ (key.Span, Wanted.span)
    ∷ []

abbrev pub match_layout : Layout
match_layout =
    (key.Contents, Wanted.list (list_of_component Component.entry)) ∷ (key.Kind, kind_is word.Match) ∷ (key.Span, Wanted.span)
    ∷ []

abbrev pub associated_layout : Layout
associated_layout = (key.Name, Wanted.name) ∷ (key.DeclaredType, Wanted.text) ∷ []

abbrev pub conversion_layout : Layout
conversion_layout = (key.From, Wanted.component Component.terminal) ∷ (key.To, Wanted.text) ∷ []

abbrev pub enumeration_layout : Layout
enumeration_layout = (key.Conversions, list_of_component Component.conversion) ∷ (key.DeclaredType, Wanted.text) ∷ []

abbrev pub extern_layout : Layout
extern_layout =
    (key.Associated, list_of_component Component.associated) ∷ (key.Enum, optional_component Component.enumeration)
    ∷ (key.Kind, kind_is word.Extern) ∷ (key.Span, Wanted.span) ∷ []

abbrev pub import_layout : Layout
import_layout = (key.Kind, kind_is word.Use) ∷ (key.Text, Wanted.text) ∷ []

abbrev pub item_forms : List (Word × Layout)
item_forms =
    (word.Rule, rule_layout) ∷ (word.Match, match_layout) ∷ (word.Extern, extern_layout) ∷ (word.Use, import_layout) ∷ []

abbrev pub grammar_layout : Layout
grammar_layout =
    (key.Attributes, list_of_component Component.attribute) ∷ (key.Items, list_of_component Component.item)
    ∷ (key.Parameters, Wanted.text) ∷ (key.Span, Wanted.span) ∷ (key.TypeParameters, Wanted.text)
    ∷ (key.WhereClauses, Wanted.text) ∷ []

-- ---- trees

abbrev pub node_layout : Layout
node_layout =
    (key.Args, list_of_component Component.symbol) ∷ (key.Children, list_of_component Component.tree) ∷ (key.Place, Wanted.number)
    ∷ (key.Rule, Wanted.name) ∷ []

abbrev pub list_tree_layout : Layout
list_tree_layout = (key.List, list_of_component Component.tree) ∷ []

abbrev pub option_tree_layout : Layout
option_tree_layout = (key.Opt, optional_component Component.tree) ∷ []

abbrev pub group_tree_layout : Layout
group_tree_layout = (key.Group, list_of_component Component.tree) ∷ []

abbrev pub leaf_layout : Layout
leaf_layout = (key.Span, Wanted.span) ∷ (key.Terminal, Wanted.component Component.terminal) ∷ (key.Text, Wanted.text) ∷ []

abbrev pub look_tree_layout : Layout
look_tree_layout = (key.Look, Wanted.nothing) ∷ []

abbrev pub tree_forms : List Layout
tree_forms = node_layout ∷ list_tree_layout ∷ option_tree_layout ∷ group_tree_layout ∷ leaf_layout ∷ look_tree_layout ∷ []

-- ---- all components

abbrev pub forms_of : Component → Forms
forms_of Component.action = Forms.by_key (user_layout ∷ fallible_layout ∷ [])
forms_of Component.alternative = Forms.one alternative_layout
forms_of Component.argument = Forms.by_key (equal_layout ∷ paren_layout ∷ [])
forms_of Component.associated = Forms.one associated_layout
forms_of Component.attribute = Forms.one attribute_layout
forms_of Component.condition = Forms.one condition_layout
forms_of Component.conversion = Forms.one conversion_layout
forms_of Component.entry = Forms.by_key (catch_all_layout ∷ entry_layout ∷ [])
forms_of Component.enumeration = Forms.one enumeration_layout
forms_of Component.grammar = Forms.one grammar_layout
forms_of Component.item = Forms.by_kind item_forms
forms_of Component.literal = Forms.by_key (quoted_layout ∷ regex_layout ∷ [])
forms_of Component.symbol = Forms.by_kind symbol_forms
forms_of Component.terminal = Forms.by_key (quoted_layout ∷ regex_layout ∷ bare_layout ∷ [])
forms_of Component.tree = Forms.by_key tree_forms
forms_of Component.type = Forms.by_key type_forms
forms_of Component.visibility = Forms.by_key (pub_in_layout ∷ [])
forms_of Component.rule = Forms.one rule_layout
forms_of Component.match_block = Forms.one match_layout
forms_of Component.extern_block = Forms.one extern_layout
