-- What definitions see of the program's grammars, trees and tokens.
use Rattle.std.specs.Prelude.{Bool, true, false, List, [], ◌∷◌, Option, Some, None, option_map, map}
use Rattle.lalrpop_grammar_symbols.specs.Symbols.{Text, TextSpan}
use Rattle.lalrpop_grammar_symbols.specs.Views.{span_view, literal_view, terminal_view, symbol_view, without_marks}
use Rattle.lalrpop_grammar_symbols.specs.declared.span.Span.{Span}
use Rattle.lalrpop_grammar_symbols.specs.declared.terminal.TerminalLiteral.{TerminalLiteral}
use Rattle.lalrpop_grammar.specs.declared.origin.Origin.{Origin}
use Rattle.lalrpop_grammar.specs.declared.origin.Origin.TheVariants as origins
use Rattle.lalrpop_grammar.specs.declared.condition.ConditionOp.{ConditionOp}
use Rattle.lalrpop_grammar.specs.declared.condition.ConditionOp.TheVariants as tests
use Rattle.lalrpop_grammar.specs.declared.condition.Condition.{Condition}
use Rattle.lalrpop_grammar.specs.declared.alternative.ActionKind.{ActionKind}
use Rattle.lalrpop_grammar.specs.declared.alternative.ActionKind.TheVariants as actions
use Rattle.lalrpop_grammar.specs.declared.alternative.Alternative.{Alternative}
use Rattle.lalrpop_grammar.specs.declared.nonterminal.Visibility.{Visibility}
use Rattle.lalrpop_grammar.specs.declared.nonterminal.Visibility.TheVariants as visible
use Rattle.lalrpop_grammar.specs.declared.nonterminal.NonterminalData.{NonterminalData}
use Rattle.lalrpop_grammar.specs.declared.match_token.MatchMapping.{MatchMapping}
use Rattle.lalrpop_grammar.specs.declared.match_token.MatchMapping.TheVariants as maps
use Rattle.lalrpop_grammar.specs.declared.match_token.MatchItem.{MatchItem}
use Rattle.lalrpop_grammar.specs.declared.match_token.MatchItem.TheVariants as entries
use Rattle.lalrpop_grammar.specs.declared.extern_token.AssociatedType.{AssociatedType}
use Rattle.lalrpop_grammar.specs.declared.extern_token.Conversion.{Conversion}
use Rattle.lalrpop_grammar.specs.declared.extern_token.EnumToken.{EnumToken}
use Rattle.lalrpop_grammar.specs.declared.extern_token.ExternToken.{ExternToken}
use Rattle.lalrpop_grammar.specs.declared.intern_token.MatchEntry.{MatchEntry}
use Rattle.lalrpop_grammar.specs.declared.grammar.GrammarItem.{GrammarItem}
use Rattle.lalrpop_grammar.specs.declared.grammar.GrammarItem.TheVariants as items
use Rattle.lalrpop_grammar.specs.declared.grammar.Grammar.{Grammar}
use Rattle.lalrpop_grammar.specs.declared.types.attribute.Attribute as attributes
use Rattle.lalrpop_grammar.specs.declared.types.attribute.AttributeArg.TheOpen as attr_layer
use Rattle.lalrpop_grammar.specs.declared.types.attribute.AttributeArg.TheFolds as attr_folds
use Rattle.lalrpop_grammar.specs.declared.types.type_ref.TypeRef as types
use Rattle.lalrpop_grammar.specs.declared.types.type_ref.TypeRef.TheOpen as type_layer
use Rattle.lalrpop_grammar.specs.declared.token.ScanToken.{ScanToken}
use Rattle.lalrpop_grammar.specs.declared.tree.WrittenTree as written_trees
use Rattle.lalrpop_grammar.specs.declared.tree.WrittenTree.TheOpen as tree_layer
use Rattle.lalrpop_grammar.specs.Trees as pure_trees
use Rattle.lalrpop_grammar.specs.WrittenGrammar as pure
use Rattle.lalrpop_grammar.specs.WrittenGrammar.{Attr, Attrs}

abbrev pub attrs : List Attr → Attrs
attrs [] = Attrs.none
attrs (a ∷ as_) = Attrs.more a (attrs as_)

abbrev pub arg_step : attr_layer.AttributeArg-F (TextSpan → Text → Attr) Attr → TextSpan → Text → Attr
arg_step attr_layer.Empty p id = Attr.empty p id
arg_step (attr_layer.Paren parts) p id = Attr.paren p id (attrs parts)
arg_step (attr_layer.Equal t) p id = Attr.equal p id t

abbrev pub attribute_step : attr_layer.Attribute-F (TextSpan → Text → Attr) Attr → Attr
attribute_step a = a.arg (span_view a.span) a.id

abbrev pub attribute_view : attributes.Attribute → Attr
attribute_view = attr_folds.fold-Attribute (TextSpan → Text → Attr) Attr arg_step attribute_step

abbrev pub tys : List pure.Ty → pure.Tys
tys [] = pure.Tys.none
tys (t ∷ ts) = pure.Tys.more t (tys ts)

abbrev pub type_step : type_layer.TypeRef-F pure.Ty → pure.Ty
type_step (type_layer.Tuple ts) = pure.Ty.tuple (tys ts)
type_step (type_layer.Nominal path ts) = pure.Ty.nominal path (tys ts)
type_step (type_layer.Id n) = pure.Ty.id n
type_step (type_layer.OfSymbol s) = pure.Ty.of_symbol (symbol_view s)
type_step (type_layer.Ref lifetime mutable t) = pure.Ty.ref lifetime mutable t
type_step (type_layer.Opaque text) = pure.Ty.opaque text

-- the type as definitions see it
abbrev pub type_view : types.TypeRef → pure.Ty
type_view = types.fold-TypeRef pure.Ty type_step

abbrev pub origin_view : Origin → pure.Origin
origin_view origins.Start = pure.Origin.start
origin_view (origins.Alternative n args at) = pure.Origin.alternative n.0 (map (λ s. without_marks (symbol_view s)) args) at
origin_view origins.PassDown = pure.Origin.pass_down
origin_view origins.PlusOne = pure.Origin.plus_one
origin_view origins.PlusMore = pure.Origin.plus_more
origin_view origins.StarNone = pure.Origin.star_none
origin_view origins.StarSome = pure.Origin.star_some
origin_view origins.OptNone = pure.Origin.opt_none
origin_view origins.OptSome = pure.Origin.opt_some
origin_view origins.Group = pure.Origin.group
origin_view origins.Look = pure.Origin.look

abbrev pub condition_op_view : ConditionOp → pure.ConditionTest
condition_op_view tests.Equals = pure.ConditionTest.equals
condition_op_view tests.NotEquals = pure.ConditionTest.not_equals
condition_op_view tests.Match = pure.ConditionTest.matches
condition_op_view tests.NotMatch = pure.ConditionTest.not_matches

abbrev pub condition_view : Condition → pure.Condition
condition_view c = record { place = span_view c.span; parameter = c.lhs.0; test = condition_op_view c.op; against = c.rhs }

abbrev pub action_view : Option ActionKind → pure.Action
action_view None = pure.Action.default
action_view (Some (actions.User t)) = pure.Action.user t
action_view (Some (actions.Fallible t)) = pure.Action.fallible t
action_view (Some actions.Lookahead) = pure.Action.lookahead
action_view (Some actions.Lookbehind) = pure.Action.lookbehind

abbrev pub alternative_view : Alternative → pure.Alternative
alternative_view a = record {
  span = span_view a.span;
  expr = map symbol_view a.expr;
  condition = option_map condition_view a.condition;
  action = action_view a.action;
  attributes = map attribute_view a.attributes;
  origin = origin_view a.origin;
}

abbrev pub is_public : Visibility → Bool
is_public visible.Pub = true
is_public (visible.PubIn t) = true
is_public visible.Priv = false

abbrev pub nonterminal_view : NonterminalData → pure.Rule
nonterminal_view d = record {
  public = is_public d.visibility;
  name = d.name.0;
  attributes = map attribute_view d.attributes;
  span = span_view d.span;
  parameters = map (λ n. n.0) d.args;
  declared = option_map type_view d.type_decl;
  alternatives = map alternative_view d.alternatives;
}

abbrev pub mapping_view : TerminalLiteral → MatchMapping → Span → pure.WrittenEntry
mapping_view l (maps.Terminal t) p = pure.WrittenEntry.mapped (literal_view l) (terminal_view t) (span_view p)
mapping_view l maps.Skip p = pure.WrittenEntry.skip (literal_view l) (span_view p)

abbrev pub match_item_view : MatchItem → pure.WrittenEntry
match_item_view (entries.CatchAll p) = pure.WrittenEntry.catch_all (span_view p)
match_item_view (entries.Unmapped l p) = pure.WrittenEntry.unmapped (literal_view l) (span_view p)
match_item_view (entries.Mapped l m p) = mapping_view l m p

abbrev pub associated_type_view : AssociatedType → pure.AssociatedType
associated_type_view a = record { name = a.name; type_text = a.type_text }

abbrev pub conversion_view : Conversion → pure.Conversion
conversion_view c = record { from = terminal_view c.from; to = c.to }

abbrev pub enum_token_view : EnumToken → pure.EnumToken
enum_token_view e =
    record { conversions = map (λ c. record { from = terminal_view c.from; to = c.to }) e.conversions; type_text = e.type_text }

abbrev pub extern_view : ExternToken → pure.ExternBlock
extern_view e = record {
  span = span_view e.span;
  associated_types = map associated_type_view e.associated_types;
  enum_token = option_map enum_token_view e.enum_token;
}

abbrev pub entry_mapping_view : MatchMapping → pure.EntryMapping
entry_mapping_view (maps.Terminal t) = pure.EntryMapping.terminal (terminal_view t)
entry_mapping_view maps.Skip = pure.EntryMapping.skip

abbrev pub intern_entry_view : MatchEntry → pure.InternEntry
intern_entry_view e = record {
  precedence = e.precedence;
  literal = literal_view e.match_literal;
  mapping = entry_mapping_view e.user_name;
}

abbrev pub item_view : GrammarItem → pure.WrittenItem
item_view (items.MatchToken m) = pure.WrittenItem.match_token (map (λ c. map match_item_view c.items) m.contents) (span_view m.span)
item_view (items.ExternToken e) = pure.WrittenItem.extern_token (extern_view e)
item_view (items.InternToken e) = pure.WrittenItem.intern_token (map intern_entry_view e.match_entries)
item_view (items.Use t) = pure.WrittenItem.import t
item_view (items.Nonterminal d) = pure.WrittenItem.nonterminal (nonterminal_view d)

abbrev pub grammar_view : Grammar → pure.Grammar
grammar_view g = record {
  prefix = g.prefix;
  span = span_view g.span;
  parameters = g.parameters;
  type_parameters = g.type_parameters;
  where_clauses = g.where_clauses;
  attributes = map attribute_view g.attributes;
  items = map item_view g.items;
}

abbrev pub token_view : ScanToken → pure_trees.Token
token_view t = record { terminal = terminal_view t.terminal; text = t.text.now; span = span_view t.span }

abbrev pub opt_view : Option pure_trees.Tree → pure_trees.Tree
opt_view None = pure_trees.Tree.opt_none
opt_view (Some t) = pure_trees.Tree.opt_some t

abbrev pub tree_step : tree_layer.WrittenTree-F pure_trees.Tree → pure_trees.Tree
tree_step (tree_layer.Rule n args at children) =
    pure_trees.Tree.rule n.0 (map (λ s. without_marks (symbol_view s)) args) at (pure_trees.trees children)
tree_step (tree_layer.List ts) = pure_trees.Tree.list (pure_trees.trees ts)
tree_step (tree_layer.Opt t) = opt_view t
tree_step (tree_layer.Group ts) = pure_trees.Tree.group (pure_trees.trees ts)
tree_step (tree_layer.Terminal t text span) =
    pure_trees.Tree.terminal (record { terminal = terminal_view t; text = text; span = span_view span })
tree_step tree_layer.Look = pure_trees.Tree.look

-- the tree as definitions see it
abbrev pub tree_view : written_trees.WrittenTree → pure_trees.Tree
tree_view = written_trees.fold-WrittenTree pure_trees.Tree tree_step
