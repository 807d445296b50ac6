-- What the action of an alternative does, in a rule of some type.
use Rattle.std.specs.Prelude.{Bool, true, false, List, [], Option, Some, None}
use Rattle.lalrpop_grammar_symbols.specs.Symbols.{Text}
use Rattle.lalrpop_grammar_symbols.specs.declared.names.NonterminalString.{NonterminalString}
use Rattle.lalrpop_grammar.specs.WrittenGrammar.{Action}
use Rattle.lalrpop_grammar_repr.specs.Maps.{at_name}
use Rattle.lalrpop_grammar_repr.specs.declared.action.ActionFnDefn.{ActionFnDefn}
use Rattle.lalrpop_grammar_repr.specs.declared.action.ActionFnDefnKind.{ActionFnDefnKind}
use Rattle.lalrpop_grammar_repr.specs.declared.action.ActionFnDefnKind.TheVariants as kinds
use Rattle.lalrpop_grammar_repr.specs.declared.action.LookaroundActionFnDefn.TheVariants as lookarounds
use Rattle.lalrpop_grammar.specs.declared.types.type_repr.TypeRepr.{TypeRepr}
use Rattle.lalrpop_grammar.specs.declared.types.type_repr.TypeRepr.TheVariants as types
use Rattle.lalrpop_norm_tyinfer.specs.TypeFaults.{nonterminal_of}

-- the type in a table of rules' types; the empty tuple where it has none for the rule
abbrev pub type_or_unit : Option TypeRepr → TypeRepr
type_or_unit (Some t) = t
type_or_unit None = types.Tuple []

abbrev pub type_in_table : List (NonterminalString × TypeRepr) → Text → TypeRepr
type_in_table table n = type_or_unit (at_name (nonterminal_of n) table)

-- only code behind `=>?` may fail
abbrev pub may_fail : Action → Bool
may_fail (Action.fallible text) = true
may_fail (Action.user text) = false
may_fail Action.default = false
may_fail Action.lookahead = false
may_fail Action.lookbehind = false

-- with that code, or with none
abbrev pub user_kind_of : Option Text → ActionFnDefnKind
user_kind_of code = kinds.User (record { code = code })

-- user code where some is written; lookarounds have kinds of their own
abbrev pub kind_of_action : Action → ActionFnDefnKind
kind_of_action Action.default = user_kind_of None
kind_of_action (Action.user text) = user_kind_of (Some text)
kind_of_action (Action.fallible text) = user_kind_of (Some text)
kind_of_action Action.lookahead = kinds.Lookaround lookarounds.Lookahead
kind_of_action Action.lookbehind = kinds.Lookaround lookarounds.Lookbehind

abbrev pub definition_of : TypeRepr → Action → ActionFnDefn
definition_of t a = record { fallible = may_fail a; ret_type = t; kind = kind_of_action a }
