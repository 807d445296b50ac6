-- What definitions see of the names that a grammar defines, and of what names stand for in a rule.
use Rattle.std.specs.Prelude.{List}
use Rattle.lalrpop_grammar_symbols.specs.Symbols.{Text}
use Rattle.lalrpop_grammar.specs.Views.{grammar_view, nonterminal_view}
use Rattle.lalrpop_norm_theory.specs.Resolving.{DefinedNames, NameUse, defined_names}
use Rattle.lalrpop_norm_resolve.specs.declared.names.definitions.Definitions.{Definitions}
use Rattle.lalrpop_norm_resolve.specs.declared.names.definitions.Scope.{Scope}
use Rattle.lalrpop_norm_resolve.specs.declared.names.definitions.NameUse as uses
use Rattle.lalrpop_norm_resolve.specs.declared.names.definitions.NameUse.TheVariants as uses_of

abbrev pub name_use_view : uses.NameUse → NameUse
name_use_view uses_of.Parameter = NameUse.parameter
name_use_view uses_of.PlainRule = NameUse.plain_rule
name_use_view uses_of.MacroRule = NameUse.macro_rule
name_use_view uses_of.Mapped = NameUse.mapped
name_use_view uses_of.Nothing = NameUse.nothing

abbrev pub definition_names : Definitions → DefinedNames
definition_names d = defined_names (grammar_view d.grammar.now)

abbrev pub scope_names : Scope → DefinedNames
scope_names s = definition_names s.definitions.now

abbrev pub scope_parameters : Scope → List Text
scope_parameters s = (nonterminal_view s.rule.now).parameters
