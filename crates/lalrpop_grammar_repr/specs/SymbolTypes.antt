-- The type that a table has for a symbol.
use Rattle.std.specs.Prelude.{Option}
use Rattle.lalrpop_grammar_repr.specs.declared.production.Symbol.{Symbol}
use Rattle.lalrpop_grammar_repr.specs.declared.production.Symbol.TheVariants as symbols
use Rattle.lalrpop_grammar.specs.declared.types.type_repr.TypeRepr.{TypeRepr}
use Rattle.lalrpop_grammar_repr.specs.declared.types.Types.{Types}
use Rattle.lalrpop_grammar_repr.specs.Maps.{at_name, at_terminal}

abbrev pub type_of_symbol : Symbol → Types → Option TypeRepr
type_of_symbol (symbols.Nonterminal n) t = at_name n t.nonterminal_types
type_of_symbol (symbols.Terminal n) t = at_terminal n t.terminal_types
