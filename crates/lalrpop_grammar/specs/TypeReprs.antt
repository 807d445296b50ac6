-- The types that a grammar's terminals and nonterminals have.
use Rattle.std.specs.Prelude.{◌≡◌, []}
use Rattle.lalrpop_grammar_symbols.specs.Symbols.{Text}
use Rattle.lalrpop_grammar.specs.declared.types.type_repr.TypeRepr.{TypeRepr}
use Rattle.lalrpop_grammar.specs.declared.types.type_repr.TypeRepr.TheVariants as types
use Rattle.lalrpop_grammar.specs.declared.types.type_repr.TypeRepr.TheViews.{roll-NominalTypeRepr}

-- the empty tuple
abbrev pub IsUnit : TypeRepr → Type 0
IsUnit t = t ≡ types.Tuple []

-- the type of that name, without arguments
abbrev pub named_type : Text → TypeRepr
named_type n = types.Nominal (roll-NominalTypeRepr (record { path = n; types = [] }))
