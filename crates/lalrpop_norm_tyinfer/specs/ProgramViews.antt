-- What definitions see of the names, equations and tables of the search for types.
use Rattle.std.specs.Prelude.{◌≡◌, List, Some, map, option_map}
use Rattle.lalrpop_grammar_symbols.specs.Symbols.{Text}
use Rattle.lalrpop_grammar_symbols.specs.Views.{symbol_view}
use Rattle.lalrpop_grammar_symbols.specs.declared.names.NonterminalString.{NonterminalString}
use Rattle.lalrpop_grammar.specs.Views.{grammar_view, nonterminal_view, type_view}
use Rattle.lalrpop_grammar.specs.WrittenGrammar as pure
use Rattle.lalrpop_grammar_language.specs.Among.{Among}
use Rattle.lalrpop_grammar_repr.specs.Maps.{at_name}
use Rattle.lalrpop_grammar.specs.declared.types.type_repr.TypeRepr.{TypeRepr}
use Rattle.lalrpop_norm_theory.specs.Types.{GroundType, IsGrounded}
use Rattle.lalrpop_norm_tyinfer.specs.GroundViews.{type_repr_view}
use Rattle.lalrpop_norm_tyinfer.specs.TypesByTable.{KnownNames, RuleTypes, known_names}
use Rattle.lalrpop_norm_tyinfer.specs.Equations.{TypeEquation, TypeSource as PureSource, source_ground_type, type_equations}
use Rattle.lalrpop_norm_tyinfer.specs.TypeFaults.{WhereExpanded, nonterminal_of, rule_symbol}
use Rattle.lalrpop_norm_tyinfer.specs.declared.equations.Equation.{Equation}
use Rattle.lalrpop_norm_tyinfer.specs.declared.equations.TypeSource.{TypeSource}
use Rattle.lalrpop_norm_tyinfer.specs.declared.equations.TypeSource.TheVariants as sources
use Rattle.lalrpop_norm_tyinfer.specs.declared.names.Names.{Names}

-- the table as a function
abbrev pub rule_types : List (NonterminalString × TypeRepr) → RuleTypes
rule_types es n = option_map type_repr_view (at_name (nonterminal_of n) es)

abbrev pub grammar_of : Names → pure.Grammar
grammar_of names = grammar_view names.grammar.now

abbrev pub names_view : Names → KnownNames
names_view names = known_names (grammar_of names)

abbrev pub source_view : TypeSource → PureSource
source_view (sources.Declared y) = PureSource.declared (type_view y.now)
source_view (sources.Symbols xs) = PureSource.symbols (map symbol_view xs.now)

abbrev pub equation_view : Equation → TypeEquation
equation_view e = record { rule = nonterminal_view e.rule.now; source = source_view e.source }

-- the equations are those of the grammar
abbrev pub AreEquations : Names → List Equation → Type 0
AreEquations names es = map equation_view es ≡ type_equations (grammar_of names)

-- Each type in the table is one that its rule has, and one that an equation of the rule gives by the table.
pub record IsRightTable (g : pure.Grammar) (table : RuleTypes) : Type 0 where
  pub grounded : WhereExpanded g (λ e. (n : Text) (t : GroundType) → table n ≡ Some t → IsGrounded e (rule_symbol n) t)
  pub given : (n : Text) (t : GroundType) → table n ≡ Some t
      → (e : TypeEquation) × Among (type_equations g) e × (e.rule.name ≡ n)
      × (source_ground_type (known_names g) table e.source ≡ Some t)
