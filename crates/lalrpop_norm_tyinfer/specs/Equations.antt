-- What gives rules their types: one equation for a declared type, or one for each alternative without user code.
use Rattle.std.specs.Prelude.{ℕ, ◌+◌, ◌≡◌, Bool, true, false, List, [], ◌∷◌, Option, Some, None, map, filter, flat_map}
use Rattle.lalrpop_grammar_symbols.specs.Symbols.{WrittenSymbol}
use Rattle.lalrpop_grammar.specs.WrittenGrammar.{Action, Alternative, Grammar, Rule, Ty, rules_of}
use Rattle.lalrpop_norm_theory.specs.Types.{GroundType}
use Rattle.lalrpop_norm_tyinfer.specs.TypesByTable.{KnownNames, RuleTypes, symbols_ground_type, written_ground_type}

-- a declared type, or the symbols of an alternative
pub data TypeSource : Type 0 where
  declared : Ty → TypeSource
  symbols : List WrittenSymbol → TypeSource

-- the rule has the type that the source gives
pub record TypeEquation : Type 0 where
  pub rule : Rule
  pub source : TypeSource

abbrev pub source_ground_type : KnownNames → RuleTypes → TypeSource → Option GroundType
source_ground_type k table (TypeSource.declared y) = written_ground_type k table y
source_ground_type k table (TypeSource.symbols xs) = symbols_ground_type k table xs

abbrev pub is_default_action : Action → Bool
is_default_action Action.default = true
is_default_action (Action.user text) = false
is_default_action (Action.fallible text) = false
is_default_action Action.lookahead = false
is_default_action Action.lookbehind = false

-- those of alternatives without user code
abbrev pub equations_of_alternatives : Rule → List Alternative → List TypeEquation
equations_of_alternatives r alternatives =
    map (λ a. record { rule = r; source = TypeSource.symbols a.expr })
    (filter (λ a. is_default_action a.action) alternatives)

abbrev pub equations_by : Rule → Option Ty → List TypeEquation
equations_by r (Some y) = record { rule = r; source = TypeSource.declared y } ∷ []
equations_by r None = equations_of_alternatives r r.alternatives

-- a declared type alone counts
abbrev pub equations_of_rule : Rule → List TypeEquation
equations_of_rule r = equations_by r r.declared

abbrev pub equations_of_rules : List Rule → List TypeEquation
equations_of_rules = flat_map equations_of_rule

abbrev pub type_equations : Grammar → List TypeEquation
type_equations g = equations_of_rules (rules_of g.items)

-- what the equation gives by the table is what the table has
abbrev pub Agrees : KnownNames → RuleTypes → TypeEquation → Type 0
Agrees k table e = (t : GroundType) → source_ground_type k table e.source ≡ Some t → table e.rule.name ≡ Some t

abbrev pub AllAgree : KnownNames → RuleTypes → List TypeEquation → Type 0
AllAgree k table [] = Unit {0}
AllAgree k table (e ∷ es) = Agrees k table e × AllAgree k table es

-- the equation gives a rule a type that has none yet
pub record GivesType (k : KnownNames) (table : RuleTypes) (e : TypeEquation) (t : GroundType) : Type 0 where
  pub untyped : table e.rule.name ≡ None
  pub given : source_ground_type k table e.source ≡ Some t

abbrev pub one_untyped : Option GroundType → ℕ
one_untyped None = 1
one_untyped (Some t) = 0

-- how many equations are of rules without a type
abbrev pub untyped_equations : RuleTypes → List TypeEquation → ℕ
untyped_equations table [] = 0
untyped_equations table (e ∷ es) = one_untyped (table e.rule.name) + untyped_equations table es
