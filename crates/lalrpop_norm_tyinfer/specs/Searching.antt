-- What one step of the search for types finds, and how much is left of the search.
use Rattle.std.specs.Prelude.{ℕ, ◌+◌, ◌*◌, ◌≡◌, ◌≢◌, Bool, ◌&&◌, ◌||◌, not, Option, Some, None, MatchOption}
use Rattle.std.specs.Prelude.{is_none, vec_len}
use Rattle.lalrpop_grammar_symbols.specs.Views.{span_view}
use Rattle.lalrpop_grammar.specs.WrittenGrammar.{Grammar, Rule}
use Rattle.lalrpop_grammar_language.specs.Among.{Among}
use Rattle.lalrpop_grammar_repr.specs.declared.session.NormFault.{NormFault}
use Rattle.lalrpop_grammar_repr.specs.declared.session.NormFault.TheVariants as faults
use Rattle.lalrpop_grammar.specs.declared.types.type_repr.TypeRepr.{TypeRepr}
use Rattle.lalrpop_norm_theory.specs.Types.{GroundType}
use Rattle.lalrpop_norm_tyinfer.specs.GroundViews.{type_repr_view}
use Rattle.lalrpop_norm_tyinfer.specs.TypesByTable.{RuleTypes}
use Rattle.lalrpop_norm_tyinfer.specs.Equations.{GivesType, type_equations, untyped_equations}
use Rattle.lalrpop_norm_tyinfer.specs.TypeFaults.{TypeFault, is_part_rule, type_fault}
use Rattle.lalrpop_norm_tyinfer.specs.ProgramViews.{AreEquations, IsRightTable, equation_view, grammar_of, names_view, rule_types}
use Rattle.lalrpop_norm_tyinfer.specs.declared.equations.Equation.{Equation}
use Rattle.lalrpop_norm_tyinfer.specs.declared.names.Names.{Names}
use Rattle.lalrpop_norm_tyinfer.specs.declared.progress.GrammarEquations.{GrammarEquations}
use Rattle.lalrpop_norm_tyinfer.specs.declared.progress.Progress.{Progress}

-- the type where there was none, and nothing where it is the one that was there
abbrev pub IsNewType : Option GroundType → GroundType → Option TypeRepr → Type 0
IsNewType known t found = MatchOption found (known ≡ Some t) (λ ty. (known ≡ None) × (type_repr_view ty ≡ t))

-- another type was there
abbrev pub IsDisagreement : Option GroundType → GroundType → Rule → NormFault → Type 0
IsDisagreement known t r (faults.Norm error) =
    (type_fault error.kind (span_view error.span) ≡ TypeFault.disagree r.span) × (u : GroundType) × (known ≡ Some u) × (u ≢ t)
IsDisagreement known t r faults.Memory = ⊥
IsDisagreement known t r faults.ConditionLimit = ⊥

-- each equation of a rule without type counts twice, and each rule whose type is new once
abbrev pub work_left : Grammar → RuleTypes → ℕ → ℕ
work_left g table new = 2 * untyped_equations table (type_equations g) + new

abbrev pub left_to_search : GrammarEquations → Progress → ℕ
left_to_search given p = work_left (grammar_of given.names.now) (rule_types p.table) (vec_len p.typed)

-- the equations are those of the grammar
abbrev pub AreGivenEquations : GrammarEquations → Type 0
AreGivenEquations given = AreEquations given.names.now given.equations.now

-- all types that are found are right
abbrev pub IsRightSoFar : GrammarEquations → Progress → Type 0
IsRightSoFar given p = IsRightTable (grammar_of given.names.now) (rule_types p.table)

-- an equation of the grammar whose rule has no type yet, with the type that it gives
pub record IsOpenEquation (names : Names) (table : RuleTypes) (e : Equation) (t : GroundType) : Type 0 where
  pub of_grammar : Among (type_equations (grammar_of names)) (equation_view e)
  pub gives : GivesType (names_view names) table (equation_view e) t

-- the rule has no type, and is none of a repeat or a group but where those count, too
abbrev pub is_untyped_rule : RuleTypes → Bool → Rule → Bool
is_untyped_rule table parts r = is_none (table r.name) && (parts || not (is_part_rule r))

-- the fault says that the rule has no type, or memory ran out
abbrev pub TellsUntyped : Rule → NormFault → Type 0
TellsUntyped r (faults.Norm error) = type_fault error.kind (span_view error.span) ≡ TypeFault.untyped r.name r.span
TellsUntyped r faults.Memory = Unit {0}
TellsUntyped r faults.ConditionLimit = ⊥
