-- What is found at one equation, as faults of the grammar; for the search for types.
use Rattle.std.proofs.Common.{◌≡◌, ◌∙◌, ◌<◌, ℕ, zero, suc, ap, sym, refl, subst, inl, inr, List, [], ◌∷◌}
use Rattle.std.proofs.Common.{arith, get_or, length}
use Rattle.std.specs.Prelude.{Bool, IfErr, MatchResult, Option, Some, None, Result, Ok, Err}
use Rattle.lalrpop_grammar_symbols.specs.Symbols.{Text}
use Rattle.lalrpop_grammar.specs.WrittenGrammar.{Grammar, Rule, Ty, rules_of}
use Rattle.lalrpop_grammar_language.specs.Among.{Among}
use Rattle.lalrpop_grammar_language.specs.Enabled.{Choice}
use Rattle.lalrpop_grammar_language.specs.Levels.{Rank}
use Rattle.lalrpop_grammar_repr.specs.declared.session.NormFault.{NormFault}
use Rattle.lalrpop_grammar_repr.specs.declared.session.NormFault.TheVariants as faults
use Rattle.lalrpop_grammar.specs.declared.types.type_repr.TypeRepr.{TypeRepr}
use Rattle.lalrpop_norm_theory.specs.Between.{grammar_between}
use Rattle.lalrpop_norm_theory.specs.Premises.{IsExpanded}
use Rattle.lalrpop_norm_theory.specs.Types.{GroundType}
use Rattle.lalrpop_grammar_language.proofs.AmongLemmas.{map_among}
use Rattle.lalrpop_norm_tyinfer.specs.TypesByTable.{RuleTypes, known_names}
use Rattle.lalrpop_norm_tyinfer.specs.Equations.{TypeEquation, TypeSource, equations_by, equations_of_rule, source_ground_type, type_equations}
use Rattle.lalrpop_norm_tyinfer.specs.TypeFaults.{HasDisagreeingAlternatives, IsToldTypeFault, IsTypeFault}
use Rattle.lalrpop_norm_tyinfer.specs.Searching.{IsDisagreement, IsNewType}
use Rattle.lalrpop_norm_tyinfer.specs.ProgramViews.{AreEquations, IsRightTable, equation_view, grammar_of}
use Rattle.lalrpop_norm_tyinfer.specs.declared.equations.Equation.{Equation}
use Rattle.lalrpop_norm_tyinfer.specs.declared.names.Names.{Names}
use Rattle.lalrpop_norm_tyinfer.proofs.EquationLemmas.{equation_default, equation_own, equation_rule, rule_by_name}

-- a rule with equations of two sources declares no type
no_type_declared : (r : Rule) (d e : TypeEquation) → Among (equations_of_rule r) d → Among (equations_of_rule r) e
    → (d.source ≡ e.source → ⊥) → r.declared ≡ None
no_type_declared r d e i j apart = go r.declared i j
  where
    go : (o : Option Ty) → Among (equations_by r o) d → Among (equations_by r o) e → o ≡ None
    go None k l = refl
    go (Some y) (inl f) (inl h) = absurd (apart (ap (λ (x : TypeEquation). x.source) (sym f ∙ h)))
    go (Some y) (inl f) (inr l) = absurd l
    go (Some y) (inr k) l = absurd k

-- a type that differs from the table's is a fault of the rule
pub disagreement : (g : Grammar) (e : TypeEquation) (table : RuleTypes) (t : GroundType) → Among (type_equations g) e
    → IsRightTable g table → source_ground_type (known_names g) table e.source ≡ Some t
    → (r : Result (Option TypeRepr) NormFault)
    → MatchResult r (IsNewType (table e.rule.name) t) (IsDisagreement (table e.rule.name) t e.rule) → IfErr r (IsTypeFault g)
disagreement g e table t i right f (Ok o) h = tt
disagreement g e table t i right f (Err (faults.Norm error)) h = λ finds w.
    subst (λ k. IsToldTypeFault (grammar_between finds g) (rules_of g.items) k) (sym h.0) (
      e.rule,
      equation_rule g e i,
      refl,
      disagreeing finds w (right.given e.rule.name h.1 h.2),
    )
  where
    -- the alternative of the table's type and that of this one
    disagreeing : (finds : Text → Text → Option Bool) → IsExpanded (grammar_between finds g)
        → (d : TypeEquation) × Among (type_equations g) d × (d.rule.name ≡ e.rule.name)
        × (source_ground_type (known_names g) table d.source ≡ Some h.1)
        → HasDisagreeingAlternatives (grammar_between finds g) e.rule.name
    disagreeing finds w u =
        let d : TypeEquation = u.0 in
        let own : Among (equations_of_rule e.rule) d =
        subst (λ r. Among (equations_of_rule r) d)
        (rule_by_name finds g w d.rule e.rule (equation_rule g d u.1) (equation_rule g e i) u.2) (equation_own g d u.1) in
        let apart : d.source ≡ e.source → ⊥ =
        λ same.
        let known : Some h.1 ≡ Some t = sym u.3 ∙ ap (source_ground_type (known_names g) table) same ∙ f in
        let wrong : h.1 ≡ t = cc in
        h.3 wrong in
        let undeclared = no_type_declared e.rule d e own (equation_own g e i) apart in
        let grounded = right.grounded finds w in
        let first = equation_default finds g w table grounded e.rule (equation_rule g e i) undeclared d own h.1 u.3 in
        let second = equation_default finds g w table grounded e.rule (equation_rule g e i) undeclared e (equation_own g e i) t f in
        record {
          first = h.1;
          second = t;
          differ = h.3;
          first_by = first.0;
          second_by = second.0;
          apart = λ same. apart (sym first.1 ∙ ap (λ (x : Choice × Option Rank). TypeSource.symbols x.0.expr) same ∙ second.1);
        }
disagreement g e table t i right f (Err faults.Memory) h = absurd h
disagreement g e table t i right f (Err faults.ConditionLimit) h = absurd h

-- an element is one of its list
pub among_at : {A : Type 0} (xs : List A) (i : ℕ) (x : A) → i < length xs → x ≡ get_or xs i x → Among xs x
among_at [] i x h e = absurd (omega arith)
among_at (y ∷ xs) zero x h e = inl (sym e)
among_at (y ∷ xs) (suc i) x h e = inr (among_at xs i x (omega arith) e)

-- one of the equations is one of the grammar's
pub equation_among : (names : Names) (es : List Equation) (e : Equation) → AreEquations names es → Among es e
    → Among (type_equations (grammar_of names)) (equation_view e)
equation_among names es e are i = subst (λ l. Among l (equation_view e)) are (map_among equation_view es e i)
