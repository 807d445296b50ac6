-- Which faults of types stand in an expanded grammar, and what the types of one are that has none.
use Rattle.std.specs.Prelude.{◌≡◌, ◌≢◌, Bool, true, false, List, [], ◌∷◌, Option, Some, None, IsSomeAnd}
use Rattle.lalrpop_grammar_symbols.specs.Symbols.{Text, TextSpan, Closed, Closeds}
use Rattle.lalrpop_grammar_symbols.specs.Views.{span_view}
use Rattle.lalrpop_grammar_symbols.specs.declared.names.NonterminalString.{NonterminalString}
use Rattle.lalrpop_grammar.specs.WrittenGrammar.{Alternative, Grammar, Origin, Rule, rules_of}
use Rattle.lalrpop_grammar_language.specs.Among.{Among}
use Rattle.lalrpop_grammar_language.specs.Enabled.{EnabledGrammar}
use Rattle.lalrpop_grammar_repr.specs.Maps.{at_name}
use Rattle.lalrpop_grammar_repr.specs.declared.norm_error.NormErrorKind.{NormErrorKind}
use Rattle.lalrpop_grammar_repr.specs.declared.norm_error.NormErrorKind.TheVariants as kinds
use Rattle.lalrpop_grammar_repr.specs.declared.session.NormFault.{NormFault}
use Rattle.lalrpop_grammar_repr.specs.declared.session.NormFault.TheVariants as faults
use Rattle.lalrpop_grammar.specs.declared.types.type_repr.TypeRepr.{TypeRepr}
use Rattle.lalrpop_norm_theory.specs.Between.{grammar_between}
use Rattle.lalrpop_norm_theory.specs.Premises.{IsExpanded}
use Rattle.lalrpop_norm_theory.specs.Types.{ByDefault, GroundType, IsGrounded}
use Rattle.lalrpop_norm_tyinfer.specs.GroundViews.{type_repr_view}

-- the closed symbol of a rule of an expanded grammar
abbrev pub rule_symbol : Text → Closed
rule_symbol n = Closed.call n Closeds.none None

-- the rule has two types that differ
pub record HasTwoTypes (g : EnabledGrammar) (n : Text) : Type 0 where
  pub first : GroundType
  pub second : GroundType
  pub differ : first ≢ second
  pub first_is : IsGrounded g (rule_symbol n) first
  pub second_is : IsGrounded g (rule_symbol n) second

abbrev pub HasNoType : EnabledGrammar → Text → Type 0
HasNoType g n = (t : GroundType) → IsGrounded g (rule_symbol n) t → ⊥

-- the choice is one of a repeat or a group
abbrev pub is_part_origin : Origin → Bool
is_part_origin Origin.plus_one = true
is_part_origin Origin.plus_more = true
is_part_origin Origin.star_none = true
is_part_origin Origin.star_some = true
is_part_origin Origin.opt_none = true
is_part_origin Origin.opt_some = true
is_part_origin Origin.group = true
is_part_origin Origin.look = false
is_part_origin Origin.start = false
is_part_origin Origin.pass_down = false
is_part_origin (Origin.alternative n args place) = false

abbrev pub is_part_choice : List Alternative → Bool
is_part_choice [] = false
is_part_choice (a ∷ others) = is_part_origin a.origin

-- the rule is that of a repeat or a group, and neither a written one nor a macro's
abbrev pub is_part_rule : Rule → Bool
is_part_rule r = is_part_choice r.alternatives

pub data TypeFault : Type 0 where
  disagree : TextSpan → TypeFault
  untyped : Text → TextSpan → TypeFault
  other : TypeFault

abbrev pub type_fault : NormErrorKind → TextSpan → TypeFault
type_fault kinds.TypesDisagree p = TypeFault.disagree p
type_fault (kinds.NoType n) p = TypeFault.untyped n.0 p
type_fault _ p = TypeFault.other

-- No repeat or group is told where another rule has no type.
pub record IsUntypedRule (g : EnabledGrammar) (rs : List Rule) (r : Rule) : Type 0 where
  pub no_type : HasNoType g r.name
  pub no_part : is_part_rule r ≡ true → (s : Rule) → Among rs s → HasNoType g s.name → is_part_rule s ≡ true

-- Each is told with the span of its rule.
abbrev pub TypeFaultStands : EnabledGrammar → List Rule → TypeFault → Type 0
TypeFaultStands g rs (TypeFault.disagree p) = (r : Rule) × Among rs r × (r.span ≡ p) × HasTwoTypes g r.name
TypeFaultStands g rs (TypeFault.untyped n p) =
    (r : Rule) × Among rs r × (r.span ≡ p) × (r.name ≡ n) × IsUntypedRule g rs r
TypeFaultStands g rs TypeFault.other = ⊥

-- Two alternatives of the rule without user code differ and give it types that differ, where it declares none.
pub record HasDisagreeingAlternatives (g : EnabledGrammar) (n : Text) : Type 0 where
  pub first : GroundType
  pub second : GroundType
  pub differ : first ≢ second
  pub first_by : ByDefault (IsGrounded g) g n Closeds.none None first
  pub second_by : ByDefault (IsGrounded g) g n Closeds.none None second
  pub apart : first_by.choice ≢ second_by.choice

-- A fault is told of a rule that has it: that two types differ, of one whose own alternatives disagree.
abbrev pub IsToldTypeFault : EnabledGrammar → List Rule → TypeFault → Type 0
IsToldTypeFault g rs (TypeFault.disagree p) = (r : Rule) × Among rs r × (r.span ≡ p) × HasDisagreeingAlternatives g r.name
IsToldTypeFault g rs (TypeFault.untyped n p) = TypeFaultStands g rs (TypeFault.untyped n p)
IsToldTypeFault g rs TypeFault.other = ⊥

-- where the grammar is an expanded one, whatever conditions find
abbrev pub WhereExpanded : Grammar → (EnabledGrammar → Type 0) → Type 0
WhereExpanded g P = (finds : Text → Text → Option Bool) → IsExpanded (grammar_between finds g) → P (grammar_between finds g)

-- the pass's own fault stands, or memory ran out
abbrev pub IsTypeFault : Grammar → NormFault → Type 0
IsTypeFault g (faults.Norm error) =
    WhereExpanded g (λ e. IsToldTypeFault e (rules_of g.items) (type_fault error.kind (span_view error.span)))
IsTypeFault g faults.Memory = Unit {0}
IsTypeFault g faults.ConditionLimit = ⊥

abbrev pub HasNoTypeFault : EnabledGrammar → List Rule → Type 0
HasNoTypeFault g rs = (f : TypeFault) → TypeFaultStands g rs f → ⊥

-- the name as the program has it
abbrev pub nonterminal_of : Text → NonterminalString
nonterminal_of n = record { 0 = n }

-- Each rule has the one type that it can have, and nothing else is in the table.
pub record HasRuleTypes (g : EnabledGrammar) (rs : List Rule) (table : List (NonterminalString × TypeRepr)) : Type 0 where
  pub typed : (r : Rule) → Among rs r
      → IsSomeAnd (at_name (nonterminal_of r.name) table) (λ t. IsGrounded g (rule_symbol r.name) (type_repr_view t))
  pub right : (n : Text) (t : TypeRepr) → at_name (nonterminal_of n) table ≡ Some t
      → IsGrounded g (rule_symbol n) (type_repr_view t)
  pub once : (r : Rule) (t u : GroundType) → Among rs r → IsGrounded g (rule_symbol r.name) t → IsGrounded g (rule_symbol r.name) u
      → t ≡ u
