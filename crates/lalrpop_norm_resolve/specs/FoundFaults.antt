-- Which faults of names stand in a rule, in rules and in a grammar, as the pass tells them.
use Rattle.std.specs.Prelude.{◌≡◌, List, [], Result, MatchResult}
use Rattle.lalrpop_grammar_symbols.specs.Symbols.{Text, TextSpan}
use Rattle.lalrpop_grammar_symbols.specs.Views.{span_view}
use Rattle.lalrpop_grammar.specs.WrittenGrammar.{Rule, Grammar}
use Rattle.lalrpop_grammar_language.specs.Among.{Among}
use Rattle.lalrpop_grammar_repr.specs.declared.norm_error.NormErrorKind.{NormErrorKind}
use Rattle.lalrpop_grammar_repr.specs.declared.norm_error.NormErrorKind.TheVariants as kinds
use Rattle.lalrpop_grammar_repr.specs.declared.session.NormFault.{NormFault}
use Rattle.lalrpop_grammar_repr.specs.declared.session.NormFault.TheVariants as faults
use Rattle.lalrpop_norm_theory.specs.Resolving.{DefinedNames, resolved_grammar}
use Rattle.lalrpop_norm_theory.specs.NameFaults.{HasRightNames, IsDuplicate, IsTwice, NameFault, name_faults, name_faults_in_rule}

-- what a fault says of names: one that two things share, one that is wrong where it stands, or nothing, as it is another pass's
pub data FoundFault : Type 0 where
  duplicate : Text → TextSpan → FoundFault
  misnamed : NameFault → FoundFault
  other : FoundFault

abbrev pub found_fault : NormErrorKind → TextSpan → FoundFault
found_fault (kinds.DuplicateDefinition name) p = FoundFault.duplicate name p
found_fault (kinds.NoDefinition name) p = FoundFault.misnamed (NameFault.unknown name p)
found_fault kinds.MacroAsRule p = FoundFault.misnamed (NameFault.misused p)
found_fault _ p = FoundFault.other

-- the fault is one of these, or memory ran out
abbrev pub TellsOneOf : (FoundFault → Type 0) → NormFault → Type 0
TellsOneOf P (faults.Norm error) = P (found_fault error.kind (span_view error.span))
TellsOneOf P faults.Memory = Unit {0}
TellsOneOf P faults.ConditionLimit = ⊥

abbrev pub AmongFaults : List NameFault → FoundFault → Type 0
AmongFaults fs (FoundFault.misnamed f) = Among fs f
AmongFaults fs (FoundFault.duplicate n p) = ⊥
AmongFaults fs FoundFault.other = ⊥

-- Ok where there is no fault, and else one of them
abbrev pub ChecksNames : {T : Type 0} → List NameFault → Result T NormFault → Type 0
ChecksNames fs result = MatchResult result (λ x. fs ≡ []) (TellsOneOf (AmongFaults fs))

-- two parameters of the rule share the name
abbrev pub IsTwiceIn : Rule → FoundFault → Type 0
IsTwiceIn r (FoundFault.duplicate n p) = IsTwice n r.parameters × (r.span ≡ p)
IsTwiceIn r (FoundFault.misnamed f) = ⊥
IsTwiceIn r FoundFault.other = ⊥

abbrev pub HasNoTwice : List Text → Type 0
HasNoTwice ns = (n : Text) → IsTwice n ns → ⊥

abbrev pub StandsInRule : DefinedNames → Rule → FoundFault → Type 0
StandsInRule d r (FoundFault.duplicate n p) = IsTwice n r.parameters × (r.span ≡ p)
StandsInRule d r (FoundFault.misnamed f) = Among (name_faults_in_rule d r) f
StandsInRule d r FoundFault.other = ⊥

abbrev pub StandsInRules : DefinedNames → List Rule → FoundFault → Type 0
StandsInRules d rs f = (r : Rule) × Among rs r × StandsInRule d r f

-- nothing is wrong with the rule's names
pub record HasRightRule (d : DefinedNames) (r : Rule) : Type 0 where
  pub parameters : HasNoTwice r.parameters
  pub no_faults : name_faults_in_rule d r ≡ []

abbrev pub HasRightRules : DefinedNames → List Rule → Type 0
HasRightRules d rs = (r : Rule) → Among rs r → HasRightRule d r

abbrev pub StandsInGrammar : Grammar → FoundFault → Type 0
StandsInGrammar g (FoundFault.duplicate n p) = IsDuplicate g n p
StandsInGrammar g (FoundFault.misnamed f) = Among (name_faults g) f
StandsInGrammar g FoundFault.other = ⊥

-- the pass's own faults: the one that is told stands in the grammar, with its span, or memory ran out
abbrev pub IsNameFault : Grammar → NormFault → Type 0
IsNameFault g fault = TellsOneOf (StandsInGrammar g) fault

-- nothing is wrong with the grammar's names, and they are resolved in what is made of it
pub record IsResolvedFrom (g made : Grammar) : Type 0 where
  pub value : made ≡ resolved_grammar g
  pub right : HasRightNames g
