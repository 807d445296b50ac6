-- Which alternatives have a spelling, by their parts: for the functions that tell it.
use Rattle.std.proofs.Common.{◌≡◌, ◌↔◌, true, false, ℕ, List, [], Option, Some, None, IsTrue, refl}
use Rattle.lalrpop_grammar.specs.declared.alternative.ActionKind.{ActionKind}
use Rattle.lalrpop_grammar.specs.declared.alternative.ActionKind.TheVariants as actions
use Rattle.lalrpop_grammar.specs.declared.alternative.Alternative.{Alternative}
use Rattle.lalrpop_grammar.specs.declared.condition.Condition.{Condition}
use Rattle.lalrpop_grammar.specs.declared.origin.Origin.{Origin}
use Rattle.lalrpop_grammar.specs.declared.origin.Origin.TheVariants as origins
use Rattle.lalrpop_json_values.specs.Scalars.{is_name}
use Rattle.lalrpop_json_values.specs.Spelled.{IfSome, IsSpan}
use Rattle.lalrpop_json_symbols.specs.Readable.{AreReadableAttributes, AreReadableSymbols}
use Rattle.lalrpop_json_items.specs.Alternatives.{written_origin}
use Rattle.lalrpop_json_items.specs.Origins.{IsWrittenAt}
use Rattle.lalrpop_json_items.specs.Readable.{IsReadableAction, IsReadableAlternative, IsReadableCondition}

-- ---- actions

abbrev pub Action : Option ActionKind → Type 0
Action None = Unit {0}
Action (Some (actions.User text)) = Unit {0}
Action (Some (actions.Fallible text)) = Unit {0}
Action (Some actions.Lookahead) = ⊥
Action (Some actions.Lookbehind) = ⊥

action_parts : (o : Option ActionKind) → IsReadableAction o → Action o
action_parts o (IsReadableAction.absent e) = rw e tt
action_parts o (IsReadableAction.user text e) = rw e tt
action_parts o (IsReadableAction.fallible text e) = rw e tt

-- what an alternative does has a spelling where nothing is said of it
pub of_none : (o : Option ActionKind) → o ≡ None → IsTrue true ↔ IsReadableAction o
of_none o e = ((λ is. IsReadableAction.absent e), (λ is. refl))

-- what an alternative does has a spelling where it is the user's code
pub of_user : (o : Option ActionKind) (text : List ℕ) → o ≡ Some (actions.User text) → IsTrue true ↔ IsReadableAction o
of_user o text e = ((λ is. IsReadableAction.user text e), (λ is. refl))

-- what an alternative does has a spelling where it is code that may fail
pub of_fallible : (o : Option ActionKind) (text : List ℕ) → o ≡ Some (actions.Fallible text) → IsTrue true ↔ IsReadableAction o
of_fallible o text e = ((λ is. IsReadableAction.fallible text e), (λ is. refl))

-- what an alternative does has no spelling where it is no code
pub of_no_code : (o : Option ActionKind) (a : ActionKind) → o ≡ Some a → (Action (Some a) → ⊥) → IsTrue false
    ↔ IsReadableAction o
of_no_code o a e none = ((λ is. absurd (cc)), (λ is. let parts : Action (Some a) = rw e at (action_parts o is) in absurd (none parts)))

-- ---- conditions

pub condition_whole : (c : Condition) → IsTrue (is_name c.lhs.0) → IsSpan c.span → IsReadableCondition c
condition_whole c named spanned = record { lhs = named; span = spanned }

pub condition_parts : (c : Condition) → IsReadableCondition c → IsTrue (is_name c.lhs.0) × IsSpan c.span
condition_parts c is = (is.lhs, is.span)

pub ruleset conditions_told = (condition_parts, condition_whole)

-- ---- origins

abbrev pub Place : Origin → List ℕ → ℕ → Type 0
Place (origins.Alternative name args written) rule place = (name.0 ≡ rule) × (args ≡ []) × (written ≡ place)
Place _ rule place = ⊥

pub origin_parts : (o : Origin) (rule : List ℕ) (place : ℕ) → o ≡ written_origin rule place → Place o rule place
origin_parts o rule place e = rw e (refl, refl, refl)

pub origin_whole : (o : Origin) (rule : List ℕ) (place : ℕ) → Place o rule place → o ≡ written_origin rule place
origin_whole (origins.Alternative name args written) rule place is = rw (is.0, is.1, is.2) refl
origin_whole origins.Start rule place is = absurd is
origin_whole origins.PassDown rule place is = absurd is
origin_whole origins.PlusOne rule place is = absurd is
origin_whole origins.PlusMore rule place is = absurd is
origin_whole origins.StarNone rule place is = absurd is
origin_whole origins.StarSome rule place is = absurd is
origin_whole origins.OptNone rule place is = absurd is
origin_whole origins.OptSome rule place is = absurd is
origin_whole origins.Group rule place is = absurd is
origin_whole origins.Look rule place is = absurd is

pub ruleset origins_told = (origin_parts, origin_whole)

-- ---- alternatives

abbrev pub Symbols : Alternative → Type 0
Symbols a = IsSpan a.span × AreReadableSymbols a.expr × AreReadableAttributes a.attributes

abbrev pub Choice : Alternative → Type 0
Choice a = IfSome IsReadableCondition a.condition × IsReadableAction a.action

-- an alternative has a spelling where its origin and all its parts have one
pub alternative_whole : (rule : List ℕ) (place : ℕ) (a : Alternative) → IsWrittenAt a.origin rule place → Symbols a → Choice a
    → IsReadableAlternative rule place a
alternative_whole rule place a written symbols choice =
    record {
      span = symbols.0;
      expr = symbols.1;
      condition = choice.0;
      action = choice.1;
      attributes = symbols.2;
      origin = written.0;
      limit = written.1;
    }

-- an alternative that has a spelling has a span, symbols and attributes that have one
pub symbols_in : (rule : List ℕ) (place : ℕ) (a : Alternative) → IsReadableAlternative rule place a → Symbols a
symbols_in rule place a is = (is.span, is.expr, is.attributes)

-- an alternative that has a spelling has a condition and code that have one
pub choice_in : (rule : List ℕ) (place : ℕ) (a : Alternative) → IsReadableAlternative rule place a → Choice a
choice_in rule place a is = (is.condition, is.action)

-- an alternative that has a spelling has the origin of the written one in its place
pub origin_in : (rule : List ℕ) (place : ℕ) (a : Alternative) → IsReadableAlternative rule place a → IsWrittenAt a.origin rule place
origin_in rule place a is = (is.origin, is.limit)
