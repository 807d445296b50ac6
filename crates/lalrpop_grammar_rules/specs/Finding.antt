-- What a search for a pattern says, and why it isn't known whether a condition holds.
use Rattle.std.specs.Prelude.{◌≡◌, ◌≢◌, ◌⊎◌, Bool, true, false, Option, Some, None}
use Rattle.lalrpop_grammar_symbols.specs.Symbols.{Text, Closed, Terminal}
use Rattle.lalrpop_grammar.specs.WrittenGrammar.{Condition, ConditionTest}
use Rattle.lalrpop_grammar_language.specs.Closing.{Binding, parameter_value}
use Rattle.lalrpop_grammar_rules.specs.declared.closed.condition.Finding.{Finding}
use Rattle.lalrpop_grammar_rules.specs.declared.closed.condition.Finding.TheVariants as findings
use Rattle.lalrpop_grammar_rules.specs.declared.closed.condition.ConditionFault.{ConditionFault}
use Rattle.lalrpop_grammar_rules.specs.declared.closed.condition.ConditionFault.TheVariants as faults

-- the pattern isn't read: it is none, or nested too deep
abbrev pub IsUnread : Option Bool → Bool → Type 0
IsUnread answer deep = (answer ≡ None) ⊎ (deep ≡ true)

-- the pattern is read: it is one, and not nested too deep
abbrev pub IsReadPattern : Option Bool → Bool → Type 0
IsReadPattern answer deep = (answer ≢ None) × (deep ≡ false)

-- the finding says what the answer is, or why there is none
abbrev pub IsFinding : Option Bool → Bool → Finding → Type 0
IsFinding answer deep findings.Found = (answer ≡ Some true) × (deep ≡ false)
IsFinding answer deep findings.Missing = (answer ≡ Some false) × (deep ≡ false)
IsFinding answer deep findings.NotRead = IsUnread answer deep
IsFinding answer deep findings.Refused = IsReadPattern answer deep

-- the test is a search for a pattern
abbrev pub IsSearch : ConditionTest → Type 0
IsSearch ConditionTest.equals = ⊥
IsSearch ConditionTest.not_equals = ⊥
IsSearch ConditionTest.matches = Unit {0}
IsSearch ConditionTest.not_matches = Unit {0}

module _ (finds : Text → Text → Option Bool) (deep : Text → Bool) where
  -- why it isn't known whether the pattern is found in the text
  abbrev pub IsNotKnown : Text → Text → ConditionFault → Type 0
  IsNotKnown pattern text faults.NotRead = IsUnread (finds pattern text) (deep pattern)
  IsNotKnown pattern text faults.Refused = IsReadPattern (finds pattern text) (deep pattern)
  IsNotKnown pattern text faults.Memory = Unit {0}

  -- why it isn't known whether the text passes the test
  abbrev pub IsRefusal : ConditionTest → Text → Text → ConditionFault → Type 0
  IsRefusal test pattern text faults.NotRead = IsSearch test × IsUnread (finds pattern text) (deep pattern)
  IsRefusal test pattern text faults.Refused = IsSearch test × IsReadPattern (finds pattern text) (deep pattern)
  IsRefusal test pattern text faults.Memory = Unit {0}

  -- why it isn't known whether the condition holds for what its parameter is bound to
  abbrev pub IsUndecided : Condition → Option Closed → ConditionFault → Type 0
  IsUndecided c (Some (Closed.terminal (Terminal.quoted t))) fault = IsRefusal c.test c.against t fault
  IsUndecided c _ fault = fault ≡ faults.Memory

  -- the same of the condition of an alternative, where it has one
  abbrev pub IsFault : Binding → Option Condition → ConditionFault → Type 0
  IsFault binding None fault = ⊥
  IsFault binding (Some c) fault = IsUndecided c (parameter_value binding c.parameter) fault

  -- the pattern was read, where the test is a search
  abbrev pub IsReadFor : ConditionTest → Text → Text → Type 0
  IsReadFor test pattern text = IsSearch test → IsReadPattern (finds pattern text) (deep pattern)

  -- the pattern was read, where what the parameter is bound to is searched
  abbrev pub IsReadIn : Condition → Option Closed → Type 0
  IsReadIn c (Some (Closed.terminal (Terminal.quoted t))) = IsReadFor c.test c.against t
  IsReadIn c _ = Unit {0}

  -- the same of the condition of an alternative, where it has one
  abbrev pub IsReadWhereAsked : Binding → Option Condition → Type 0
  IsReadWhereAsked binding None = Unit {0}
  IsReadWhereAsked binding (Some c) = IsReadIn c (parameter_value binding c.parameter)

-- the text of a quoted literal
abbrev pub quoted_text_in : Closed → Option Text
quoted_text_in (Closed.terminal (Terminal.quoted t)) = Some t
quoted_text_in _ = None
