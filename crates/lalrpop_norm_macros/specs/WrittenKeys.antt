-- The rules that are written for the keys of a table, one for each in order.
use Rattle.std.specs.Prelude.{ℕ, ◌≡◌, Bool, List, length, Option, Some, None, slice_get}
use Rattle.lalrpop_grammar_symbols.specs.Symbols.{Text, TextSpan, Closed, Closeds, closed_list}
use Rattle.lalrpop_grammar_symbols.specs.Views.{span_view}
use Rattle.lalrpop_grammar_symbols.specs.declared.span.Span.{Span}
use Rattle.lalrpop_grammar.specs.WrittenGrammar.{Rule}
use Rattle.lalrpop_grammar_language.specs.Among.{Among}
use Rattle.lalrpop_grammar_language.specs.Enabled.{EnabledRule, IsRule, enabled_rule}
use Rattle.lalrpop_grammar_language.specs.Admitting.{argument_list, bind}
use Rattle.lalrpop_grammar_repr.specs.declared.session.NormFault.{NormFault}
use Rattle.lalrpop_grammar_repr.specs.declared.session.NormFault.TheVariants as faults
use Rattle.lalrpop_grammar_rules.specs.RuleTable.{IsTable, rules_with}
use Rattle.lalrpop_norm_keys.specs.Tables.{IsKeyIndex}
use Rattle.lalrpop_norm_macros.specs.RulesUnder.{IsInstanceRuleUnder, IsPartRuleUnder}
use Rattle.lalrpop_norm_macros.specs.FinishedRules.{AreRulesFrom}
use Rattle.lalrpop_norm_macros.specs.KeyInstances.{TellsOfOneIn}
use Rattle.lalrpop_norm_macros.specs.KeyNaming.{SpellsNames}
use Rattle.lalrpop_norm_macros.specs.WrittenRules.{spelled_in, written_at}
use Rattle.lalrpop_norm_macros.specs.declared.key_rules.rules.KeyRules.{KeyRules}

-- what the program knows of its tables
pub record AreReady (c : KeyRules) : Type 0 where
  pub table : IsTable c.rules.now
  pub index : IsKeyIndex c.names.now.keys.now

-- the called rule as it is written, and as the table of rules has it
pub record IsCalledRule (c : KeyRules) (finds : Text → Text → Option Bool) (n : Text) (args : Closeds) (written : Rule) : Type 0 where
  pub found : written_at c.written.now n ≡ Some written
  pub is_rule : IsRule (rules_with finds c.rules.now) n (enabled_rule c.rules.now.features.now written)
  pub arguments : length (closed_list args) ≡ length written.parameters

-- The rule of a call under a name: the called rule in an instance, where it is there.
abbrev pub IsCallRule : KeyRules → (Text → Text → Option Bool) → Text → Closeds → Text → Rule → Type 0
IsCallRule c finds n args name made =
    (written : Rule) → IsCalledRule c finds n args written
    → let g = rules_with finds c.rules.now in let r = enabled_rule c.rules.now.features.now written in
    IsInstanceRuleUnder c.names.now g r args (bind r args) (argument_list (spelled_in c.written.now) args) name written made

-- the rule of a key under a name, which is written there where it isn't a call's
abbrev pub IsRuleOfKey : KeyRules → (Text → Text → Option Bool) → Closed → Text → TextSpan → Rule → Type 0
IsRuleOfKey c finds (Closed.call n args level) name p made = IsCallRule c finds n args name made
IsRuleOfKey c finds x name p made = IsPartRuleUnder c.names.now x name p made

-- something is told of a condition of the called rule, or memory ran out
abbrev pub TellsOfCalledRule : KeyRules → (Text → Text → Option Bool) → (Text → Bool) → Text → Closeds → NormFault
    → Type 0
TellsOfCalledRule c finds deep n args faults.Memory = Unit {0}
TellsOfCalledRule c finds deep n args fault =
    (written : Rule) × (r : EnabledRule) × (written_at c.written.now n ≡ Some written) × IsRule (rules_with finds c.rules.now) n r
    × TellsOfOneIn finds deep (bind r args) written.alternatives fault

-- the same of a key that is a call, and of one of these keys
abbrev pub TellsOfKey : KeyRules → (Text → Text → Option Bool) → (Text → Bool) → Closed → NormFault → Type 0
TellsOfKey c finds deep x faults.Memory = Unit {0}
TellsOfKey c finds deep x fault =
    (n : Text) × (args : Closeds) × (level : Option ℕ) × (x ≡ Closed.call n args level)
    × TellsOfCalledRule c finds deep n args fault

abbrev pub TellsOfOneKey : KeyRules → (Text → Text → Option Bool) → (Text → Bool) → List Closed → NormFault → Type 0
TellsOfOneKey c finds deep keys faults.Memory = Unit {0}
TellsOfOneKey c finds deep keys fault = (x : Closed) × Among keys x × TellsOfKey c finds deep x fault

-- where the key at a place is met first, or the other place where none is given
abbrev pub span_or : Option Span → TextSpan → TextSpan
span_or None p = p
span_or (Some s) p = span_view s

abbrev pub span_of_key : List Span → TextSpan → ℕ → TextSpan
span_of_key spans p i = span_or (slice_get spans i) p

-- one rule for each key, by its name
abbrev pub AreRulesOfKeys : KeyRules → (Text → Text → Option Bool) → List Span → TextSpan → List Closed → List Rule → Type 0
AreRulesOfKeys c finds spans p keys rules =
    (f : Closed → Text) → SpellsNames c.names.now f
    → AreRulesFrom (λ i x r. IsRuleOfKey c finds x (f x) (span_of_key spans p i) r) 0 keys rules
