-- Instances as the program has them, with keys by their names.
use Rattle.std.specs.Prelude.{Bool, List, Option}
use Rattle.lalrpop_grammar_symbols.specs.Symbols.{Text, Argument}
use Rattle.lalrpop_grammar.specs.WrittenGrammar.{Alternative, Condition}
use Rattle.lalrpop_grammar_language.specs.Among.{Among}
use Rattle.lalrpop_grammar_language.specs.Enabled.{EnabledGrammar, EnabledRule}
use Rattle.lalrpop_grammar_language.specs.Closing.{Binding}
use Rattle.lalrpop_grammar_language.specs.Conditions.{Holds}
use Rattle.lalrpop_grammar_rules.specs.Details.{enabled_rule_view}
use Rattle.lalrpop_grammar_rules.specs.RuleTable.{IsKept, IsTable, rules_with}
use Rattle.lalrpop_grammar_rules.specs.Views.{binding_of}
use Rattle.lalrpop_grammar_repr.specs.declared.session.NormFault.{NormFault}
use Rattle.lalrpop_grammar_repr.specs.declared.session.NormFault.TheVariants as faults
use Rattle.lalrpop_norm_keys.specs.Tables.{IsKeyIndex}
use Rattle.lalrpop_norm_keys.specs.MacroFaults.{TellsOfAlternative}
use Rattle.lalrpop_norm_macros.specs.InstanceRules.{IsInstanceBy, flat_side}
use Rattle.lalrpop_norm_macros.specs.KeyNaming.{AreSymbolsFor}
use Rattle.lalrpop_norm_macros.specs.WrittenRules.{arguments_view}
use Rattle.lalrpop_norm_macros.specs.declared.key_rules.alternatives.Instance.{Instance}
use Rattle.lalrpop_norm_macros.specs.declared.key_symbols.names.KeyNames.{KeyNames}

-- the alternative in an instance, with keys by their names
abbrev pub BecomesUnder : KeyNames → EnabledGrammar → EnabledRule → Binding → List Argument → Alternative → Alternative
    → Type 0
BecomesUnder k g r b args a made = IsInstanceBy (AreSymbolsFor k) args (flat_side g r b a) a made

-- what an instance's parameters are bound to
abbrev pub instance_binding : Instance → Binding
instance_binding i = binding_of (i.rule.now.written.now).args i.args.now

abbrev pub instance_rule_view : Instance → EnabledRule
instance_rule_view i = enabled_rule_view i.rules.now.features.now i.rule.now

-- the alternative in the instance that the program has
abbrev pub BecomesIn : Instance → (Text → Text → Option Bool) → Alternative → Alternative → Type 0
BecomesIn i finds a made =
    BecomesUnder i.names.now (rules_with finds i.rules.now) (instance_rule_view i) (instance_binding i) (arguments_view i.arguments.now)
    a made

-- the condition holds in the instance
abbrev pub HoldsIn : Instance → (Text → Text → Option Bool) → Option Condition → Type 0
HoldsIn i finds c = Holds (rules_with finds i.rules.now) (instance_binding i) c

-- what the program knows of an instance's parts
pub record IsReady (i : Instance) : Type 0 where
  pub table : IsTable i.rules.now
  pub kept : IsKept i.rules.now.features.now i.rule.now
  pub index : IsKeyIndex i.names.now.keys.now

-- something is told of one of these alternatives, or memory ran out
abbrev pub TellsOfOneIn : (Text → Text → Option Bool) → (Text → Bool) → Binding → List Alternative → NormFault → Type 0
TellsOfOneIn finds deep b as_ faults.Memory = Unit {0}
TellsOfOneIn finds deep b as_ fault = (a : Alternative) × Among as_ a × TellsOfAlternative finds deep b a.condition fault
