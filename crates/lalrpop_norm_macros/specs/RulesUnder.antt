-- The rules of keys as the program writes them, with keys by their names.
use Rattle.std.specs.Prelude.{List}
use Rattle.lalrpop_grammar_symbols.specs.Symbols.{Text, TextSpan, Argument, Closed, Closeds}
use Rattle.lalrpop_grammar.specs.WrittenGrammar.{Alternative, Rule}
use Rattle.lalrpop_grammar_language.specs.Enabled.{EnabledGrammar, EnabledRule}
use Rattle.lalrpop_grammar_language.specs.Closing.{Binding}
use Rattle.lalrpop_grammar_language.specs.Conditions.{Holds}
use Rattle.lalrpop_norm_macros.specs.AddedRules.{AddedChoice, AreAddedAlternatives, IsAddedRule}
use Rattle.lalrpop_norm_macros.specs.InstanceRules.{IsInstanceRule}
use Rattle.lalrpop_norm_macros.specs.KeyDeclarations.{IsDeclaredUnder, IsRepeatTypeUnder}
use Rattle.lalrpop_norm_macros.specs.KeyInstances.{BecomesUnder}
use Rattle.lalrpop_norm_macros.specs.KeyNaming.{AreSymbolsFor}
use Rattle.lalrpop_norm_macros.specs.declared.key_symbols.names.KeyNames.{KeyNames}

-- the rule of a call
abbrev pub IsInstanceRuleUnder : KeyNames → EnabledGrammar → EnabledRule → Closeds → Binding → List Argument → Text → Rule
    → Rule
    → Type 0
IsInstanceRuleUnder k g r args b as_written n written made =
    IsInstanceRule (IsDeclaredUnder k g r b) (Holds g b) (BecomesUnder k g r b as_written) args n written made

-- the rule of a repeat, a group or a lookaround, and its alternatives
abbrev pub AreAddedUnder : KeyNames → TextSpan → List AddedChoice → List Alternative → Type 0
AreAddedUnder k p cs made = AreAddedAlternatives (AreSymbolsFor k) p cs made

abbrev pub IsAddedRuleUnder : KeyNames → Closed → Text → TextSpan → Rule → Type 0
IsAddedRuleUnder k x n p made = IsAddedRule (AreSymbolsFor k) (IsRepeatTypeUnder k) x n p made

-- the rule of a key that is no call; of one that is no repeat, no group and no lookaround either nothing is said
abbrev pub IsPartRuleUnder : KeyNames → Closed → Text → TextSpan → Rule → Type 0
IsPartRuleUnder k (Closed.repeat op x) n p made = IsAddedRuleUnder k (Closed.repeat op x) n p made
IsPartRuleUnder k (Closed.group xs) n p made = IsAddedRuleUnder k (Closed.group xs) n p made
IsPartRuleUnder k Closed.lookahead n p made = IsAddedRuleUnder k Closed.lookahead n p made
IsPartRuleUnder k Closed.lookbehind n p made = IsAddedRuleUnder k Closed.lookbehind n p made
IsPartRuleUnder k _ n p made = Unit {0}
