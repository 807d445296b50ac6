-- Whether the symbol of error recovery is found in what is enabled; for the walk that looks for it.
use Rattle.std.specs.Prelude.{Bool, ◌&&◌, List}
use Rattle.std.specs.List.{list_any}
use Rattle.lalrpop_grammar_symbols.specs.Symbols.{Text, syms}
use Rattle.lalrpop_grammar_symbols.specs.Subsymbols.{subsymbols_of}
use Rattle.lalrpop_grammar.specs.WrittenGrammar.{Alternative, Grammar, Rule, rules_of}
use Rattle.lalrpop_grammar_language.specs.Enabled.{is_active}
use Rattle.lalrpop_run_prepare.specs.Carried.{is_recovery}

abbrev pub alternative_recovers : List Text → Alternative → Bool
alternative_recovers features a = is_active features a.attributes && list_any is_recovery (subsymbols_of (syms a.expr))

abbrev pub rule_recovers : List Text → Rule → Bool
rule_recovers features r = is_active features r.attributes && list_any (alternative_recovers features) r.alternatives

abbrev pub grammar_recovers : List Text → Grammar → Bool
grammar_recovers features w = list_any (rule_recovers features) (rules_of w.items)
