-- What is left of a rule's alternatives under the features.
use Rattle.std.specs.Prelude.{List, filter, map}
use Rattle.lalrpop_grammar_symbols.specs.Symbols.{Text}
use Rattle.lalrpop_grammar.specs.WrittenGrammar.{Alternative}
use Rattle.lalrpop_grammar_language.specs.Enabled.{is_active}
use Rattle.lalrpop_norm_theory.specs.Between.{alternative_without_cfg}

abbrev pub enabled_alternatives : List Text → List Alternative → List Alternative
enabled_alternatives features xs = map alternative_without_cfg (filter (λ a. is_active features a.attributes) xs)
