use Rattle.std.proofs.Common.{◌≡◌, ◌++◌, map, drop}
use Rattle.lalrpop_grammar_language.specs.Admitting.{argument_list}
use Rattle.lalrpop_grammar_rules.specs.Views.{closed_view, closeds}
use Rattle.lalrpop_norm_macros.specs.WrittenRules.{arguments_view, spelled_in}
use Rattle.lalrpop_norm_macros.proofs.key_symbols.spelling.+arguments.Given as goal

abbrev pub invariant-arguments-loop-symbol : goal.invariant-arguments-loop-symbol
invariant-arguments-loop-symbol l =
    arguments_view l.made ++ argument_list (spelled_in l.rules) (closeds (map closed_view (drop l.symbol-index l.symbols)))
    ≡ argument_list (spelled_in l.rules) (closeds (map closed_view l.symbols))
