use Rattle.std.proofs.Common.{◌≡◌, map, take}
use Rattle.lalrpop_grammar_symbols.specs.Views.{span_view, symbol_view}
use Rattle.lalrpop_norm_theory.specs.LeveledGrammar.{names_alone}
use Rattle.lalrpop_norm_precedence.proofs.levels.alternatives.names_alone.Given as goal

abbrev pub invariant-loop-parameter : goal.invariant-loop-parameter
invariant-loop-parameter l =
    map symbol_view l.made ≡ names_alone (span_view l.span) (map (λ p. p.0) (take l.parameter-index l.parameters))
