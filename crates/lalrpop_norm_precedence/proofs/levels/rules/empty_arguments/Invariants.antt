use Rattle.std.proofs.Common.{◌≡◌, ◌++◌, map, drop}
use Rattle.lalrpop_grammar_symbols.specs.Symbols.{Closed}
use Rattle.lalrpop_grammar_rules.specs.Views.{closed_view}
use Rattle.lalrpop_norm_precedence.proofs.levels.rules.empty_arguments.Given as goal

abbrev pub invariant-loop-parameter : goal.invariant-loop-parameter
invariant-loop-parameter l =
    map closed_view l.args ++ map (λ p. Closed.faulty) (drop l._parameter-index l.parameters)
    ≡ map (λ p. Closed.faulty) l.parameters
