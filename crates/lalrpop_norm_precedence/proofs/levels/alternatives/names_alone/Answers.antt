use Rattle.std.proofs.Common.{◌∙◌, ap, map, arith}
use Rattle.std.proofs.lemmas.List.{take_all}
use Rattle.lalrpop_grammar_symbols.specs.Views.{span_view}
use Rattle.lalrpop_norm_theory.specs.LeveledGrammar.{names_alone}
use Rattle.lalrpop_norm_precedence.proofs.levels.alternatives.names_alone.Goals as goal

pub returns : goal.returns
returns c =
    c.loop-parameter.invariant
    ∙ ap (λ l. names_alone (span_view c.args.span) (map (λ p. p.0) l))
    (take_all c.loop-parameter.parameter-index c.args.parameters.now (omega (arith, c.loop-parameter-test.false)))
