use Rattle.std.proofs.Common.{◌∙◌, ap, map, arith}
use Rattle.std.proofs.lemmas.List.{take_all}
use Rattle.lalrpop_norm_precedence.specs.NamedAlternatives.{alternative_by_naming, naming_view, ranked_alternative_view}
use Rattle.lalrpop_norm_precedence.proofs.levels.alternatives.leveled_alternatives.Goals as goal

pub returns : goal.returns
returns c =
    c.loop-alternative.invariant
    ∙ ap (λ l. map (alternative_by_naming (naming_view c.args.names.now)) (map ranked_alternative_view l))
    (take_all c.loop-alternative.alternative-index c.args.ranked.now (omega (arith, c.loop-alternative-test.false)))
