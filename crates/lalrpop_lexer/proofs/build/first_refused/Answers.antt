use Rattle.std.proofs.Common.{◌∙◌, below_more, ap, sym}
use Rattle.std.proofs.lemmas.List.{get_or-map}
use Rattle.lalrpop_lexer_pattern.specs.declared.tree.Hir.{Hir}
use Rattle.lalrpop_lexer_pattern.specs.Matches.{Pattern}
use Rattle.lalrpop_lexer_pattern.specs.Meaning.{meaning}
use Rattle.lalrpop_lexer_pattern.specs.Refused.{refusal}
use Rattle.lalrpop_lexer.proofs.build.first_refused.Goals as goal

pub loop-i-preserved : goal.loop-i-preserved
loop-i-preserved c =
    below_more _ _ c.loop-i.invariant
    (ap refusal (get_or-map meaning c.args.patterns.now c.loop-i.i c.index-patterns-i.result Pattern.empty c.loop-i-test.true)
    ∙ ap (λ (x : Hir). refusal (meaning x)) (sym c.index-patterns-i.is)
    ∙ sym c.refusal.ensures ∙ c.in_default.is)
