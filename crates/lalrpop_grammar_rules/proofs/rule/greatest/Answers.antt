use Rattle.std.proofs.Common.{◌∙◌}
use Rattle.lalrpop_grammar_rules.proofs.GreatestLemmas.{greatest_last}
use Rattle.lalrpop_grammar_rules.proofs.rule.greatest.Goals as goal

pub returns : goal.returns
returns c = c.copied.ensures ∙ (c.last.ensures.value ∙ greatest_last c.args.levels.now c.requires)
