use Rattle.std.proofs.Common.{◌∙◌, ap, length}
use Rattle.lalrpop_sets.proofs.token_set.TokenSet.len.Goals as goal

pub returns-clause-length : goal.returns-clause-length
returns-clause-length c = c.count.ensures ∙ ap length c.walk.ensures.numbers
