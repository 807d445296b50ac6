use Rattle.std.proofs.Common.{◌∙◌, ap}
use Rattle.lalrpop_sets.specs.TokensLeft.{known_tokens}
use Rattle.lalrpop_sets.proofs.TokenLemmas.{known_all}
use Rattle.lalrpop_sets.proofs.token_set.TokenSet.iter.Goals as goal

pub returns : goal.returns
returns c = ap (known_tokens c.args.terminals.now) c.walk.ensures.numbers ∙ known_all c.args.terminals.now c.args.self.now c.walk.ensures.ascends
