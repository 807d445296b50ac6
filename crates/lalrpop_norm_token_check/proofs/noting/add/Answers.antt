use Rattle.lalrpop_norm_token_check.proofs.NotingLemmas.{added}
use Rattle.lalrpop_norm_token_check.proofs.noting.add.Goals as goal

pub returns : goal.returns
returns c = added c.args.literals.now c.insert.new.self c.args.literal c.in_ok-insert.ensures.updates.0
