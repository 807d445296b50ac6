use Rattle.lalrpop_sets.specs.Tokens.{number_of}
use Rattle.lalrpop_sets.proofs.TokenLemmas.{alone}
use Rattle.lalrpop_sets.proofs.token_set.TokenSet.from_token.Goals as goal

pub returns : goal.returns
returns c = alone (number_of c.args.terminals.now c.args.token.now) c.in_ok-set.set c.insert.new.self c.in_ok-set.ensures
    c.insert.ensures.ordered c.in_ok-insert.ensures.set
