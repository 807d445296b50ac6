use Rattle.std.proofs.Common.{Some}
use Rattle.lalrpop_sets.specs.Tokens.{eof_number}
use Rattle.lalrpop_sets.proofs.TokenLemmas.{alone}
use Rattle.lalrpop_sets.proofs.token_set.TokenSet.eof.Goals as goal

pub returns : goal.returns
returns c = alone (Some (eof_number c.args.terminals.now)) c.in_ok-set.set c.insert_eof.new.self c.in_ok-set.ensures
    c.insert_eof.ensures.ordered c.in_ok-insert_eof.ensures.set
