use Rattle.std.proofs.Common.{◌∙◌, ap}
use Rattle.std.specs.Hash as fed
use Rattle.std.specs.Prelude.{fold}
use Rattle.lalrpop_sets.proofs.token_set.TokenSetHash.hash.Goals as goal

pub returns : goal.returns
returns g c =
    c.hash_numbers.ensures ∙ ap (λ l. fold g.H.Hasher.write c.args.state.now (fed.slice fed.usize l)) c.walk.ensures.numbers
