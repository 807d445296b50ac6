use Rattle.lalrpop_lr1_core.proofs.MemberLemmas.{inserted_back, inserted_there}
use Rattle.lalrpop_lr1_core.proofs.trace.add_number.Goals as goal

pub returns : goal.returns
returns c n =
    rw c.in_ok-insert.ensures.keys (
      inserted_there c.args.numbers.now.keys c.args.number n,
      inserted_back c.args.numbers.now.keys c.args.number n,
    )
