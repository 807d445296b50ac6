use Rattle.std.proofs.lemmas.Result.{on_ok_weaker}
use Rattle.lalrpop_lr1_interpret.proofs.parse.machine.shift_token.Goals as goal

pub returns-clause-leaf_stands : goal.returns-clause-leaf_stands
returns-clause-leaf_stands g c = λ ts ks s.
    on_ok_weaker c.push_number.result (λ pushed. c.in_ok-leaf.ensures.leaf_stands ts ks s) c.push_number.ensures
