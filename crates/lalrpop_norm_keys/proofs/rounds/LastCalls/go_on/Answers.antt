use Rattle.std.proofs.lemmas.Result.{err_from_is_err_and}
use Rattle.lalrpop_norm_keys.proofs.rounds.LastCalls.go_on.Goals as goal

pub returns-in_err-later-clause-fault : goal.returns-in_err-later-clause-fault
returns-in_err-later-clause-fault g c =
    let p = err_from_is_err_and c.from_residual.result c.from_residual.ensures.1 in
    rw (p.1, p.2) (rw c.as_slice.ensures at c.in_err-later.ensures.fault)

pub returns-clause-found : goal.returns-clause-found
returns-clause-found g c = rw c.as_slice.ensures at c.in_ok-later.ensures.found

pub returns-clause-order : goal.returns-clause-order
returns-clause-order g c = rw c.as_slice.ensures at c.in_ok-later.ensures.order
