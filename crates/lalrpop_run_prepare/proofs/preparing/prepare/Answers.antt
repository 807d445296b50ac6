use Rattle.std.proofs.lemmas.Result.{err_from_is_err_and}
use Rattle.lalrpop_run_prepare.proofs.preparing.prepare.Goals as goal

pub returns-in_err-parts-clause-refused : goal.returns-in_err-parts-clause-refused
returns-in_err-parts-clause-refused c =
    let p = err_from_is_err_and c.from_residual.result c.from_residual.ensures.1 in
    rw (p.1, p.2) c.in_err-parts.ensures.refused

pub invariant_of-result : goal.invariant_of-result
invariant_of-result c = c.in_ok-parts.ensures.prepared
