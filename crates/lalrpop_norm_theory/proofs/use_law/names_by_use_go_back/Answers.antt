use Rattle.lalrpop_norm_theory.proofs.DroppingLemmas.{dropped_names_by_use}
use Rattle.lalrpop_norm_theory.proofs.ResolvingLemmas.{resolved_names_by_use}
use Rattle.lalrpop_norm_theory.proofs.use_law.names_by_use_go_back.Goals as goal

pub returns-clause-dropped : goal.returns-clause-dropped
returns-clause-dropped c = λ finds features g prefix name_of w a. dropped_names_by_use finds features g prefix name_of w a

pub returns-clause-resolved : goal.returns-clause-resolved
returns-clause-resolved c = λ finds g prefix name_of a. resolved_names_by_use finds g prefix name_of a
