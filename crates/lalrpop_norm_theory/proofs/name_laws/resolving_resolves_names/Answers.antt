use Rattle.lalrpop_norm_theory.proofs.StayingLemmas.{resolved_stays}
use Rattle.lalrpop_norm_theory.proofs.ResolvedLemmas.{right_names_resolve}
use Rattle.lalrpop_norm_theory.proofs.RightAgainLemmas.{right_again}
use Rattle.lalrpop_norm_theory.proofs.name_laws.resolving_resolves_names.Goals as goal

pub returns-clause-resolved : goal.returns-clause-resolved
returns-clause-resolved c = λ finds g w. right_names_resolve finds g w

pub returns-clause-stays : goal.returns-clause-stays
returns-clause-stays c = λ finds g w. resolved_stays finds g w

pub returns-clause-right : goal.returns-clause-right
returns-clause-right c = λ g w. right_again g w
