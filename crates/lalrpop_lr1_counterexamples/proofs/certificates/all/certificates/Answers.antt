use Rattle.lalrpop_lr1_counterexamples.proofs.SlotLemmas.{slots_are_certificates, slots_are_counted}
use Rattle.lalrpop_lr1_counterexamples.proofs.certificates.all.certificates.Goals as goal

pub returns-clause-count : goal.returns-clause-count
returns-clause-count c = slots_are_counted _ c.in_ok-all.all.items c.in_ok-all.ensures

pub returns-clause-certificates : goal.returns-clause-certificates
returns-clause-certificates c = λ own. slots_are_certificates _ c.in_ok-all.all.items c.in_ok-all.ensures own
