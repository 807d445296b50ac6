use Rattle.std.proofs.Common.{subst, sym}
use Rattle.lalrpop_lr1_counterexamples.specs.ShownStates.{AreStepsOut}
use Rattle.lalrpop_lr1_counterexamples.proofs.certificates.all.certificates_by_ways.Goals as goal

pub all_certificates-requires-clause-steps : goal.all_certificates-requires-clause-steps
all_certificates-requires-clause-steps c = subst (AreStepsOut c.args.shown.now) (sym c.in_ok-any.ensures.ways) c.requires.steps
