use Rattle.std.proofs.Common.{Contains}
use Rattle.lalrpop_lr1_first.specs.FirstSetsOf.{IsProductionOf}
use Rattle.lalrpop_judge.proofs.MoveLemmas.{refutes_lr1}
use Rattle.lalrpop_judge.proofs.certificates.laws.certificates_refute.Goals as goal

pub returns-clause-lists : goal.returns-clause-lists
returns-clause-lists c = λ grammar s shown certifies lr1. refutes_lr1 (Contains grammar) s shown certifies lr1

pub returns-clause-checked : goal.returns-clause-checked
returns-clause-checked c = λ g s shown certifies lr1. refutes_lr1 (IsProductionOf g) s shown certifies lr1
