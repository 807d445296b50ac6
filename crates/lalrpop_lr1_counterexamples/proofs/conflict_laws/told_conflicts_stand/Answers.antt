use Rattle.lalrpop_lr1_counterexamples.proofs.ToldLemmas.{told_stand}
use Rattle.lalrpop_lr1_counterexamples.proofs.conflict_laws.told_conflicts_stand.Goals as goal

pub returns : goal.returns
returns c = λ g start error own fault i conflict at. told_stand g start error own fault i conflict at
