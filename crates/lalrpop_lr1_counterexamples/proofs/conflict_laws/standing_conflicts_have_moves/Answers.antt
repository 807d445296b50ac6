use Rattle.lalrpop_lr1_counterexamples.proofs.LackLemmas.{lacks_none}
use Rattle.lalrpop_lr1_counterexamples.proofs.conflict_laws.standing_conflicts_have_moves.Goals as goal

pub returns : goal.returns
returns c = λ g s states ways x conflict nb can stepped stands lacks.
    lacks_none g s states ways nb can stepped.paths x conflict stands lacks
