use Rattle.lalrpop_lr1_counterexamples.proofs.ShownTreeLemmas.{can_be_made}
use Rattle.lalrpop_lr1_counterexamples.proofs.shown_laws.shown_moves_can_be_made.Goals as goal

pub returns : goal.returns
returns c = λ g s ways n front m x all f on shows. can_be_made g s ways n front m x all f on shows
