use Rattle.lalrpop_lr1_counterexamples.proofs.ShownTreeLemmas.{makes}
use Rattle.lalrpop_lr1_counterexamples.proofs.shown_laws.shown_trees_make_the_move.Goals as goal

pub returns : goal.returns
returns c = λ g s ways n front m x all f on shows shared tree first made.
    makes g s ways n front m x all f on shows shared tree first made
