use Rattle.lalrpop_lr1_counterexamples.proofs.ShownConflictLemmas.{state_within}
use Rattle.lalrpop_lr1_counterexamples.proofs.certificates.room.conflict_count.Goals as goal

pub state-requires : goal.state-requires
state-requires c =
    state_within c.args.shown.now c.requires.shown c.args.number c.conflict-conflict.result.now c.conflict-conflict.ensures
