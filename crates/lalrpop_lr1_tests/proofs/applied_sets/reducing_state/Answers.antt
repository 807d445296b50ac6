use Rattle.lalrpop_lr1_tests.proofs.AppliedSetLemmas.{only_action}
use Rattle.lalrpop_lr1_tests.proofs.applied_sets.reducing_state.Goals as goal

pub returns : goal.returns
returns g c = rw (c.in-Ok.ensures.ok, c.new-reductions.ensures) (only_action c.empty.result c.args.production)
