use Rattle.std.proofs.Common.{◌∙◌, ap}
use Rattle.lalrpop_lr1_build.specs.PublicStates.{finished_entries}
use Rattle.lalrpop_lr1_build.proofs.public_states.items_and_reductions.Goals as goal

pub returns-clause-reductions : goal.returns-clause-reductions
returns-clause-reductions g c = c.in_ok-reductions.ensures ∙ ap finished_entries c.as_slice.ensures
