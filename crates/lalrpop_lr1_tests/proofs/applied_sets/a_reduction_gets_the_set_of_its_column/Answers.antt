use Rattle.lalrpop_lr1_tests.proofs.applied_sets.a_reduction_gets_the_set_of_its_column.Goals as goal

pub apply-requires-clause-actions : goal.apply-requires-clause-actions
apply-requires-clause-actions g c = rw c.reduction_alone-actions.ensures c.reducing_state-state.ensures
