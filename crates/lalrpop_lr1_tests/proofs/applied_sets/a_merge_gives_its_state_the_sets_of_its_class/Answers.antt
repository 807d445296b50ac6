use Rattle.std.proofs.Common.{ℕ, List, subst}
use Rattle.lalrpop_lr1_core.specs.declared.state.State.{State}
use Rattle.lalrpop_lane_tables.specs.AppliedSets.{HaveActions}
use Rattle.lalrpop_lr1_tests.proofs.AppliedSetLemmas.{only_at}
use Rattle.lalrpop_lr1_tests.proofs.applied_sets.a_merge_gives_its_state_the_sets_of_its_class.Goals as goal

pub patch_target_starts-done-requires-clause-actions :
    goal.patch_target_starts-done-requires-clause-actions
patch_target_starts-done-requires-clause-actions g c n state target at =
    let P : State (List ℕ) → Type 0 = λ s. HaveActions c.reduction_alone-actions.result.keys s.reductions in
    subst P (only_at c.reducing_state.result state n.0 at) (rw c.reduction_alone-actions.ensures c.reducing_state.ensures)
