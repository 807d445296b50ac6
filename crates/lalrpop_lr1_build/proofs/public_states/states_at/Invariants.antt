use Rattle.std.proofs.Common.{◌≡◌, ◌++◌, List, length}
use Rattle.std.specs.Vec.Iter.{into_iter_items, into_iter_len}
use Rattle.lalrpop_lr1_build.specs.declared.states.numbered_states.NumberedState.{NumberedState}
use Rattle.lalrpop_lr1_build.specs.PublicStates.{ArePublicStates}
use Rattle.lalrpop_lr1_build.proofs.public_states.states_at.Given as goal

abbrev pub invariant-loop-state : goal.invariant-loop-state
invariant-loop-state g l =
    (done : List (NumberedState g.row.L.Denot))
    × (l.fn.states.items ≡ done ++ into_iter_items l.state-iterator)
    × ArePublicStates l.table done l.public.items
    × (into_iter_len l.state-iterator ≡ length (into_iter_items l.state-iterator))
