use Rattle.std.proofs.Common.{◌≡◌, ◌++◌, ◌+◌, drop, length}
use Rattle.std.specs.Vec.Iter.{into_iter_items, into_iter_len}
use Rattle.lalrpop_lr1_build.specs.Renumbering.{HaveTargetsWithin}
use Rattle.lalrpop_lane.specs.GotoNumbers.{states_by_numbers}
use Rattle.lalrpop_lane.proofs.ordering.renumber_states.Given as goal

abbrev pub invariant-loop-state : goal.invariant-loop-state
invariant-loop-state l =
    (l.renumbered.items
    ++ states_by_numbers l.numbers (drop (length l.renumbered.items) l.numbers) (into_iter_items l.state-iterator)
    ≡ states_by_numbers l.numbers l.numbers l.fn.states.items)
    × (length l.renumbered.items + length (into_iter_items l.state-iterator) ≡ length l.numbers)
    × HaveTargetsWithin (length l.numbers) (into_iter_items l.state-iterator)
    × (into_iter_len l.state-iterator ≡ length (into_iter_items l.state-iterator))
