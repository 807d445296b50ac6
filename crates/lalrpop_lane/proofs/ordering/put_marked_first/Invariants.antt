use Rattle.std.proofs.Common.{◌≡◌, ◌++◌, ◌+◌, drop, length, true, false}
use Rattle.std.specs.Vec.Iter.{into_iter_items, into_iter_len}
use Rattle.lalrpop_lane.specs.GotoNumbers.{with_mark}
use Rattle.lalrpop_lane.proofs.ordering.put_marked_first.Given as goal

abbrev pub invariant-loop-state : goal.invariant-loop-state
invariant-loop-state l =
    (l.first.items ++ with_mark true (drop (length l.first.items + length l.others.items) l.marks) (into_iter_items l.state-iterator)
    ≡ with_mark true l.marks l.fn.states.items)
    × (l.others.items ++ with_mark false (drop (length l.first.items + length l.others.items) l.marks) (into_iter_items l.state-iterator)
    ≡ with_mark false l.marks l.fn.states.items)
    × (length l.first.items + length l.others.items + length (into_iter_items l.state-iterator) ≡ length l.marks)
    × (into_iter_len l.state-iterator ≡ length (into_iter_items l.state-iterator))
