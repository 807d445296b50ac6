use Rattle.std.proofs.Common.{◌≡◌, ◌++◌, ℕ, List, length}
use Rattle.std.specs.List.{AllZip}
use Rattle.std.specs.Vec.Iter.{into_iter_items, into_iter_len}
use Rattle.lalrpop_lr1_build.specs.PublicStates.{IsPublicItem}
use Rattle.lalrpop_lr1_build.proofs.public_states.items_at.Given as goal

abbrev pub invariant-loop-place : goal.invariant-loop-place
invariant-loop-place g l =
    (done : List (ℕ × g.row.L.Denot))
    × (l.fn.places ≡ done ++ into_iter_items l.place-iterator)
    × AllZip (IsPublicItem l.table) done l.items
    × (into_iter_len l.place-iterator ≡ length (into_iter_items l.place-iterator))
