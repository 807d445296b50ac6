use Rattle.std.proofs.Common.{◌≡◌, ◌++◌, ◌+◌, drop, length}
use Rattle.lalrpop_lane.specs.GotoNumbers.{count_marked, goto_numbers, numbers_from}
use Rattle.lalrpop_lane.proofs.numbering.numbers_of.Given as goal

abbrev pub invariant-loop-stays : goal.invariant-loop-stays
invariant-loop-stays l =
    (l.numbers.items ++ numbers_from (drop l.stays-index l.fronts) l.front l.rest ≡ goto_numbers l.fronts)
    × (l.front + count_marked (drop l.stays-index l.fronts) ≡ count_marked l.fronts)
    × (l.rest + length (drop l.stays-index l.fronts) ≡ length l.fronts + count_marked (drop l.stays-index l.fronts))
