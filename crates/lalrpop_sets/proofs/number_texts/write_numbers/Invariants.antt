use Rattle.std.proofs.Common.{◌≡◌, ◌++◌, ℕ, List, length, not}
use Rattle.std.specs.Fmt.{HasWritten, IsPlainFormatter}
use Rattle.lalrpop_sets.specs.AscendingLists.{is_nonempty}
use Rattle.lalrpop_sets.specs.RangeWalks.{numbers_to_come}
use Rattle.lalrpop_sets.specs.TokenTexts.{number_list_text}
use Rattle.lalrpop_sets.proofs.number_texts.write_numbers.Given as goal

abbrev pub invariant-loop-number : goal.invariant-loop-number
invariant-loop-number g l =
    (ns : List ℕ) × (ns ++ numbers_to_come l.walk ≡ numbers_to_come l.fn.walk) × (l.is_first ≡ not (is_nonempty ns))
    × (IsPlainFormatter l.initial.f → HasWritten g.W.Write.write_str_gives l.initial.f (number_list_text ns) l.f)

abbrev pub decreases-loop-number : goal.decreases-loop-number
decreases-loop-number g l = length (numbers_to_come l.walk)
