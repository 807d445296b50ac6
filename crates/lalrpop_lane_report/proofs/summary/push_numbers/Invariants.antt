use Rattle.std.proofs.Common.{◌≡◌, ◌++◌, map}
use Rattle.std.specs.Prelude.{decimal, string_bytes}
use Rattle.lalrpop_lane_report.specs.Reports.{behind_blanks}
use Rattle.lalrpop_lane_report.proofs.summary.push_numbers.Given as goal

abbrev pub invariant-loop-number : goal.invariant-loop-number
invariant-loop-number l =
    string_bytes l.out ++ behind_blanks (map decimal l.number-iterator) ≡ string_bytes l.initial.out ++ behind_blanks (map decimal l.numbers.keys)
