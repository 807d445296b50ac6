use Rattle.std.proofs.Common.{◌≡◌, ◌+◌, ◌≤◌}
use Rattle.std.specs.Prelude.{drop}
use Rattle.std.specs.Fmt.{char_count}
use Rattle.lalrpop_lane_report.proofs.lines.count_chars.Given as goal

abbrev pub invariant-loop-byte : goal.invariant-loop-byte
invariant-loop-byte l =
    (l.count + char_count (drop l.byte-index l.byte-items) ≡ char_count l.byte-items) × (l.count ≤ l.byte-index)
