use Rattle.std.proofs.Common.{◌≡◌, ◌++◌, length, map}
use Rattle.std.specs.Prelude.{string_bytes}
use Rattle.lalrpop_sets.specs.IterLeft.{tokens_to_come}
use Rattle.lalrpop_sets.specs.TokenTexts.{next_text}
use Rattle.lalrpop_lane_report.specs.Reports.{behind_blanks}
use Rattle.lalrpop_lane_report.proofs.lookahead_printer.push_all.Given as goal

abbrev pub invariant-loop-token : goal.invariant-loop-token
invariant-loop-token l =
    string_bytes l.out ++ behind_blanks (map next_text (tokens_to_come l.tokens))
    ≡ string_bytes l.initial.out ++ behind_blanks (map next_text (tokens_to_come l.initial.tokens))

abbrev pub decreases-loop-token : goal.decreases-loop-token
decreases-loop-token l = length (tokens_to_come l.tokens)
