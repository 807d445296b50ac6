use Rattle.std.proofs.Common.{◌≡◌, ◌++◌, map, take}
use Rattle.std.specs.Prelude.{string_bytes}
use Rattle.lalrpop_lr1_core.specs.ItemTexts.{production_symbol_text}
use Rattle.lalrpop_lane_report.specs.Reports.{behind_blanks}
use Rattle.lalrpop_lane_report.proofs.lines.push_symbols.Given as goal

abbrev pub invariant-loop-symbol : goal.invariant-loop-symbol
invariant-loop-symbol l =
    string_bytes l.out ≡ string_bytes l.initial.out ++ behind_blanks (map production_symbol_text (take l.symbol-index l.symbols))
