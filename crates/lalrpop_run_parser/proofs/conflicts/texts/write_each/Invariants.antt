use Rattle.std.proofs.Common.{take}
use Rattle.std.specs.Fmt.{HasWritten, IsPlainFormatter}
use Rattle.lalrpop_run_parser.specs.ConflictTexts.{conflict_lines}
use Rattle.lalrpop_run_parser.proofs.conflicts.texts.write_each.Given as goal

abbrev pub invariant-loop-conflict : goal.invariant-loop-conflict
invariant-loop-conflict g l =
    IsPlainFormatter l.initial.f
    → HasWritten g.W.Write.write_str_gives l.initial.f (conflict_lines (take l.conflict-index l.conflicts)) l.f
