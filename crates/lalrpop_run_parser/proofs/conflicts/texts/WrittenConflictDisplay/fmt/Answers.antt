use Rattle.std.proofs.Common.{rules}
use Rattle.std.proofs.Output.{has_written_append}
use Rattle.lalrpop_run_parser.proofs.conflicts.texts.WrittenConflictDisplay.fmt.Goals as goal

pub returns-clause-writes : goal.returns-clause-writes
returns-clause-writes g c = λ plain ok.
    let first = c.write_place.ensures plain (search rules) in
    let second = has_written_append _ _ _ _ _ _ first (c.write_move.ensures first.plain (search rules)) in
    has_written_append _ _ _ _ _ _ second (c.write_move-2.ensures second.plain ok)
