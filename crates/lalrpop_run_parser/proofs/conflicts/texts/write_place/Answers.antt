use Rattle.std.proofs.Common.{rules}
use Rattle.std.proofs.Output.{has_written_append}
use Rattle.lalrpop_run_parser.proofs.conflicts.texts.write_place.Goals as goal

pub returns : goal.returns
returns g c = λ plain ok.
    let first = c.write.ensures.writes plain (search rules) in
    has_written_append _ _ _ _ _ _ first (c.writeln.ensures.writes first.plain ok)
