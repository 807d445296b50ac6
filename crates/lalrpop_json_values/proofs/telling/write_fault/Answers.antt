use Rattle.std.proofs.Common.{refl}
use Rattle.std.proofs.Output.{has_written_of_eq}
use Rattle.lalrpop_json_values.proofs.PathTextLemmas.{fault-quoted}
use Rattle.lalrpop_json_values.proofs.telling.write_fault.Goals as goal

pub returns : goal.returns
returns g c plain ok =
    has_written_of_eq _ _ _ _ _ (fault-quoted (record { path = c.args.path.now; kind = c.args.kind.now }) c.args.path.now refl)
    (c.write.ensures.writes plain ok)
