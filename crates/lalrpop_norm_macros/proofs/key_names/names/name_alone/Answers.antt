use Rattle.lalrpop_norm_macros.proofs.FoundNamingLemmas.{argued_call}
use Rattle.lalrpop_norm_macros.proofs.key_names.names.name_alone.Goals as goal

pub returns-in-len1-up : goal.returns-in-len1-up
returns-in-len1-up c =
    argued_call c.args.key.now c.in-Call.name c.in-Call.args c.as_slice.result.now c.in-Call.field-2 c.in-Call.is c.as_slice.ensures
    c.in-len1-up.len_at_least
