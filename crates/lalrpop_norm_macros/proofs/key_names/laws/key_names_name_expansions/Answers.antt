use Rattle.lalrpop_norm_macros.proofs.ExpansionNameLemmas.{expansion_named}
use Rattle.lalrpop_norm_macros.proofs.key_names.laws.key_names_name_expansions.Goals as goal

pub returns : goal.returns
returns c = expansion_named
