use Rattle.lalrpop_norm_token_check.proofs.UsedLemmas.{has_entry}
use Rattle.lalrpop_norm_token_check.proofs.laws.literals_have_entries.Goals as goal

pub returns : goal.returns
returns c = has_entry
