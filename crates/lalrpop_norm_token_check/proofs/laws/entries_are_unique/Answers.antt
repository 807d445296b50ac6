use Rattle.lalrpop_norm_token_check.proofs.UniqueLemmas.{entries_unique, used_unique}
use Rattle.lalrpop_norm_token_check.proofs.laws.entries_are_unique.Goals as goal

pub returns : goal.returns
returns c = record { literals = used_unique; entries = entries_unique }
