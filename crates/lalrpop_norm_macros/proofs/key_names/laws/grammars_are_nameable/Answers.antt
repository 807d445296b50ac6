use Rattle.lalrpop_norm_macros.proofs.LeveledTextLemmas.{leveled_nameable}
use Rattle.lalrpop_norm_macros.proofs.PlainTextLemmas.{plain_nameable}
use Rattle.lalrpop_norm_macros.proofs.PrefixLemmas.{leveled_leaves}
use Rattle.lalrpop_norm_macros.proofs.key_names.laws.grammars_are_nameable.Goals as goal

pub returns-clause-leveled : goal.returns-clause-leveled
returns-clause-leveled c = leveled_nameable

pub returns-clause-plain : goal.returns-clause-plain
returns-clause-plain c = plain_nameable

pub returns-clause-prefix : goal.returns-clause-prefix
returns-clause-prefix c = leveled_leaves
