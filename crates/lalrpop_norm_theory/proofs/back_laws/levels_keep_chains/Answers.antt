use Rattle.lalrpop_norm_theory.proofs.ChainLemmas.{same_chains, same_deep_calls}
use Rattle.lalrpop_norm_theory.proofs.back_laws.levels_keep_chains.Goals as goal

pub returns-clause-kept : goal.returns-clause-kept
returns-clause-kept c = λ finds g f w. same_chains finds g f w

pub returns-clause-deep : goal.returns-clause-deep
returns-clause-deep c = λ finds g f w. same_deep_calls finds g f w
