use Rattle.lalrpop_norm_chain.proofs.OneNormalizedLemmas.{one_naming, one_normalized}
use Rattle.lalrpop_norm_chain.proofs.normalized_are_one.Goals as goal

pub returns-clause-names : goal.returns-clause-names
returns-clause-names c = λ finds features w v u single n m x i. one_naming finds features w v u single n m x i

pub returns-clause-parts : goal.returns-clause-parts
returns-clause-parts c = λ finds features w v u single n m alike. one_normalized finds features w v u single n m alike
