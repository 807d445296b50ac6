use Rattle.lalrpop_norm_theory.proofs.LevelExpansionLemmas.{levels_keep, levels_inline_alike}
use Rattle.lalrpop_norm_theory.proofs.ToldPlaceLemmas.{read_tells}
use Rattle.lalrpop_norm_theory.proofs.level_laws.levels_keep_expansion.Goals as goal

pub returns-clause-kept : goal.returns-clause-kept
returns-clause-kept c = λ finds g f w tells. levels_keep finds g f w tells

pub returns-clause-inlined : goal.returns-clause-inlined
returns-clause-inlined c = λ finds g f w x i. levels_inline_alike finds g f w x i

pub returns-clause-told : goal.returns-clause-told
returns-clause-told c = λ features g w r a i j. read_tells features g w r a i j
