use Rattle.lalrpop_grammar_language.proofs.TreeLemmas.{base_tree-expanded, expanded_is}
use Rattle.lalrpop_grammar_language.proofs.TakeLemmas.{comes_back}
use Rattle.lalrpop_grammar_language.proofs.TokenLemmas.{tokens-expanded}
use Rattle.lalrpop_grammar_language.proofs.labels.inlined_trees_correspond.Goals as goal

pub returns-clause-itself : goal.returns-clause-itself
returns-clause-itself g c = λ d. base_tree-expanded g.P.Inlining.inlined_test d

pub returns-clause-expanded : goal.returns-clause-expanded
returns-clause-expanded g c =
    let i = g.P.Inlining in
    λ decides p d h. (expanded_is i.produces i.is_inlined i.inlined_test decides p d h, tokens-expanded i.inlined_test d)

pub returns-clause-apart : goal.returns-clause-apart
returns-clause-apart g c =
    let i = g.P.Inlining in
    λ decides p e h. comes_back i.produces i.is_inlined i.inlined_test decides e p h
