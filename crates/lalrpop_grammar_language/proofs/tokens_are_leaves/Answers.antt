use Rattle.lalrpop_grammar_language.specs.Enabled.{enabled_grammar}
use Rattle.lalrpop_grammar_language.proofs.LeafLemmas.{tokens_are}
use Rattle.lalrpop_grammar_language.proofs.tokens_are_leaves.Goals as goal

pub returns : goal.returns
returns c = λ finds features g x t tokens h. tokens_are (enabled_grammar finds features g) x t tokens h
