use Rattle.lalrpop_grammar_language.proofs.ShownLemmas.{shown_and_leaves}
use Rattle.lalrpop_grammar_language.proofs.leaves_fix_trees.Goals as goal

pub returns : goal.returns
returns c = λ s t shown same. shown_and_leaves s t shown same
