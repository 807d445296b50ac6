use Rattle.lalrpop_lexer_pattern.proofs.CopyLemmas.{same_meaning}
use Rattle.lalrpop_lexer_pattern.proofs.tree.Hir.try_clone.Goals as goal

pub returns-clause-meaning : goal.returns-clause-meaning
returns-clause-meaning c = same_meaning c.copy.result c.args.self.now c.copy.ensures
