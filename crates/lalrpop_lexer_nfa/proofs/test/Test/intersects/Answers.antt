use Rattle.std.proofs.Common.{arith}
use Rattle.std.proofs.lemmas.Bool.{leb-true, le-leb}
use Rattle.lalrpop_lexer_nfa.proofs.test.Test.intersects.Goals as goal

pub returns : goal.returns
returns c = (
  λ t. let h = leb-true _ _ t in (c.max-start.result, (omega arith, omega arith), (omega arith, omega arith)),
  λ h. le-leb _ _ (omega arith),
)
