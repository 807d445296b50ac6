use Rattle.std.proofs.Common.{Contains}
use Rattle.lalrpop_lr1_theory.specs.FirstSets.{HasFirst}
use Rattle.lalrpop_lr1_theory.proofs.FirstTableLemmas.{first_said, said_first}
use Rattle.lalrpop_lr1_theory.proofs.first_tables_are_exact.Goals as goal

pub returns : goal.returns
returns c = λ grammar entries close hold xs x. (
  λ h. first_said (Contains grammar) (HasFirst entries) hold xs x h,
  λ h. said_first (Contains grammar) (HasFirst entries) close xs x h,
)
