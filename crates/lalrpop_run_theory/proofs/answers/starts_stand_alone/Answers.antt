use Rattle.std.proofs.Common.{Contains}
use Rattle.lalrpop_norm_theory.specs.Inlined.{IsInlined}
use Rattle.lalrpop_run_theory.proofs.BarrenLemmas.{start_is_alone}
use Rattle.lalrpop_run_theory.proofs.answers.starts_stand_alone.Goals as goal

pub returns : goal.returns
returns c = λ g prefix start grammar e i p m k. start_is_alone g (IsInlined g) prefix (Contains grammar) e start i p m k
