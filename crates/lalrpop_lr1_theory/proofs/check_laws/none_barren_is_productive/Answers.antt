use Rattle.std.proofs.Common.{Contains}
use Rattle.lalrpop_lr1_theory.proofs.NameLemmas.{none_barren_productive}
use Rattle.lalrpop_lr1_theory.proofs.check_laws.none_barren_is_productive.Goals as goal

pub returns : goal.returns
returns c = λ grammar s. none_barren_productive (Contains grammar) s
