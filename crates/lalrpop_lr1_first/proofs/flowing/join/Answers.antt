use Rattle.std.proofs.Common.{refl}
use Rattle.lalrpop_lr1_first.proofs.ListLemmas.{or_left}
use Rattle.lalrpop_sets.proofs.AscendingListLemmas.{eqb_self}
use Rattle.lalrpop_lr1_first.proofs.flowing.join.Goals as goal

pub returns-in-None-clause-grown : goal.returns-in-None-clause-grown
returns-in-None-clause-grown g c = λ _ there small. (there, or_left _ _ (eqb_self there), rw c.in-None.is refl)
