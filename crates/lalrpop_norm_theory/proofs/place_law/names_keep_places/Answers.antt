use Rattle.lalrpop_norm_theory.proofs.ResolvedPlaceLemmas.{resolved_place}
use Rattle.lalrpop_norm_theory.proofs.DroppedPlaceLemmas.{dropped_place}
use Rattle.lalrpop_norm_theory.proofs.place_law.names_keep_places.Goals as goal

pub returns-clause-resolved : goal.returns-clause-resolved
returns-clause-resolved c = λ finds g depth x p h. resolved_place finds g depth x p h

pub returns-clause-dropped : goal.returns-clause-dropped
returns-clause-dropped c = λ finds features w read depth x p h. dropped_place finds features w read depth x p h
