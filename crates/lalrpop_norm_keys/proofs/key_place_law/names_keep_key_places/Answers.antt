use Rattle.lalrpop_norm_keys.proofs.NamedKeyLemmas.{dropped_key_place, resolved_key_place}
use Rattle.lalrpop_norm_keys.proofs.key_place_law.names_keep_key_places.Goals as goal

pub returns-clause-resolved : goal.returns-clause-resolved
returns-clause-resolved c = λ finds g x p h. resolved_key_place finds g x p h

pub returns-clause-dropped : goal.returns-clause-dropped
returns-clause-dropped c = λ finds features w read x p h. dropped_key_place finds features w read x p h
