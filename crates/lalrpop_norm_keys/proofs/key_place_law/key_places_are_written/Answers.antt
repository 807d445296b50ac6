use Rattle.lalrpop_norm_keys.proofs.WrittenKeyLemmas.{key_place_written}
use Rattle.lalrpop_norm_keys.proofs.key_place_law.key_places_are_written.Goals as goal

pub returns : goal.returns
returns c = λ finds features w f read levelable y p shape h. key_place_written finds features w f read levelable y p shape h
