use Rattle.lalrpop_norm_theory.proofs.DeepPlaceLemmas.{deep_call_written}
use Rattle.lalrpop_norm_theory.proofs.place_law.deep_calls_are_written.Goals as goal

pub returns : goal.returns
returns c = λ finds features w f limit y p read levelable deep place.
    deep_call_written finds features w f read levelable limit y p deep place
